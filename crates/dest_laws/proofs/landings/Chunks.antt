-- A chunk that a job takes is one of its range, and the job goes on.
use Rattle.std.proofs.Common.{◌≡◌, ℕ, ◌+◌, ◌≤◌, Bool, true, false, List, Option, Some, None, refl, arith}
use Rattle.std.specs.Prelude.{◌/◌, ◌%◌, ◌-◌, ◌==◌, ◌&&◌, ◌||◌, not, if◌then◌else◌, min, unwrap_or}
use Rattle.std.proofs.Math.Nat.{min-le_right}
use Rattle.std.proofs.lemmas.Bool.{eqb-true}
use Rattle.copy_model.specs.Job.{Entry, chunk_len, chunk_size, has_ended, size_of}
use Rattle.copy_model.specs.Marks.{len_of}
use Rattle.job_book.specs.Book.{id_of, named}
use Rattle.job_log.specs.Bits.{flag}
use Rattle.job_log.specs.Log.{ClaimsAreNew, JobView, is_claimed, landing_of, total, total_of, waits}
use Rattle.job_log.specs.declared.chunk.Chunk.{Chunk}
use Rattle.job_log.specs.declared.chunk.Landing.TheVariants as takes
use Rattle.job_table.specs.Table.{JobTable, landing_at, table_landing}
use Rattle.job_table.specs.declared.job.Job.{Job}
use Rattle.nfs_base.specs.declared.job.JobName.{JobName}

both_so : (a b : Bool) → (a && b) ≡ true → (a ≡ true) × (b ≡ true)
both_so true b is = (refl, is)
both_so false b is = absurd cc

landing_bools : (ended claimed held : Bool) → (if ended || not claimed then takes.Late else (if held then takes.Held else takes.Landed)) ≡ takes.Landed
    → (ended ≡ false) × (claimed ≡ true)
landing_bools true claimed held is = absurd cc
landing_bools false false held is = absurd cc
landing_bools false true held is = (refl, refl)

pub record TakesChunk (log : JobView) (chunk : Chunk) : Type 0 where
  pub running : has_ended log.entries ≡ false
  pub within : chunk.off + chunk.len ≤ total log.entries

pub takes_chunk : (log : JobView) (chunk : Chunk) → ClaimsAreNew log → landing_of log chunk ≡ takes.Landed → TakesChunk log chunk
takes_chunk log chunk new is =
    let b = landing_bools (has_ended log.entries) (is_claimed log chunk) (waits log chunk) is in
    let all = total log.entries in
    let number = chunk.off / chunk_size in
    let first = both_so (chunk.off % chunk_size == 0) (flag log.claims number && (chunk.len == chunk_len all chunk.off)) b.1 in
    let rest = both_so (flag log.claims number) (chunk.len == chunk_len all chunk.off) first.1 in
    let even = eqb-true (chunk.off % chunk_size) 0 first.0 in
    let below = (new number rest.0).0 in
    let len : chunk.len ≡ min chunk_size (all - chunk.off) = eqb-true chunk.len (chunk_len all chunk.off) rest.1 in
    let small = min-le_right chunk_size (all - chunk.off) in
    record { running = b.0; within = omega (arith, even, below, len, small) }

pub record TakenBy (t : JobTable) (name : JobName) (chunk : Chunk) : Type 0 where
  pub job : Job
  pub there : named t name ≡ Some job
  pub lands : landing_of job.log chunk ≡ takes.Landed

taken_in : (t : JobTable) (name : JobName) (chunk : Chunk) (o : Option Job) → named t name ≡ o → landing_at o chunk ≡ takes.Landed → TakenBy t name chunk
taken_in t name chunk None is lands = absurd cc
taken_in t name chunk (Some job) is lands = record { job = job; there = is; lands = lands }

pub taken_by : (t : JobTable) (name : JobName) (chunk : Chunk) → table_landing t (id_of name) chunk ≡ takes.Landed → TakenBy t name chunk
taken_by t name chunk lands = taken_in t name chunk (named t name) refl lands

-- so is one that waits
waits_in : (t : JobTable) (name : JobName) (chunk : Chunk) (o : Option Job) → named t name ≡ o → landing_at o chunk ≡ takes.Held → (job : Job) × (named t name ≡ Some job)
waits_in t name chunk None is lands = absurd cc
waits_in t name chunk (Some job) is lands = (job, is)

pub waits_by : (t : JobTable) (name : JobName) (chunk : Chunk) → table_landing t (id_of name) chunk ≡ takes.Held → (job : Job) × (named t name ≡ Some job)
waits_by t name chunk lands = waits_in t name chunk (named t name) refl lands

len_same : (o : Option ℕ) → total_of o ≡ unwrap_or o 0
len_same None = refl
len_same (Some n) = refl

pub total_len : (es : List Entry) → total es ≡ len_of es
total_len es = len_same (size_of es)
