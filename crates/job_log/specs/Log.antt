-- The log of a copy job as contracts see it, and what each call makes of it. The entries are those of the
-- promise.
use Rattle.std.specs.Prelude.{◌≡◌, ℕ, zero, suc, ◌*◌, ◌/◌, ◌%◌, ◌<◌, ◌==◌, ◌||◌, ◌&&◌, not, Bool, true, false, List, [], ◌∷◌, ◌++◌, Option, None, Some, set, replicate, length, if◌then◌else◌}
use Rattle.copy_model.specs.Job.{Entry, Sized, Landed, size_of, has_landed, has_ended, chunk_len, chunk_size, chunks_of}
use Rattle.nfs_base.specs.declared.job.Stop.{Stop}
use Rattle.job_log.specs.declared.chunk.Chunk.{Chunk}
use Rattle.job_log.specs.declared.chunk.Landing.{Landing}
use Rattle.job_log.specs.declared.chunk.Landing.TheVariants.{Landed as has_come, Held, Late}
use Rattle.job_log.specs.Bits.{flag}

-- Whether the chunks have to land in order, what came about, why the job was stopped, for each chunk whether
-- it is claimed, and the length for which there is room.
pub record JobView : Type 0 where
  pub consecutive : Bool
  pub entries : List Entry
  pub cause : Option Stop
  pub claims : List Bool
  pub spare : ℕ

abbrev pub total_of : Option ℕ → ℕ
total_of None = 0
total_of (Some total) = total

-- how many bytes the range has, 0 before it is sized
abbrev pub total : List Entry → ℕ
total es = total_of (size_of es)

-- the chunk is claimed: it begins at a chunk's start that is claimed, and has that chunk's length
abbrev pub is_claimed : JobView → Chunk → Bool
is_claimed v chunk =
    (chunk.off % chunk_size == 0) && (flag v.claims (chunk.off / chunk_size) && (chunk.len == chunk_len (total v.entries) chunk.off))

-- the first n chunks have landed
abbrev pub have_landed : List Entry → ℕ → Bool
have_landed es zero = true
have_landed es (suc n) = have_landed es n && has_landed es (n * chunk_size)

-- a chunk waits where the job is consecutive and an earlier one hasn't landed
abbrev pub waits : JobView → Chunk → Bool
waits v chunk = v.consecutive && not (have_landed v.entries (chunk.off / chunk_size))

-- what landing a chunk answers
abbrev pub landing_of : JobView → Chunk → Landing
landing_of v chunk =
    if has_ended v.entries || not (is_claimed v chunk) then Late
    else (if waits v chunk then Held else has_come)

abbrev pub with_entry : JobView → Entry → JobView
with_entry v e = record v { entries = v.entries ++ e ∷ [] }

abbrev pub with_claim : JobView → Chunk → Bool → JobView
with_claim v chunk b = record v { claims = set v.claims (chunk.off / chunk_size) b }

-- the chunk has landed, and is claimed no more
abbrev pub landed : JobView → Chunk → JobView
landed v chunk = with_entry (with_claim v chunk false) (Landed chunk.off chunk.len)

abbrev pub after_landing : JobView → Chunk → Landing → JobView
after_landing v chunk has_come = landed v chunk
after_landing v chunk Held = v
after_landing v chunk Late = v

abbrev pub given_back : JobView → Chunk → JobView
given_back v chunk = if is_claimed v chunk then with_claim v chunk false else v

-- the range has a length, and none of its chunks is claimed
abbrev pub sized : JobView → ℕ → JobView
sized v len = with_entry (record v { claims = replicate (chunks_of len) false }) (Sized len)

-- the lowest chunk that is neither landed nor claimed, of a job that is sized and hasn't ended
pub record IsNextClaim (v : JobView) (chunk : Chunk) : Type 0 where
  pub running : has_ended v.entries ≡ false
  pub number : ℕ
  pub start : chunk.off ≡ number * chunk_size
  pub within : chunk.off < total v.entries
  pub length_is : chunk.len ≡ chunk_len (total v.entries) chunk.off
  pub place : number < length v.claims
  pub not_claimed : flag v.claims number ≡ false
  pub not_landed : has_landed v.entries chunk.off ≡ false
  pub earlier : (j : ℕ) → j < number → (flag v.claims j || has_landed v.entries (j * chunk_size)) ≡ true

-- where the job is sized and hasn't ended, each chunk has landed or is claimed
abbrev pub HasNoClaim : JobView → Type 0
HasNoClaim v =
    has_ended v.entries ≡ false → (j : ℕ) → j * chunk_size < total v.entries
    → (flag v.claims j || has_landed v.entries (j * chunk_size)) ≡ true

-- each claim names a chunk of the range that hasn't landed
abbrev pub ClaimsAreNew : JobView → Type 0
ClaimsAreNew v =
    (j : ℕ) → flag v.claims j ≡ true → (j * chunk_size < total v.entries) × (has_landed v.entries (j * chunk_size) ≡ false)
