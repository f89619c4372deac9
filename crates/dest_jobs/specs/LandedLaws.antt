-- What is done to a destination's jobs lands nothing, but for a chunk that lands.
use Rattle.std.proofs.Common.{◌≡◌, ℕ, zero, suc, ◌+◌, ◌≤◌, Bool, true, false, List, [], ◌∷◌, ◌++◌, length, Option, Some, None, refl, ap, ◌∙◌, arith}
use Rattle.std.specs.Prelude.{◌/◌, ◌%◌, ◌==◌, ◌&&◌, ◌||◌, nat_lt, not, IsSome, if◌then◌else◌}
use Rattle.std.proofs.lemmas.Bool.{and_parts, eqb-true, lt-ltb}
use Rattle.std.proofs.lemmas.List.{length_push}
use Rattle.std.proofs.lemmas.List.Sums.{sum_by_push}
use Rattle.copy_model.specs.Job.{Committed, Landed, Sized, Stopped, chunk_len, chunk_size, has_ended}
use Rattle.copy_ops.specs.declared.args.CopyArgs.{CopyArgs}
use Rattle.copy_ops.specs.declared.results.CopyAnswer.{CopyAnswer}
use Rattle.job_book.specs.Book.{accept_answer, client_of, id_of, next_name}
use Rattle.job_book.specs.declared.acceptance.Acceptance.{Acceptance}
use Rattle.job_book.specs.declared.acceptance.Acceptance.TheVariants.{Accepted, Full, Overlap, TooFar}
use Rattle.job_log.specs.Bits.{flag}
use Rattle.job_log.specs.Log.{is_claimed, total, waits, JobView}
use Rattle.job_log.specs.declared.chunk.Chunk.{Chunk}
use Rattle.job_log.specs.declared.chunk.Landing.TheVariants as landings
use Rattle.job_table.specs.Table.{is_ended, is_running, job_of, landing_at, table_landing}
use Rattle.job_table.specs.declared.job.Job.{Job}
use Rattle.job_table.specs.declared.job.Plan.{Plan}
use Rattle.nfs_base.specs.declared.job.JobName.{JobName}
use Rattle.nfs_base.specs.declared.job.Stop.{Stop}
use Rattle.nfs_base.specs.declared.job.Stop.TheVariants.{Cancelled, LeaseExpired}
use Rattle.nfs_base.specs.declared.limits.TheConstants.{MOST_JOBS}
use Rattle.nfs_base.specs.declared.status.Status.{Status}
use Rattle.outbox.specs.Counting.{landed_in, landed_len}
use Rattle.outbox.specs.declared.note.Note.{Note}
use Rattle.outbox.specs.declared.note.Note.TheVariants as notes
use Rattle.outbox.specs.declared.note.TheConstants.{MOST_NOTES}
use Rattle.sess_slots.specs.Begins.{has_lapsed}
use Rattle.sess_slots.specs.Table.{SessionTable}
use Rattle.dest_jobs.specs.BytesLaws.{its_grow_bytes, its_keep_bytes, joining_keeps_bytes, more_bytes, retiring_keeps_bytes}
use Rattle.dest_jobs.specs.Copying.{after_copy, copied, decided, plan_of, refusal}
use Rattle.dest_jobs.specs.Counting.{bytes_in, untold_in, KeepsLanded, Lands}
use Rattle.dest_jobs.specs.Ending.{at_next, end_all, end_from, end_if, ended, expires, is_client, leaves, noted, stop_told, takes, with_note, with_retired}
use Rattle.dest_jobs.specs.Offloads.{after_cancel}
use Rattle.dest_jobs.specs.Progress.{commits, lands, reported_if, reports, sized_with, stopped_if, stops, IsSized}
use Rattle.dest_jobs.specs.declared.carried.Carried.{Carried}
use Rattle.dest_jobs.specs.declared.copies.Copies.{Copies}
use Rattle.dest_jobs.specs.declared.copying.CopyRoom.{CopyRoom}
use Rattle.dest_jobs.specs.declared.copying.Ends.{Ends}

-- ---- nothing lands

pub keeps_all : (x : Copies) → KeepsLanded x x
keeps_all x = record { bytes = refl; untold = refl }

pub keeps_both : (x y z : Copies) → KeepsLanded x y → KeepsLanded y z → KeepsLanded x z
keeps_both x y z first second = record { bytes = second.bytes ∙ first.bytes; untold = second.untold ∙ first.untold }

-- no chunk is none too many
pub lands_none : (x y : Copies) → KeepsLanded x y → Lands x y
lands_none x y keeps =
    let same = keeps.bytes in
    let told = keeps.untold in
    record { landed = λ room. omega arith; one_chunk = omega arith }

-- ---- what is told

noted_at : (note : Note) (told : List Note) (room : Bool) → landed_len note ≡ 0
    → landed_in (if room then told ++ note ∷ [] else told) ≡ landed_in told
noted_at note told true none = let more = sum_by_push landed_len told note in omega (arith, more, none)
noted_at note told false none = refl

noted_none : (note : Note) (told : List Note) → landed_len note ≡ 0 → landed_in (noted note told) ≡ landed_in told
noted_none note told none = noted_at note told (nat_lt (length told) MOST_NOTES) none

pub noting_lands_none : (note : Note) (x : Copies) → landed_len note ≡ 0 → KeepsLanded x (with_note note x)
noting_lands_none note x none = record { bytes = refl; untold = noted_none note x.told none }

-- ---- a job on its way

stopped_none : (running : Bool) (cause : Stop) (name : JobName) (x : Copies) → KeepsLanded x (stopped_if running cause name x)
stopped_none true cause name x =
    record {
      bytes = its_keep_bytes name _ x.book (λ log. let more = more_bytes log.entries Stopped in omega (arith, more));
      untold = noted_none (notes.Stopped name cause) x.told refl;
    }
stopped_none false cause name x = keeps_all x

pub stopping_lands_none : (cause : Stop) (name : JobName) (x : Copies) → KeepsLanded x (stops cause name x)
stopping_lands_none cause name x = stopped_none (is_running x.book.table (id_of name)) cause name x

sized_none : (spare len : ℕ) (name : JobName) (x : Copies) → KeepsLanded x (sized_with spare len name x)
sized_none spare len name x =
    record {
      bytes = its_keep_bytes name _ x.book (λ log. let more = more_bytes log.entries (Sized len) in omega (arith, more));
      untold = noted_none (notes.Sized name len) x.told refl;
    }

pub sizing_lands_none : (len : ℕ) (name : JobName) (x y : Copies) → IsSized len name x y → KeepsLanded x y
sizing_lands_none len name x y sized =
    let keeps = sized_none sized.spare len name x in
    record { bytes = ap bytes_in sized.is ∙ keeps.bytes; untold = ap untold_in sized.is ∙ keeps.untold }

pub committing_lands_none : (name : JobName) (x : Copies) → KeepsLanded x (commits name x)
committing_lands_none name x =
    record {
      bytes = its_keep_bytes name _ x.book (λ log. let more = more_bytes log.entries Committed in omega (arith, more));
      untold = noted_none (notes.Committed name) x.told refl;
    }

-- ---- a job's end

retired_none : (name : JobName) (x : Copies) → KeepsLanded x (with_retired name x)
retired_none name x = record { bytes = retiring_keeps_bytes name x.book; untold = refl }

reported_none : (ends : Bool) (name : JobName) (x : Copies) → KeepsLanded x (reported_if ends name x)
reported_none true name x =
    let told = with_note (notes.Reported name) x in
    keeps_both x told (with_retired name told) (noting_lands_none (notes.Reported name) x refl) (retired_none name told)
reported_none false name x = keeps_all x

pub reporting_lands_none : (name : JobName) (x : Copies) → KeepsLanded x (reports name x)
reporting_lands_none name x = reported_none (is_ended x.book.table (id_of name)) name x

stop_none : (running : Bool) (cause : Stop) (name : JobName) (x : Copies) → KeepsLanded x (stop_told running cause name x)
stop_none true cause name x = noting_lands_none (notes.Stopped name cause) x refl
stop_none false cause name x = keeps_all x

pub ending_lands_none : (cause : Stop) (name : JobName) (x : Copies) → KeepsLanded x (ended cause name x)
ending_lands_none cause name x =
    let told = stop_told (is_running x.book.table (id_of name)) cause name x in
    keeps_both x told (with_retired name told) (stop_none (is_running x.book.table (id_of name)) cause name x) (retired_none name told)

one_none : (ends : Bool) (cause : Stop) (name : JobName) (x : Copies) → KeepsLanded x (end_if ends cause name x)
one_none true cause name x = ending_lands_none cause name x
one_none false cause name x = keeps_all x

next_none : (next : Option JobName) (go : JobName → Copies → Copies) (x : Copies) → ((name : JobName) → KeepsLanded x (go name x))
    → KeepsLanded x (at_next next go x)
next_none None go x each = keeps_all x
next_none (Some name) go x each = each name

from_none : (test : ℕ → Bool) (cause : Stop) (left after : ℕ) (x : Copies) → KeepsLanded x (end_from test cause left after x)
unfolding end_from
from_none test cause zero after x = keeps_all x
from_none test cause (suc left) after x =
    next_none (next_name x.book.table after)
    (λ name y. end_from test cause left name.number (end_if (takes test (client_of y.book.table name)) cause name y)) x
    (λ name.
    let y = end_if (takes test (client_of x.book.table name)) cause name x in
    keeps_both x y (end_from test cause left name.number y) (one_none (takes test (client_of x.book.table name)) cause name x) (from_none test cause left name.number y))

pub ends_land_none : (test : ℕ → Bool) (cause : Stop) (x : Copies) → KeepsLanded x (end_all test cause x)
ends_land_none test cause x = from_none test cause MOST_JOBS 0 x

pub leaving_lands_none : (client : ℕ) (cause : Stop) (x : Copies) → KeepsLanded x (leaves client cause x)
leaving_lands_none client cause x = ends_land_none (is_client client) cause x

pub expiring_lands_none : (sessions : SessionTable) (second : ℕ) (x : Copies) → KeepsLanded x (expires sessions second x)
expiring_lands_none sessions second x = ends_land_none (λ client. has_lapsed sessions client second) LeaseExpired x

pub cancelling_lands_none : (job : Option JobName) (x : Copies) → KeepsLanded x (after_cancel job x)
cancelling_lands_none None x = keeps_all x
cancelling_lands_none (Some name) x = ending_lands_none Cancelled name x

-- ---- a copy that is asked for

accepted_none : (answer : Acceptance) (plan : Plan) (x : Copies) → KeepsLanded x (after_copy answer plan x)
accepted_none (Accepted name) plan x =
    record {
      bytes = joining_keeps_bytes plan x.book;
      untold = noted_none (notes.Accepted name plan.file plan.dst_off plan.count) x.told refl;
    }
accepted_none (Overlap name) plan x = record { bytes = refl; untold = noted_none (notes.Overlap name) x.told refl }
accepted_none Full plan x = keeps_all x
accepted_none TooFar plan x = keeps_all x

decided_none : (answer : Option CopyAnswer) (plan : Plan) (boot : ℕ) (x : Copies) → KeepsLanded x (decided answer plan boot x).0
decided_none (Some answer) plan boot x = keeps_all x
decided_none None plan boot x = accepted_none (accept_answer x.book.table plan) plan x

pub copying_lands_none : (client : ℕ) (carry : Option Carried) (args : CopyArgs) (ends : Ends) (room : CopyRoom) (closed : Option Status) (boot : ℕ) (x : Copies)
    → KeepsLanded x (copied client carry args ends room closed boot x).0
copying_lands_none client carry args ends room closed boot x =
    decided_none (refusal x.source.loc carry args closed) (plan_of client args ends room) boot x

-- ---- a chunk lands

there_at : (job : Option Job) (chunk : Chunk) → landing_at job chunk ≡ landings.Landed → IsSome job
there_at None chunk takes = absurd (cc)
there_at (Some job) chunk takes = refl

short_by : (v : JobView) (chunk : Chunk) (ended claimed waiting : Bool) → is_claimed v chunk ≡ claimed
    → (if ended || not claimed then landings.Late else (if waiting then landings.Held else landings.Landed)) ≡ landings.Landed → chunk.len ≤ chunk_size
short_by v chunk true claimed waiting is takes = absurd (cc)
short_by v chunk false false waiting is takes = absurd (cc)
short_by v chunk false true waiting is takes =
    let len_of = chunk_len (total v.entries) chunk.off in
    let flagged = flag v.claims (chunk.off / chunk_size) in
    let len : chunk.len ≡ len_of =
    eqb-true chunk.len len_of (and_parts flagged (chunk.len == len_of) (and_parts (chunk.off % chunk_size == 0) (flagged && (chunk.len == len_of)) is).1).1 in
    omega (arith, len)

short_at : (job : Option Job) (chunk : Chunk) → landing_at job chunk ≡ landings.Landed → chunk.len ≤ chunk_size
short_at None chunk takes = absurd (cc)
short_at (Some job) chunk takes = short_by job.log chunk (has_ended job.log.entries) (is_claimed job.log chunk) (waits job.log chunk) refl takes

-- a chunk that may land is a whole one at most
pub chunk_is_short : (name : JobName) (chunk : Chunk) (x : Copies) → table_landing x.book.table (id_of name) chunk ≡ landings.Landed → chunk.len ≤ chunk_size
chunk_is_short name chunk x takes = short_at (job_of x.book.table (id_of name)) chunk takes

told_by : (note : Note) (told : List Note) (room : Bool) → landed_in (if room then told ++ note ∷ [] else told) ≤ landed_in told + landed_len note
told_by note told true = let more = sum_by_push landed_len told note in omega (arith, more)
told_by note told false = omega arith

told_whole : (note : Note) (told : List Note) (room : Bool) → room ≡ true → landed_in (if room then told ++ note ∷ [] else told) ≡ landed_in told + landed_len note
told_whole note told true is = sum_by_push landed_len told note
told_whole note told false is = absurd (cc)

pub chunks_land : (name : JobName) (chunk : Chunk) (x : Copies) → table_landing x.book.table (id_of name) chunk ≡ landings.Landed → Lands x (lands name chunk x)
chunks_land name chunk x takes =
    let note = notes.Landed name chunk.off chunk.len in
    let short = chunk_is_short name chunk x takes in
    let some = told_by note x.told (nat_lt (length x.told) MOST_NOTES) in
    let grown : bytes_in (lands name chunk x) ≡ bytes_in x + chunk.len =
    its_grow_bytes name _ chunk.len x.book (there_at (job_of x.book.table (id_of name)) chunk takes) (λ log. more_bytes log.entries (Landed chunk.off chunk.len)) in
    record {
      landed = λ room.
          let whole : untold_in (lands name chunk x) ≡ untold_in x + chunk.len =
          told_whole note x.told (nat_lt (length x.told) MOST_NOTES) (lt-ltb (length x.told) MOST_NOTES room) in
          omega (arith, grown, whole);
      one_chunk = omega (arith, some, short);
    }

-- ---- how many notes there are: one at most for each job that ends, and one where a job gets its length

noted_one : (note : Note) (told : List Note) (room : Bool) → length (if room then told ++ note ∷ [] else told) ≤ length told + 1
noted_one note told true = let more = length_push told note in omega (arith, more)
noted_one note told false = omega arith

stop_one : (running : Bool) (cause : Stop) (name : JobName) (x : Copies) → length (stop_told running cause name x).told ≤ length x.told + 1
stop_one true cause name x = noted_one (notes.Stopped name cause) x.told (nat_lt (length x.told) MOST_NOTES)
stop_one false cause name x = omega arith

end_one : (ends : Bool) (cause : Stop) (name : JobName) (x : Copies) → length (end_if ends cause name x).told ≤ length x.told + 1
end_one true cause name x = stop_one (is_running x.book.table (id_of name)) cause name x
end_one false cause name x = omega arith

next_few : (next : Option JobName) (go : JobName → Copies → Copies) (x : Copies) (left : ℕ) → ((name : JobName) → length (go name x).told ≤ length x.told + left)
    → length (at_next next go x).told ≤ length x.told + left
next_few None go x left each = omega arith
next_few (Some name) go x left each = each name

from_few : (test : ℕ → Bool) (cause : Stop) (left after : ℕ) (x : Copies) → length (end_from test cause left after x).told ≤ length x.told + left
unfolding end_from
from_few test cause zero after x = omega arith
from_few test cause (suc left) after x =
    next_few (next_name x.book.table after)
    (λ name y. end_from test cause left name.number (end_if (takes test (client_of y.book.table name)) cause name y)) x (suc left)
    (λ name.
    let here = end_one (takes test (client_of x.book.table name)) cause name x in
    let rest = from_few test cause left name.number (end_if (takes test (client_of x.book.table name)) cause name x) in
    omega (arith, here, rest))

pub ends_tell_few : (test : ℕ → Bool) (cause : Stop) (x : Copies) → length (end_all test cause x).told ≤ length x.told + MOST_JOBS
ends_tell_few test cause x = from_few test cause MOST_JOBS 0 x

pub expiring_tells_few : (sessions : SessionTable) (second : ℕ) (x : Copies) → length (expires sessions second x).told ≤ length x.told + MOST_JOBS
expiring_tells_few sessions second x = ends_tell_few (λ client. has_lapsed sessions client second) LeaseExpired x

pub sizing_tells_one : (len : ℕ) (name : JobName) (x y : Copies) → IsSized len name x y → length y.told ≤ length x.told + 1
sizing_tells_one len name x y sized =
    let one = noted_one (notes.Sized name len) x.told (nat_lt (length x.told) MOST_NOTES) in
    let same = ap (λ (c : Copies). length c.told) sized.is in
    omega (arith, one, same)
