-- How many of the records that go out go to a worker's link, and how many bytes landed by what is told.
use Rattle.std.specs.Prelude.{ℕ, ◌==◌, Bool, false, if◌then◌else◌, List, sum_by}
use Rattle.outbox.specs.declared.note.Note.{Note}
use Rattle.outbox.specs.declared.note.Note.TheVariants.{Landed}
use Rattle.outbox.specs.declared.outgoing.Outgoing.{Outgoing}
use Rattle.outbox.specs.declared.outgoing.To.{To}
use Rattle.outbox.specs.declared.outgoing.To.TheVariants as to

-- whether a record goes to this worker's link
abbrev pub is_to : (worker : ℕ) → To → Bool
is_to worker (to.Source number) = number == worker
is_to worker _ = false

abbrev pub counted : (worker : ℕ) → Outgoing → ℕ
counted worker o = if is_to worker o.to then 1 else 0

abbrev pub records_to : (worker : ℕ) → List Outgoing → ℕ
records_to worker sent = sum_by (counted worker) sent

-- the bytes that landed, as it is told
abbrev pub landed_len : Note → ℕ
landed_len (Landed job off len) = len
landed_len _ = 0

abbrev pub landed_in : List Note → ℕ
landed_in notes = sum_by landed_len notes
