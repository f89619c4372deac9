-- A way to the other end of a connection, on which others put records too: what the book of its failed puts tells. Own definitions.
use Rattle.std.specs.Prelude.{◌≡◌, ℕ, ◌+◌, ◌-◌, ◌^◌, ◌≤◌, min, Bool, true, false, Option, Some, None}
use Rattle.outcome.specs.Causes.{RoseBy}
use Rattle.streams.specs.Stream.{Taking}
use Rattle.callback_links.specs.declared.line.Way.{Way}

abbrev pub count_of : Bool → ℕ
count_of true = 1
count_of false = 0

-- So many of the connection's own puts failed, and at least as many did of the way's; one more where another's record was cut off
-- on it, which the connection isn't told of yet.
abbrev pub FailedBy : {T : Type 0} → (takes : T → Taking) → Way T → (failed : ℕ) → Type 0
FailedBy takes way failed = RoseBy (count_of way.owed + failed) 0 (takes way.to).faults

-- The book has nothing where no connection is served. Else it has one for the connection, and one for each of the connection's own
-- puts that failed.
abbrev pub Stands : {T : Type 0} → (takes : T → Taking) → Option (Way T) → (total : ℕ) → Type 0
Stands takes None total = total ≡ 0
Stands takes (Some way) total = (1 ≤ total) × FailedBy takes way (total - 1)

-- After a put of the connection one more failed, or none.
abbrev pub missed : (whole : Bool) → ℕ
missed true = 0
missed false = 1

-- The connection's own count after a put, which stops at the end of its type.
abbrev pub failed_after : (failed : ℕ) → (whole : Bool) → ℕ
failed_after failed true = failed
failed_after failed false = min (failed + 1) (2 ^ 64 - 1)

-- What is known of the way's failed puts before a call is known after it, with so many more.
abbrev pub Fails : {T : Type 0} → (takes : T → Taking) → (old new : Way T) → (more : ℕ) → Type 0
Fails takes old new more = (failed : ℕ) → FailedBy takes old failed → FailedBy takes new (failed + more)
