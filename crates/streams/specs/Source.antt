-- What one call of a source may answer, and what it leaves. Own definitions.
use Rattle.std.specs.Prelude.{◌≡◌, ℕ, ◌<◌, ◌≤◌, List, length, take, ⊤}
use Rattle.std.specs.declared.option.Option.{Option}
use Rattle.std.specs.Io.KnownBytes.{Keeps, Consumes, IsAtEnd}
use Rattle.outcome.specs.Causes.{Rose}
use Rattle.streams.specs.declared.source.Take.{Take}
use Rattle.streams.specs.declared.source.Take.TheVariants.{Took, End, Failed}

-- The count is at most the buffer's length, and not 0 where the buffer has room. The middle part
-- follows from the first, and is what a caller needs to cut the buffer there.
abbrev pub TakesWithin : Take → List ℕ → Type 0
TakesWithin (Took n) buf = (n ≤ length buf) × (n ≡ length (take n buf)) × (0 < length buf → 0 < n)
TakesWithin End buf = ⊤
TakesWithin Failed buf = ⊤

-- What the source had left begins with the bytes that it gave; at the end it has none; a fault
-- takes none.
abbrev pub TakesBytes : Option (List ℕ) → Option (List ℕ) → Take → List ℕ → Type 0
TakesBytes old new (Took n) buf = Consumes old new (take n buf)
TakesBytes old new End buf = Keeps old new × IsAtEnd new
TakesBytes old new Failed buf = Keeps old new

-- The count of faults never falls, and `Failed` comes only where it rose.
abbrev pub TakeHasCause : ℕ → ℕ → Take → Type 0
TakeHasCause before now (Took n) = before ≤ now
TakeHasCause before now End = before ≤ now
TakeHasCause before now Failed = (before ≤ now) × Rose before now

-- Some bytes were taken, and at most so many.
abbrev pub TookWithin : ℕ → Take → List ℕ → Type 0
TookWithin most (Took n) room = (0 < n) × (n ≤ most) × (n ≤ length room)
TookWithin most _ room = ⊤
