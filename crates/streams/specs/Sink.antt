-- What one call of a sink may answer, and what it leaves. Own definitions.
use Rattle.std.specs.Prelude.{◌≡◌, ℕ, ◌<◌, ◌≤◌, List, [], ◌∷◌, length, take, drop, ⊤}
use Rattle.std.specs.declared.option.Option.{Option}
use Rattle.std.specs.Io.KnownBytes.{Keeps, Appends}
use Rattle.outcome.specs.Causes.{Rose}
use Rattle.streams.specs.Stream.{with_pieces}
use Rattle.streams.specs.declared.sink.Put.{Put}
use Rattle.streams.specs.declared.sink.Put.TheVariants as puts

-- The count is at most the piece's length, and not 0 where the piece has bytes.
abbrev pub PutsWithin : Put → List ℕ → Type 0
PutsWithin (puts.Put n) piece = (n ≤ length piece) × (0 < length piece → 0 < n)
PutsWithin puts.Failed piece = ⊤

-- The sink's bytes grow by the front of the piece that it took; a fault takes none.
abbrev pub PutsBytes : Option (List ℕ) → Option (List ℕ) → Put → List ℕ → Type 0
PutsBytes old new (puts.Put n) piece = Appends old new (take n piece)
PutsBytes old new puts.Failed piece = Keeps old new

-- The count of faults never falls, and `Failed` comes only where it rose.
abbrev pub PutHasCause : ℕ → ℕ → Put → Type 0
PutHasCause before now (puts.Put n) = before ≤ now
PutHasCause before now puts.Failed = (before ≤ now) × Rose before now

-- The sink's bytes grew by a front of these: by none of them, by some, or by all.
pub record AppendsFront (old new : Option (List ℕ)) (bytes : List ℕ) : Type 0 where
  pub count : ℕ
  pub within : count ≤ length bytes
  pub appended : Appends old new (take count bytes)

-- The pieces by which bytes were offered, from the first place on: each is all that stands from its place on,
-- and the next place is behind it.
abbrev pub OffersFrom : List ℕ → ℕ → List (List ℕ) → Type 0
OffersFrom bytes place [] = ⊤
OffersFrom bytes place (piece ∷ pieces) =
    (place < length bytes) × (piece ≡ drop place bytes) × (next : ℕ) × (place < next) × OffersFrom bytes next pieces

-- The bytes were offered as one piece: the first put had all of them, and each further one what was left of
-- them. Where there are none, nothing was put.
pub record Offers (old new : Option (List (List ℕ))) (bytes : List ℕ) : Type 0 where
  pub pieces : List (List ℕ)
  pub told : new ≡ with_pieces old pieces
  pub whole : OffersFrom bytes 0 pieces
  pub some : 0 < length bytes → 0 < length pieces
