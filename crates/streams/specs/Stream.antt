-- What an object tells of itself: how it stands as a source, and how it stands as a sink. An object that is
-- but one of them, or that tells nothing, stands as the other as `gives_nothing` and `takes_nothing` say.
-- Own definitions.
use Rattle.std.specs.Prelude.{ℕ, List, [], ◌∷◌, ◌++◌}
use Rattle.std.specs.declared.option.Option.{Option}
use Rattle.std.specs.declared.option.Option.TheVariants.{None, Some}

-- As a source.
pub record Giving : Type 0 where
  pub left : Option (List ℕ)  -- the bytes that are left, where it tells them
  pub whole : Option (List ℕ)  -- all the bytes that it ever gives, where it tells that
  pub faults : ℕ  -- how many takes failed; the count stops at the end of its type
  pub failing : List ℕ  -- the numbers of the takes that are to fail, where that was planned

-- As a sink.
pub record Taking : Type 0 where
  pub taken : Option (List ℕ)  -- the bytes that were taken, where it tells them
  pub pieces : Option (List (List ℕ))  -- the pieces that it was given, one a put, where it tells them
  pub faults : ℕ  -- how many puts failed; the count stops at the end of its type
  pub failing : List ℕ  -- the numbers of the puts that are to fail, where that was planned

abbrev pub gives_nothing : Giving
gives_nothing = record { left = None; whole = None; faults = 0; failing = [] }

abbrev pub takes_nothing : Taking
takes_nothing = record { taken = None; pieces = None; faults = 0; failing = [] }

-- More pieces were given, where the pieces are told.
abbrev pub with_pieces : Option (List (List ℕ)) → List (List ℕ) → Option (List (List ℕ))
with_pieces None pieces = None
with_pieces (Some earlier) pieces = Some (earlier ++ pieces)

abbrev pub with_piece : Option (List (List ℕ)) → List ℕ → Option (List (List ℕ))
with_piece earlier piece = with_pieces earlier (piece ∷ [])

-- Single parts of what a type's objects tell.
abbrev pub left_of : {A : Type 0} → (A → Giving) → A → Option (List ℕ)
left_of gives object = (gives object).left

abbrev pub faults_of : {A : Type 0} → (A → Giving) → A → ℕ
faults_of gives object = (gives object).faults
