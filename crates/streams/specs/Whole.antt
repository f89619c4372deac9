-- Reading all of a source, up to a limit. Own definitions.
use Rattle.std.specs.Prelude.{ℕ, ◌<◌, ◌≤◌, List, length, IfSome, ⊤}
use Rattle.std.specs.declared.option.Option.{Option}
use Rattle.std.specs.Io.KnownBytes.{Consumes, IsAtEnd}
use Rattle.outcome.specs.Causes.{Rose}
use Rattle.streams.specs.declared.whole.Whole.{Whole}
use Rattle.streams.specs.declared.whole.Whole.TheVariants.{Text, TooMuch, Failed}

-- These are all the bytes that the source had left.
pub record TakesAll (old new : Option (List ℕ)) (bytes : List ℕ) : Type 0 where
  pub taken : Consumes old new bytes
  pub ended : IsAtEnd new

-- The source gave some of its bytes, in their order.
pub record TakesFront (old new : Option (List ℕ)) : Type 0 where
  pub bytes : List ℕ
  pub taken : Consumes old new bytes

-- A text is all of the source and within the limit; `TooMuch` says that all of it is beyond.
abbrev pub WholeIs : Option (List ℕ) → Option (List ℕ) → ℕ → Whole → Type 0
WholeIs old new limit (Text text) = TakesAll old new text.items × (length text.items ≤ limit)
WholeIs old new limit TooMuch = TakesFront old new × IfSome old (λ all. limit < length all)
WholeIs old new limit Failed = TakesFront old new

-- `Failed` comes only where the count of faults rose.
abbrev pub WholeHasCause : ℕ → ℕ → Whole → Type 0
WholeHasCause before now (Text text) = ⊤
WholeHasCause before now TooMuch = ⊤
WholeHasCause before now Failed = Rose before now
