-- Where a reader stands, and what a step of reading answers.
use Rattle.std.specs.Prelude.{◌≡◌, ℕ, ◌+◌, ◌<◌, List, ◌++◌, drop, slice_index, Result, Ok, Err}

-- what contracts see of a reader
pub record Cursor : Type 0 where
  -- bytes passed since the reader's first byte
  pub at : ℕ
  -- bytes left
  pub rest : List ℕ

-- the cursor n bytes further on
abbrev pub past : ℕ → Cursor → Cursor
past n c = record { at = c.at + n; rest = drop n c.rest }

-- every number of the list is a byte
abbrev pub IsBytes : List ℕ → Type 0
IsBytes bytes = (i : ℕ) → slice_index bytes i < 256

-- One step after another, up to the first that is refused. `do` writes it.
infixl 10 ◌>>=◌
abbrev pub ◌>>=◌ : {A B E : Type 0} → Result A E → (A → Result B E) → Result B E
(Ok x) >>= f = f x
(Err e) >>= f = Err e

-- A call answered what `told` says: the value, seen by `view`, and the cursor behind it. A refusal
-- leaves the reader where it stood.
abbrev pub Takes : {X Y E : Type 0} → (X → Y) → Result X E → Cursor → Cursor → Result (Y × Cursor) E → Type 0
Takes view (Ok x) old new told = told ≡ Ok (view x, new)
Takes view (Err e) old new told = (told ≡ Err e) × (new ≡ old)

-- what was written after the old bytes
pub record Appends (old text new : List ℕ) : Type 0 where
  pub is : new ≡ old ++ text
