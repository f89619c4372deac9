-- A row of flags, and how the bits of words stand for it.
use Rattle.std.specs.Prelude.{ℕ, zero, suc, ◌+◌, ◌*◌, ◌/◌, ◌%◌, ◌≤◌, ◌==◌, ◌||◌, Bool, true, false, List, [], ◌∷◌, length, slice_index_or, ◌≡◌, ◌<◌}
use Rattle.std.specs.Int.{bit_at}

-- the flags, and how many there is room for
pub record Flags : Type 0 where
  pub flags : List Bool
  pub room : ℕ

-- the flag at a place; past the end there is none
abbrev pub flag : List Bool → ℕ → Bool
flag flags i = slice_index_or flags i false

-- the i-th bit of a row of words of 64 bits
abbrev pub bit : List ℕ → ℕ → Bool
bit words i = bit_at (slice_index_or words (i / 64) 0) (i % 64) == 1

-- n flags by a test, from the i-th on
abbrev pub flags_by : (ℕ → Bool) → ℕ → ℕ → List Bool
flags_by test i zero = []
flags_by test i (suc n) = test i ∷ flags_by test (i + 1) n

-- the first n bits of a row of words
abbrev pub flags_of : List ℕ → ℕ → List Bool
flags_of words n = flags_by (bit words) 0 n

-- the same with the room of so many words
abbrev pub seen_flags : List ℕ → ℕ → ℕ → Flags
seen_flags words n capacity = record { flags = flags_of words n; room = capacity * 64 }

-- From the place low on, the first flag that neither row has is at the place i.
pub record IsFirstFree (a b : List Bool) (low i : ℕ) : Type 0 where
  pub from : low ≤ i
  pub within : i < length a
  pub not_first : flag a i ≡ false
  pub not_second : flag b i ≡ false
  pub earlier : (j : ℕ) → low ≤ j → j < i → (flag a j || flag b j) ≡ true

-- From the place low on each flag is in one of the rows.
abbrev pub HasNoneFree : List Bool → List Bool → ℕ → Type 0
HasNoneFree a b low = (j : ℕ) → low ≤ j → j < length a → (flag a j || flag b j) ≡ true

-- the place of the lowest bit of a word that is 0
pub record IsLowestClear (word i : ℕ) : Type 0 where
  pub within : i < 64
  pub is_clear : bit_at word i ≡ 0
  pub lower : (j : ℕ) → j < i → bit_at word j ≡ 1
