-- The sequence numbers that a context has seen, in a window of 128 that ends with the greatest (RFC 2203
-- section 5.3.3.1).
use Rattle.std.specs.Prelude.{ℕ, zero, suc, ◌+◌, ◌-◌, ◌==◌, ◌||◌, ◌&&◌, Bool, false, nat_lt, nat_le, max, List, [], ◌∷◌, slice_index_or}
use Rattle.std.specs.Int.{bit_at}
use Rattle.nfs_base.specs.declared.limits.TheConstants.{WINDOW_SIZE}

pub record Seen : Type 0 where
  -- the greatest number that was seen; 0 where none was
  pub greatest : ℕ
  -- of each number of the window, from the greatest down, whether it was seen
  pub marks : List Bool

-- what f says of n numbers from i on
unfoldable pub marks_of : (ℕ → Bool) → ℕ → ℕ → List Bool
marks_of f i zero = []
marks_of f i (suc n) = f i ∷ marks_of f (i + 1) n

-- the window that ends with this number, of the numbers that pass a test
abbrev pub window_of : ℕ → (ℕ → Bool) → Seen
window_of greatest test = record { greatest = greatest; marks = marks_of (λ i. nat_le i greatest && test (greatest - i)) 0 WINDOW_SIZE }

-- whether a number was seen and isn't below the window
abbrev pub has : Seen → ℕ → Bool
has seen n = nat_le n seen.greatest && slice_index_or seen.marks (seen.greatest - n) false

abbrev pub none_seen : Seen
none_seen = window_of 0 (λ n. false)

-- the number is less than the greatest seen minus 127
abbrev pub is_below : Seen → ℕ → Bool
is_below seen n = nat_lt (n + (WINDOW_SIZE - 1)) seen.greatest

-- the numbers seen once n is seen too; those below the window are forgotten
unfoldable pub noted : ℕ → Seen → Seen
noted n seen = window_of (max seen.greatest n) (λ k. (k == n) || has seen k)

-- 128 bits stand for a window: bit i for the number i below the greatest
abbrev pub seen_of : ℕ → ℕ → Seen
seen_of greatest bits = record { greatest = greatest; marks = marks_of (λ i. nat_le i greatest && (bit_at bits i == 1)) 0 WINDOW_SIZE }
