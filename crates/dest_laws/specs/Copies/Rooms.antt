-- How much room a destination's copies take, in the step from a moment to the next. Own definitions.
use Rattle.std.specs.Prelude.{◌≡◌, ℕ, suc, ◌<◌, ◌≤◌}
use Rattle.copy_model.specs.Marks.{len_of}
use Rattle.dest_laws.specs.View.View.{room_of}
use Rattle.wire_model.specs.System.{System}

-- each has its length within what it may come to need
abbrev pub AllFit : System → ℕ → (capacity : ℕ) → Type 0
AllFit s k capacity = (j : ℕ) → j < s.made k → len_of (s.job k j).entries ≤ room_of capacity (s.job k j)

-- A length never falls, and what a copy may come to need never rises.
pub record RoomsNarrow (s : System) (k capacity : ℕ) : Type 0 where
  pub made : s.made k ≤ s.made (suc k)
  pub grows : (j : ℕ) → j < s.made k → len_of (s.job k j).entries ≤ len_of (s.job (suc k) j).entries
  pub narrows : (j : ℕ) → j < s.made k → room_of capacity (s.job (suc k) j) ≤ room_of capacity (s.job k j)
  pub fits : AllFit s (suc k) capacity

-- From a moment on no copy changes, and each takes as much room as its length there is.
pub record ReachesLast (s : System) (last : ℕ) : Type 0 where
  pub reach : (j : ℕ) → s.reach j ≡ len_of (s.job last j).entries
  pub made : (k : ℕ) → last ≤ k → s.made k ≡ s.made last
  pub still : (k j : ℕ) → last ≤ k → s.job k j ≡ s.job last j
