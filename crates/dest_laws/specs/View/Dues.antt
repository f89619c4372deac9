-- What the parts of a destination owe each other in the step from a moment to the next. Own definitions.
use Rattle.std.specs.Prelude.{◌≡◌, ◌⊎◌, ℕ, suc, ◌<◌, ◌≤◌, true, Some, List, [], ◌∷◌, ◌++◌}
use Rattle.copy_model.specs.Job.{Entry, Landed, Sized}
use Rattle.copy_model.specs.Marks.{len_of}
use Rattle.dest_laws.specs.View.View.{room_of}
use Rattle.wire_model.specs.Copies.{Lands, is_safe}
use Rattle.wire_model.specs.CopyLaws.{IsDue, IsFetched, IsLanding}
use Rattle.wire_model.specs.Meaning.{Meaning}
use Rattle.wire_model.specs.Spelling.{Spelling}
use Rattle.wire_model.specs.System.{Chunk, System}

-- the log of a copy that was there gets this entry
abbrev pub IsPushed : System → ℕ → ℕ → Entry → Type 0
IsPushed s k j entry = (j < s.made k) × ((s.job (suc k) j).entries ≡ (s.job k j).entries ++ entry ∷ [])

-- What comes from the source is due: a length that becomes known, and a chunk that lands.
pub record LandsWell (spell : Spelling) (meaning : Meaning) (s : System) (k : ℕ) : Type 0 where
  pub sizes : (j len : ℕ) → IsPushed s k j (Sized len) → IsDue spell meaning s k j (Sized len)
  pub lands : (j off len : ℕ) → IsPushed s k j (Landed off len) → IsDue spell meaning s k j (Landed off len)

-- What lands and what is held was at hand.
pub record HoldsWell (spell : Spelling) (meaning : Meaning) (s : System) (k : ℕ) : Type 0 where
  pub lands : (j off : ℕ) (bytes : List ℕ) → s.deed k ≡ Lands j off bytes → IsLanding spell meaning s k j off bytes
  pub holds : (worker : ℕ) (chunk : Chunk) → s.holds (suc k) worker ≡ Some chunk
      → (s.holds k worker ≡ Some chunk) ⊎ IsFetched spell meaning s k chunk

-- A copy that is reported as stable is safe.
abbrev pub AreSafe : System → ℕ → Type 0
AreSafe s k = (j : ℕ) → (s.job k j).stable ≡ true → is_safe (s.job k j) ≡ true

-- How much room a copy takes in the end lies between what it has and what it may come to need.
abbrev pub ReachesWithin : System → ℕ → (capacity : ℕ) → Type 0
ReachesWithin s k capacity =
    (j : ℕ) → j < s.made k → (len_of (s.job k j).entries ≤ s.reach j) × (s.reach j ≤ room_of capacity (s.job k j))
