-- Why a draw is said to have failed.
use Rattle.std.specs.Prelude.{ℕ, ⊤}
use Rattle.outcome.specs.Causes.{Rose}
use Rattle.single_copy.specs.declared.phases.Phase.{Phase}
use Rattle.single_copy.specs.declared.phases.Phase.TheVariants.{Fresh, Asking, Told, Parted, Undrawn}

-- where a draw failed, the draws' count of faults rose
abbrev pub DrawHasCause : ℕ → ℕ → Phase → Type 0
DrawHasCause before now Fresh = ⊤
DrawHasCause before now Asking = ⊤
DrawHasCause before now (Told last) = ⊤
DrawHasCause before now (Parted last) = ⊤
DrawHasCause before now (Undrawn last) = Rose before now
