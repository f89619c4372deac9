-- Histories that show the same at each moment are the same.
use Rattle.std.proofs.Common.{◌≡◌, ℕ}
use Rattle.copy_model.specs.Moment.{History, Moment}

pub alike : (h other : History) → ((k : ℕ) → h k ≡ other k) → h ≡ other
alike h other same = λ i k. same k i
