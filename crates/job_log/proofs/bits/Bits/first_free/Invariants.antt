use Rattle.std.proofs.Common.{◌≡◌, ◌*◌, ◌<◌, ◌≤◌, length, true, ℕ}
use Rattle.std.specs.Prelude.{◌||◌}
use Rattle.job_log.specs.Bits.{flag}
use Rattle.job_log.proofs.bits.Bits.first_free.Given as goal

abbrev pub invariant-loop-at : goal.invariant-loop-at
invariant-loop-at l = (j : ℕ) → l.word * 64 ≤ j → j < l.at * 64 → j < length l.self.flags → (flag l.self.flags j || flag l.other.flags j) ≡ true
