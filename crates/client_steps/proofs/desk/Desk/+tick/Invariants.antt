use Rattle.std.proofs.Common.{length}
use Rattle.client_steps.proofs.desk.Desk.+tick.Given as goal

abbrev pub decreases-tick : goal.decreases-tick
decreases-tick g l = length l.copies.now
