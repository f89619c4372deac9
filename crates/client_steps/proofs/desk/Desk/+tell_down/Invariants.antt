use Rattle.std.proofs.Common.{length}
use Rattle.client_steps.proofs.desk.Desk.+tell_down.Given as goal

abbrev pub decreases-tell_down : goal.decreases-tell_down
decreases-tell_down l = length l.copies.now
