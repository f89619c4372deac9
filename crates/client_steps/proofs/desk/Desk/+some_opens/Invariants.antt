use Rattle.std.proofs.Common.{length}
use Rattle.client_steps.proofs.desk.Desk.+some_opens.Given as goal

abbrev pub decreases-some_opens : goal.decreases-some_opens
decreases-some_opens l = length l.copies.now
