use Rattle.std.proofs.Common.{length}
use Rattle.client_steps.proofs.desk.Desk.+retry_copies.Given as goal

abbrev pub decreases-retry_copies : goal.decreases-retry_copies
decreases-retry_copies g l = length l.copies.now
