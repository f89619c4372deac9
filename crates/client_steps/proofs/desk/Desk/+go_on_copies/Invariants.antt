use Rattle.std.proofs.Common.{length}
use Rattle.client_steps.proofs.desk.Desk.+go_on_copies.Given as goal

abbrev pub decreases-go_on_copies : goal.decreases-go_on_copies
decreases-go_on_copies g l = length l.copies.now
