use Rattle.std.proofs.Common.{length}
use Rattle.client_steps.proofs.desk.Desk.+some_needs.Given as goal

abbrev pub decreases-some_needs : goal.decreases-some_needs
decreases-some_needs l = length l.copies.now
