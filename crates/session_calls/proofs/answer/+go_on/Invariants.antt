use Rattle.std.proofs.Common.{length}
use Rattle.session_calls.proofs.answer.+go_on.Given as goal

abbrev pub decreases-go_on : goal.decreases-go_on
decreases-go_on l = length l.ops.now
