use Rattle.std.proofs.Common.{length}
use Rattle.callbacks.proofs.evaluation.+walk.Given as goal

abbrev pub decreases-walk : goal.decreases-walk
decreases-walk l = length l.ops.now
