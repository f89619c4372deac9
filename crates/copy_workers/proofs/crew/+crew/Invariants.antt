use Rattle.std.proofs.Common.{◌+◌, ◌*◌, length}
use Rattle.copy_workers.proofs.crew.+crew.Given as goal

abbrev pub decreases-crew : goal.decreases-crew
decreases-crew g l = 3 * length l.links.now

abbrev pub decreases-both : goal.decreases-both
decreases-both g l = 3 * length l.rest.now + 2

abbrev pub decreases-both-others : goal.decreases-both-others
decreases-both-others g l = 3 * length l.rest.now + 1
