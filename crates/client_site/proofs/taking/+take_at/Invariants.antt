use Rattle.std.proofs.Common.{length}
use Rattle.client_site.proofs.taking.+take_at.Given as goal

abbrev pub decreases-take_at : goal.decreases-take_at
decreases-take_at g l = length l.places.now
