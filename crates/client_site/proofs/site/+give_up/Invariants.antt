use Rattle.std.proofs.Common.{length}
use Rattle.client_site.proofs.site.+give_up.Given as goal

abbrev pub decreases-give_up : goal.decreases-give_up
decreases-give_up l = length l.places.now
