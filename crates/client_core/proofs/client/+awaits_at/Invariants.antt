use Rattle.std.proofs.Common.{length}
use Rattle.client_core.proofs.client.+awaits_at.Given as goal

abbrev pub decreases-awaits_at : goal.decreases-awaits_at
decreases-awaits_at l = length l.places.now
