use Rattle.linked_copy.proofs.Booked.{one_unpaired}
use Rattle.linked_copy.proofs.dialing.dial_both.Goals as goal

pub returns-in-None-clause-none : goal.returns-in-None-clause-none
returns-in-None-clause-none g c =
    one_unpaired _ _ _ _ _ c.in_ok-source.source c.in_ok-source.ensures.dials c.in-None.ensures.none c.hang_up.ensures.hung c.in_ok-source.ensures.new
