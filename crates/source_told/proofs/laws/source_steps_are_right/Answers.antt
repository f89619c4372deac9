use Rattle.source_told.proofs.Premises.{calls_none, refuses_by_failures}
use Rattle.source_told.proofs.laws.source_steps_are_right.Goals as goal

pub returns-clause-laws : goal.returns-clause-laws
returns-clause-laws g c mech = c.servers_change_volumes_lawfully.ensures.laws mech (calls_none g.M.Mechanism.mic_of)

pub returns-clause-fitting : goal.returns-clause-fitting
returns-clause-fitting g c mech = c.servers_change_volumes_lawfully.ensures.fitting mech (calls_none g.M.Mechanism.mic_of)

pub returns-clause-tells : goal.returns-clause-tells
returns-clause-tells g c mech = c.steps_tell_of_the_volume.ensures mech (refuses_by_failures g.M.Mechanism.mic_of)

pub returns-clause-opening : goal.returns-clause-opening
returns-clause-opening g c mech = c.servers_change_volumes_lawfully.ensures.opening mech
