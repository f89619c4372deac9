use Rattle.server_laws.proofs.SlotDutyLaws.{step_has, step_obeys}
use Rattle.server_laws.proofs.slots.slots_are_kept.Goals as goal

pub returns-clause-slots : goal.returns-clause-slots
returns-clause-slots g c mech conn bytes now s before after t step =
    step_obeys _ _ _ _ conn bytes now s before after t step g.met.X.Mech.Mechanism.sized

pub returns-clause-sessions : goal.returns-clause-sessions
returns-clause-sessions g c mech conn bytes now s before after t step = step_has _ _ _ _ conn bytes now s before after t step
