use Rattle.server_laws.proofs.LawfulSteps.{owner_stays, step_lawful}
use Rattle.server_laws.proofs.OwnReplies.{step_replies}
use Rattle.server_laws.proofs.OwnSeals.{step_owns}
use Rattle.server_laws.proofs.lawful.steps_are_lawful.Goals as goal

pub returns-clause-laws : goal.returns-clause-laws
returns-clause-laws g c mech conn bytes now s before after t step =
    step_lawful _ _ _ _ conn bytes now s before after t step g.met.X.Mech.Mechanism.sized

pub returns-clause-owner : goal.returns-clause-owner
returns-clause-owner g c mech conn bytes now s before after t step = owner_stays _ _ _ _ conn bytes now s before after t step

pub returns-clause-seals : goal.returns-clause-seals
returns-clause-seals g c mech conn bytes now s before after t step = step_owns _ _ _ _ conn bytes now s before after t step

pub returns-clause-replies : goal.returns-clause-replies
returns-clause-replies g c mech conn bytes now s before after t step =
    step_replies _ _ _ _ conn bytes now s before after t g.met.X.Mech.Mechanism.sized step
