use Rattle.server_laws.proofs.ToldSteps.{step_has_kind, step_tells}
use Rattle.server_laws.proofs.told.steps_carry_compounds_out.Goals as goal

pub returns-clause-kind : goal.returns-clause-kind
returns-clause-kind g c mech conn bytes now s before after t step = step_has_kind _ _ _ _ conn bytes now s before after t step

pub returns-clause-told : goal.returns-clause-told
returns-clause-told g c mech conn bytes now s before after t step =
    step_tells _ _ _ _ conn bytes now s before after t step g.met.X.Mech.Mechanism.sized
