use Rattle.tell_laws.proofs.StepCalls.{step_once, step_spares}
use Rattle.tell_laws.proofs.volumes.steps_call_once.Goals as goal

pub returns-clause-once : goal.returns-clause-once
returns-clause-once g c mech none conn bytes now s before after t step =
    step_once _ c.quiet_operations_make_no_call.ensures none _ bytes now s t (c.steps_carry_compounds_out.ensures.kind mech conn bytes now s before after t step)

pub returns-clause-root : goal.returns-clause-root
returns-clause-root g c mech none conn bytes now s before after t step =
    step_spares _ c.quiet_operations_make_no_call.ensures none _ bytes now s t (c.steps_carry_compounds_out.ensures.kind mech conn bytes now s before after t step)
