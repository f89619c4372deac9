use Rattle.tell_laws.proofs.volumes.servers_change_volumes_lawfully.Goals as goal

pub returns-clause-laws : goal.returns-clause-laws
returns-clause-laws g c mech none conn bytes now s before after t step owner accepts whose is simple few =
    c.steps_change_volumes_lawfully.ensures.came s.state.machine.store t.host.state.machine.store t.out.used
    (c.steps_change_by_calls.ensures mech conn bytes now s before after t step.turn)
    (c.steps_call_once.ensures.once mech none conn bytes now s before after t step owner accepts whose is simple) few

pub returns-clause-fitting : goal.returns-clause-fitting
returns-clause-fitting g c mech none conn bytes now s before after t step fits =
    c.volumes_stay_fitting.ensures.came s.state.machine.store t.host.state.machine.store t.out.used
    (c.steps_change_by_calls.ensures mech conn bytes now s before after t step.turn)
    (c.steps_call_once.ensures.root mech none conn bytes now s before after t step) fits

pub returns-clause-writes : goal.returns-clause-writes
returns-clause-writes g c mech conn bytes now s before after t step few =
    c.volumes_stay_fitting.ensures.numbered s.state.machine.store t.host.state.machine.store t.out.used
    (c.steps_change_by_calls.ensures mech conn bytes now s before after t step.turn) few

pub returns-clause-opening : goal.returns-clause-opening
returns-clause-opening g c mech conn bytes now s before after t step =
    c.volumes_stay_fitting.ensures.opening s.state.machine.store t.host.state.machine.store t.out.used
    (c.steps_change_by_calls.ensures mech conn bytes now s before after t step.turn)
