use Rattle.caller_laws.proofs.one_step.Joins.{one_step}
use Rattle.caller_laws.proofs.one_step.KnownSteps.{known_of}
use Rattle.caller_laws.proofs.one_step.runs.runs_are_lawful.Goals as goal

pub returns : goal.returns
returns g c =
    let laws = c.steps_are_lawful.ensures in
    λ mech principal who steps a b m n run spelled ordered good.
    one_step who _ (known_of who _ c.sends_are_counted.ensures (laws.laws mech principal who) (laws.good mech principal who) (laws.calls mech principal who)) steps a b m n run spelled ordered good
