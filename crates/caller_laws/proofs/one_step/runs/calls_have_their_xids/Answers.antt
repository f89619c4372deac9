use Rattle.caller_laws.proofs.one_step.KnownSteps.{known_of}
use Rattle.caller_laws.proofs.one_step.RunFacts.{exact}
use Rattle.caller_laws.proofs.one_step.runs.calls_have_their_xids.Goals as goal

pub returns : goal.returns
returns g c =
    let laws = c.steps_are_lawful.ensures in
    λ mech principal who a b m at send step bytes seal sends.
    exact who _ (known_of who _ c.sends_are_counted.ensures (laws.laws mech principal who) (laws.good mech principal who) (laws.calls mech principal who)) a b m at send step bytes seal sends
