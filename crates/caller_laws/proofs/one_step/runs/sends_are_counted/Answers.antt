use Rattle.caller_laws.proofs.one_step.KnownSteps.{Goings, went}
use Rattle.caller_laws.proofs.one_step.runs.sends_are_counted.Goals as goal

pub returns : goal.returns
returns c =
    let all = c.what_goes_out_is_counted.ensures in
    let goings : Goings = record { begin = all.begin; anew = all.anew; step = all.step; slot = all.slot; create = all.create; end = all.end; again = all.again } in
    λ mic at send m. went goings mic at send m
