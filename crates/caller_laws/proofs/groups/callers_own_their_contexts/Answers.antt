use Rattle.caller_laws.proofs.groups.callers_own_their_contexts.Goals as goal

pub returns : goal.returns
returns g c = λ mech principal who before after m move step. (c.steps_are_lawful.ensures.laws mech principal who before after m move step).has
