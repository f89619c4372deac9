use Rattle.caller_laws.proofs.groups.numbers_only_grow.Goals as goal

pub returns : goal.returns
returns g c = λ mech principal who before after m move step.
    let laws = c.steps_are_lawful.ensures.laws mech principal who before after m move step in
    record { mount = laws.mount; begin = laws.begin }
