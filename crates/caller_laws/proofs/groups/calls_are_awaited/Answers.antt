use Rattle.caller_laws.proofs.groups.calls_are_awaited.Goals as goal

pub returns : goal.returns
returns g c = λ mech principal who before after m move step.
    let laws = c.steps_are_lawful.ensures.laws mech principal who before after m move step in
    record {
      goes_on = laws.goes_on;
      in_slot = laws.in_slot;
      sends = λ bytes seal name sends own named. (laws.sends bytes seal name sends own named, laws.simple bytes seal name sends own named);
    }
