use Rattle.nfscopy.proofs.commands.do_gen.Goals as goal

pub returns-clause-ends : goal.returns-clause-ends
returns-clause-ends g c = λ left reads.
    record { end = c.generate.result; is = c.code.ensures; says = c.generate.ensures.ends left reads }
