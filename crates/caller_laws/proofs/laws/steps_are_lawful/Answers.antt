use Rattle.caller_laws.proofs.SendMoves.{Known}
use Rattle.caller_laws.proofs.StepLaws.{step_done}
use Rattle.caller_laws.proofs.laws.steps_are_lawful.Goals as goal

pub returns : goal.returns
returns g c =
    let known : Known = record {
      read = c.written_compounds_are_read.ensures.compound;
      in_slot = c.calls_are_simple.ensures.in_slot;
      alone = c.calls_are_simple.ensures.alone;
    } in
    record {
      laws = λ mech principal who before after m move step. (step_done who _ before after m move c.tokens_agree.ensures.codes known step).obeys;
      good = λ mech principal who before after m move step. (step_done who _ before after m move c.tokens_agree.ensures.codes known step).good;
      calls = λ mech principal who before after m move step. (step_done who _ before after m move c.tokens_agree.ensures.codes known step).calls;
    }
