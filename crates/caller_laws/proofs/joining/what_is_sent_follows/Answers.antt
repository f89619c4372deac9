use Rattle.caller_laws.proofs.SendMoves.{Known}
use Rattle.caller_laws.proofs.StepLaws.{sending_keeps}
use Rattle.caller_laws.proofs.joining.what_is_sent_follows.Goals as goal

pub returns : goal.returns
returns g c =
    let known : Known = record {
      read = c.written_compounds_are_read.ensures.compound;
      in_slot = c.calls_are_simple.ensures.in_slot;
      alone = c.calls_are_simple.ensures.alone;
    } in
    λ mech principal who before after m at send step stays. sending_keeps who _ before after m at send c.tokens_agree.ensures.codes known step stays
