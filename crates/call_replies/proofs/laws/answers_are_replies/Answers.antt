use Rattle.call_replies.specs.ReplyLaws.{denial_reply_is, failure_reply_is, result_reply_is}
use Rattle.call_replies.proofs.laws.answers_are_replies.Goals as goal

pub returns : goal.returns
returns g c = record {
  denial = λ call why fits said. denial_reply_is call why fits said;
  failure = λ mic table call what sized fits said. failure_reply_is mic table call what sized fits said;
  result = λ mic table call bytes sized fits. result_reply_is mic table call bytes sized fits;
}
