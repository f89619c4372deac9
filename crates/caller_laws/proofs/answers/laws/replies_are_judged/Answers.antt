use Rattle.caller_laws.proofs.answers.Answering.{reply_judged}
use Rattle.caller_laws.proofs.answers.laws.replies_are_judged.Goals as goal

pub returns : goal.returns
returns g c mic now program bytes table all is = reply_judged mic now program bytes table all is
