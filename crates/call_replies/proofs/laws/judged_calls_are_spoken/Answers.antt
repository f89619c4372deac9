use Rattle.call_replies.specs.SaysLaws.{judged_says}
use Rattle.call_replies.proofs.laws.judged_calls_are_spoken.Goals as goal

pub returns : goal.returns
returns g c mic now program bytes table call version all is = judged_says mic now program bytes table call version all is
