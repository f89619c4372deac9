use Rattle.call_replies.specs.SealLaws.{accepted_owner}
use Rattle.call_replies.proofs.laws.seals_are_own.Goals as goal

pub returns : goal.returns
returns g c table call = accepted_owner table call
