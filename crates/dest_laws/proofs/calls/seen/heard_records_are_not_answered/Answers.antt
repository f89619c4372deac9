use Rattle.dest_laws.proofs.calls.Silences.{reply_calls}
use Rattle.dest_laws.proofs.calls.seen.heard_records_are_not_answered.Goals as goal

pub returns : goal.returns
returns g c codes finish place message now s t reply = reply_calls codes finish place message now s t reply
