use Rattle.callback_server.proofs.Causes.{all_for_cause}
use Rattle.callback_server.proofs.laws.links_are_hung_up_for_a_cause.Goals as goal

pub returns : goal.returns
returns g c = all_for_cause _
