use Rattle.own_laws.proofs.QuietParts.{calls_none}
use Rattle.own_laws.proofs.laws.quiet_operations_make_no_call.Goals as goal

pub returns : goal.returns
returns g c = calls_none _
