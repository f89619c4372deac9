use Rattle.source_told.proofs.Premises.{calls_none}
use Rattle.source_told.proofs.laws.own_operations_call_none.Goals as goal

pub returns : goal.returns
returns g c = calls_none g.M.Mechanism.mic_of
