use Rattle.dest_laws.proofs.landings.Moments.{rest_holds, rest_lands}
use Rattle.dest_laws.proofs.landings.resting.rests_owe_nothing.Goals as goal

pub returns : goal.returns
returns c = record { lands = rest_lands; holds = rest_holds }
