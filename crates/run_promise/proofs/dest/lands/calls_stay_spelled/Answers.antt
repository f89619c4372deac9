use Rattle.run_promise.proofs.dest.Along.{spelled_at}
use Rattle.run_promise.proofs.dest.lands.calls_stay_spelled.Goals as goal

pub returns : goal.returns
returns c = spelled_at c.moves_keep_calls_spelled.ensures.run
