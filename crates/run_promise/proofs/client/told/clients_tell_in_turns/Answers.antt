use Rattle.run_promise.proofs.client.ToldTurning.{told_in_turns}
use Rattle.run_promise.proofs.client.told.clients_tell_in_turns.Goals as goal

pub returns : goal.returns
returns g c who spell meaning first steps s along new = told_in_turns _ s who spell meaning first steps along new
