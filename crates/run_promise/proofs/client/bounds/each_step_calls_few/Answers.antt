use Rattle.run_promise.proofs.client.Turns.{turn_few}
use Rattle.run_promise.proofs.client.bounds.each_step_calls_few.Goals as goal

pub returns : goal.returns
returns g c = λ ways turn before after v w out step. (turn_few ways _ turn before v w (after, out) step).few
