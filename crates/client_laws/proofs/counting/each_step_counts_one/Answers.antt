use Rattle.client_laws.proofs.Counts.{turn_counted}
use Rattle.client_laws.proofs.counting.each_step_counts_one.Goals as goal

pub returns : goal.returns
returns g c = record {
  steps = λ ways turn before after v w out step. (turn_counted ways _ turn before v w (after, out) step).steps;
  setting = λ ways turn before after v w out step. (turn_counted ways _ turn before v w (after, out) step).setting;
}
