use Rattle.client_laws.proofs.RunWords as runs
use Rattle.client_laws.proofs.word.words_are_told_in_order.Goals as goal

pub returns : goal.returns
returns g c = record {
  life = λ ways turns s d told j run. runs.run_lives ways _ turns s d told j run;
  stable_once = λ ways turns s d told j run.
      runs.once _ _ c.words_say_where_a_copy_is.ensures.stable_once (runs.run_lives ways _ turns s d told j run);
  last = λ ways turns s d told j run.
      runs.last _ _ c.words_say_where_a_copy_is.ensures.last (runs.run_lives ways _ turns s d told j run);
}
