use Rattle.client_laws.proofs.Orders.{silent_behind}
use Rattle.client_laws.proofs.order.none_is_stable_once_cancelled.Goals as goal

pub returns : goal.returns
returns g c = λ ways turns s d told j run.
    silent_behind j told (c.words_are_told_in_order.ensures.last ways turns s d told j run)
