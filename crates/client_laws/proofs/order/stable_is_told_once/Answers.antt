use Rattle.client_laws.proofs.Orders.{told_once}
use Rattle.client_laws.proofs.order.stable_is_told_once.Goals as goal

pub returns : goal.returns
returns g c = λ ways turns s d told j run.
    told_once j told (c.words_are_told_in_order.ensures.stable_once ways turns s d told j run)
