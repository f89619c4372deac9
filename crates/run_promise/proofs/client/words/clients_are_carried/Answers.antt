use Rattle.std.proofs.Common.{sym, subst}
use Rattle.client_core.specs.State.{ClientState}
use Rattle.client_laws.specs.Speaking.Carried.{IsCarried}
use Rattle.run_promise.proofs.client.Going.{carried_at}
use Rattle.run_promise.proofs.client.words.clients_are_carried.Goals as goal

pub returns : goal.returns
returns g c who spell meaning first steps s along k new =
    carried_at _ who spell meaning first steps along c.clients_carry_on.ensures.stay
    (subst (λ (x : ClientState _). IsCarried who 0 (along.purposes 0) x) (sym new) (c.clients_carry_on.ensures.begin s who 0 (along.purposes 0))) k
