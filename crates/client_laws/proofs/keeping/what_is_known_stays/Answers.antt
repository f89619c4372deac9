use Rattle.client_laws.proofs.StaysInTurns.{first_in_turn, id_in_turn}
use Rattle.client_laws.proofs.keeping.what_is_known_stays.Goals as goal

pub returns : goal.returns
returns g c = record {
  first = λ ways turns s before told turn after v w out j known run may step knew.
      first_in_turn ways _ turns s before told turn after v w out j run may step known knew;
  name = λ ways turns s before told turn after v w out j id run may step knew.
      id_in_turn ways _ turns s before told turn after v w out j run may step id knew;
}
