use Rattle.client_laws.proofs.HeldMoves.{held_in_turn}
use Rattle.client_laws.proofs.keeping.what_is_held_was_called_back.Goals as goal

pub returns : goal.returns
returns g c = λ ways turn before after v w out held may step there. (held_in_turn ways _ turn before after v w out may step).each held there
