use Rattle.client_laws.proofs.TurnMoves.{turn_changes}
use Rattle.client_laws.proofs.word.copies_change_by_causes.Goals as goal

pub returns : goal.returns
returns g c = λ ways turn before after v w out few may step. turn_changes ways _ turn before v w after out few may step
