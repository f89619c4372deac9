use Rattle.session_client.proofs.Numbers.{count_from_one}
use Rattle.session_client.proofs.laws.slot_numbers_count_up.Goals as goal

pub returns : goal.returns
returns c = λ slot k slots. count_from_one slot k slots
