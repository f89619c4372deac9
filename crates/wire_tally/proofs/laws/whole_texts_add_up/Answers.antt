use Rattle.wire_tally.proofs.Pieces.{add_up}
use Rattle.wire_tally.proofs.laws.whole_texts_add_up.Goals as goal

pub returns : goal.returns
returns c = add_up
