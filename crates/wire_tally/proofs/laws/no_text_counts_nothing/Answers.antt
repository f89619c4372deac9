use Rattle.wire_tally.proofs.Pieces.{none_counted}
use Rattle.wire_tally.proofs.laws.no_text_counts_nothing.Goals as goal

pub returns : goal.returns
returns c = none_counted
