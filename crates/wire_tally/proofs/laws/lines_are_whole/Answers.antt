use Rattle.wire_tally.proofs.Pieces.{both_are_whole}
use Rattle.wire_tally.proofs.Reading.{lines_whole}
use Rattle.wire_tally.proofs.laws.lines_are_whole.Goals as goal

pub returns : goal.returns
returns c = record { lines = lines_whole; none = tt; both = both_are_whole }
