use Rattle.wire_tally.proofs.Reading.{lines_counted}
use Rattle.wire_tally.proofs.laws.lines_count_by_their_notes.Goals as goal

pub returns : goal.returns
returns c = lines_counted
