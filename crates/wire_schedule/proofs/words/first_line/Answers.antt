use Rattle.std.proofs.lemmas.List.{take_rest}
use Rattle.wire_schedule.proofs.WordsLemmas.{lines-more, lines-last}
use Rattle.wire_schedule.proofs.words.first_line.Goals as goal

pub returns-in-Some-clause-line : goal.returns-in-Some-clause-line
returns-in-Some-clause-line c = lines-more _ _ _ (rw c.in-Some.is at c.cut.ensures.parts)

pub returns-in-None-clause-line : goal.returns-in-None-clause-line
returns-in-None-clause-line c =
    rw take_rest
    (lines-last c.args.text.now c.cut.result.0.now c.requires (rw c.in-None.is at c.cut.ensures.last) (rw c.in-None.is at c.cut.ensures.parts))
