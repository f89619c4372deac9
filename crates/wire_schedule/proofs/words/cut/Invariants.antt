use Rattle.wire_schedule.proofs.WordsLemmas.{Lacks}
use Rattle.wire_schedule.proofs.words.cut.Given as goal

abbrev pub invariant-loop-at : goal.invariant-loop-at
invariant-loop-at l = Lacks l.separator l.text l.at
