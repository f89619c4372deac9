use Rattle.std.proofs.Common.{arith}
use Rattle.std.proofs.lemmas.List.{take_rest}
use Rattle.wire_schedule.proofs.WordsLemmas.{split-read, split-none}
use Rattle.wire_schedule.proofs.words.cut.Goals as goal

pub returns-then-byte-separator-clause-parts : goal.returns-then-byte-separator-clause-parts
returns-then-byte-separator-clause-parts c =
    rw take_rest (split-read _ _ _ c.loop-at-test.true c.if-byte-separator.true c.loop-at.invariant)

pub returns-clause-parts : goal.returns-clause-parts
returns-clause-parts c = split-none _ _ (λ k lt. c.loop-at.invariant k (omega (arith, lt)))
