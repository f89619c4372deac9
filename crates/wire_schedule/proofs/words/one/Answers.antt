use Rattle.wire_schedule.proofs.WordsLemmas.{no-words}
use Rattle.wire_schedule.proofs.words.one.Goals as goal

pub returns-in_default-Some : goal.returns-in_default-Some
returns-in_default-Some c = λ a e.
    let words = rw c.in_default-Some.is-1 at c.first_word.ensures in
    no-words c.in_default-Some.field-0-1.now (cc (words, e))
