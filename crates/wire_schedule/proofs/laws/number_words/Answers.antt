use Rattle.wire_schedule.proofs.NumeralLemmas.{number_of-decimal, decimal-number_of}
use Rattle.wire_schedule.proofs.laws.number_words.Goals as goal

pub returns-clause-reads_back : goal.returns-clause-reads_back
returns-clause-reads_back c = number_of-decimal

pub returns-clause-only : goal.returns-clause-only
returns-clause-only c = decimal-number_of
