use Rattle.wire_schedule.proofs.SpellingLemmas.{reads_back, line_spells}
use Rattle.wire_schedule.proofs.laws.directive_lines.Goals as goal

pub returns-clause-reads_back : goal.returns-clause-reads_back
returns-clause-reads_back c = reads_back

pub returns-clause-only : goal.returns-clause-only
returns-clause-only c = line_spells
