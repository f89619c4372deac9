use Rattle.wire_schedule.specs.Admission.{at_start}
use Rattle.wire_schedule.specs.Words.{lines_of}
use Rattle.wire_schedule.specs.ScheduleText.{schedule_of}
use Rattle.wire_schedule.proofs.FirstBadLemmas.{first_bad, bad_first, bad_stays}
use Rattle.wire_schedule.proofs.laws.first_bad_line.Goals as goal

pub returns-clause-first : goal.returns-clause-first
unfolding schedule_of
returns-clause-first c = λ text n. first_bad at_start 1 (lines_of text) n

pub returns-clause-bad : goal.returns-clause-bad
unfolding schedule_of
returns-clause-bad c = λ text n. bad_first at_start 1 (lines_of text) n

pub returns-clause-later : goal.returns-clause-later
returns-clause-later c = bad_stays at_start 1
