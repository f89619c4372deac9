use Rattle.wire_schedule.proofs.ScheduleLemmas.{schedule_spells, spelled_schedule}
use Rattle.wire_schedule.proofs.laws.schedule_lines.Goals as goal

pub returns-clause-only : goal.returns-clause-only
returns-clause-only c = schedule_spells

pub returns-clause-reads : goal.returns-clause-reads
returns-clause-reads c = spelled_schedule
