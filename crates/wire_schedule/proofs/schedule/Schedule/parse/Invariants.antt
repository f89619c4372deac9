use Rattle.std.proofs.Common.{length}
use Rattle.wire_schedule.proofs.ScanLemmas.{HasRead}
use Rattle.wire_schedule.proofs.schedule.Schedule.parse.Given as goal

abbrev pub invariant-loop-rest : goal.invariant-loop-rest
invariant-loop-rest l = HasRead l.text l.rest l.entries.items l.context l.number

abbrev pub decreases-loop-rest : goal.decreases-loop-rest
decreases-loop-rest l = length l.rest
