use Rattle.std.proofs.Common.{◌≡◌, length, sym, ◌∙◌, eqb-true}
use Rattle.wire_schedule.proofs.ScanLemmas.{starts, line_gives, reads_all, schedule_admitted}
use Rattle.wire_schedule.proofs.schedule.Schedule.parse.Goals as goal
use Rattle.wire_schedule.proofs.schedule.Schedule.parse.Goals.{After-loop-rest}

pub loop-rest-init : goal.loop-rest-init
loop-rest-init c = rw (c.new-entries.ensures.items, c.start-context.ensures) (starts c.args.text.now)

pub after_directive-context-requires : goal.after_directive-context-requires
after_directive-context-requires c = (line_gives _ _ _ (sym (rw c.in-Gives.is at c.in_ok-read_line.ensures))).1

-- all lines were read
at_end : (c : After-loop-rest) → length c.loop-rest.rest.now ≡ 0
at_end c = eqb-true _ _ (sym c.is_empty.ensures ∙ c.loop-rest-test.false)

pub invariant_of-result : goal.invariant_of-result
invariant_of-result c = schedule_admitted _ _ (reads_all _ _ _ _ _ c.loop-rest.invariant (at_end c))

pub returns : goal.returns
returns c = reads_all _ _ _ _ _ c.loop-rest.invariant (at_end c)
