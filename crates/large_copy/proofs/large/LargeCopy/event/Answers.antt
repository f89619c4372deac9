use Rattle.std.proofs.Common.{◌≡◌, get_or, sym, arith}
use Rattle.wire_schedule.specs.declared.directive.Directive.TheVariants.{Once}
use Rattle.wire_schedule.specs.declared.event.Event.{Event}
use Rattle.large_copy.specs.Large.{large_events, large_lines}
use Rattle.large_copy.proofs.Events.{flow_in_round, length-events, single_is, work_in_round}
use Rattle.large_copy.proofs.Lines.{if_ok}
use Rattle.large_copy.proofs.large.LargeCopy.event.Goals as goal

pub returns-then-place-first_round : goal.returns-then-place-first_round
returns-then-place-first_round c =
    if_ok c.single.result (λ (event : Event). Once event ≡ get_or (large_lines c.args.self) c.args.place (Once event))
    (λ (event : Event). event ≡ get_or (large_events c.args.self) c.args.place event)
    (λ event is. single_is c.args.self c.args.place event (omega arith) is) c.single.ensures

pub returns-then-place-first_round-eq0 : goal.returns-then-place-first_round-eq0
returns-then-place-first_round-eq0 c = sym (flow_in_round c.args.self c.args.place _ (omega arith) (omega arith) (omega (arith, length-events c.args.self)))

pub returns-else-place-first_round-eq0 : goal.returns-else-place-first_round-eq0
returns-else-place-first_round-eq0 c = sym (work_in_round c.args.self c.args.place _ (omega arith) (omega arith) (omega (arith, length-events c.args.self)))
