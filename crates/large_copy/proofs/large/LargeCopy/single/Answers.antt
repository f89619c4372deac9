use Rattle.std.proofs.Common.{◌≡◌, ◌-◌, ap, get_or, sym, ◌∙◌, arith}
use Rattle.wire_schedule.specs.declared.directive.Directive.TheVariants.{Once}
use Rattle.wire_schedule.specs.declared.event.Event.{Event}
use Rattle.large_copy.specs.Large.{large_lines, write}
use Rattle.large_copy.proofs.Lines.{copy_at, dest_at, flow_at, if_ok, source_at, write_at}
use Rattle.large_copy.proofs.large.LargeCopy.single.Goals as goal

pub returns-then-place-eq0 : goal.returns-then-place-eq0
returns-then-place-eq0 c =
    ap (λ (e : Event). Once e) c.volume.ensures ∙ sym (source_at c.args.self c.args.place (Once c.volume.result) c.if-place-eq0.true)

pub returns-then-place-eq1 : goal.returns-then-place-eq1
returns-then-place-eq1 c =
    ap (λ (e : Event). Once e) c.volume-then-place-eq1.ensures
    ∙ sym (dest_at c.args.self c.args.place (Once c.volume-then-place-eq1.result) c.if-place-eq1.true)

pub returns-then-place-first_flow : goal.returns-then-place-first_flow
returns-then-place-first_flow c =
    if_ok c.write.result (λ (event : Event). Once event ≡ write (c.args.place - 2))
    (λ (event : Event). Once event ≡ get_or (large_lines c.args.self) c.args.place (Once event))
    (λ event is. is ∙ sym (write_at c.args.self c.args.place (Once event) (omega arith) (omega arith))) c.write.ensures

pub returns-then-place-copy_place : goal.returns-then-place-copy_place
returns-then-place-copy_place c = sym (flow_at c.args.self c.args.place _ (omega arith) (omega arith))

pub returns-else-place-copy_place : goal.returns-else-place-copy_place
returns-else-place-copy_place c = c.copy.ensures ∙ sym (copy_at c.args.self c.args.place (Once c.copy.result) (omega arith))
