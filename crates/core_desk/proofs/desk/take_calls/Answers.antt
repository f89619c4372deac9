use Rattle.std.proofs.Common.{◌≡◌, ◌<◌, length, sym, ap, ◌∙◌, arith}
use Rattle.copy_workers.specs.Desk.{IsSmall}
use Rattle.std.proofs.lemmas.List.{get_or_default}
use Rattle.outbox.specs.declared.outgoing.Outgoing.{Outgoing}
use Rattle.outbox.specs.declared.outgoing.To.TheVariants as to
use Rattle.core_desk.proofs.Keeping.{all_without, call_kept}
use Rattle.core_desk.proofs.desk.take_calls.Goals as goal

pub calls-preserved-then-number-le8 : goal.calls-preserved-then-number-le8
calls-preserved-then-number-le8 c =
    let kept = c.calls.invariant in
    let removed = c.remove-call.ensures in
    let xs = c.calls.sent.items in
    let there : c.calls.at < length xs = omega (arith, c.calls-test.true, c.len.ensures) in
    let same = removed.value ∙ get_or_default xs c.calls.at _ _ there ∙ sym c.index.ensures in
    let source : c.remove-call.result.to ≡ to.Source c.in-Source.number = ap (λ (o : Outgoing). o.to) same ∙ c.in-Source.is in
    let both = call_kept c.args.sent.now.items xs c.remove-call.new.self.items c.args.kept.now c.calls.kept c.put.new.self
    c.calls.at c.in-Source.number c.remove-call.result there removed.value removed.by_index.2 source
    c.if-number-ge1.true c.if-number-le8.true c.put.ensures kept.passed kept.kept in
    record {
      within = omega (arith, removed.len, there);
      small = all_without IsSmall c.calls.at xs c.remove-call.new.self.items removed.by_index.2 kept.small;
      passed = both.0;
      kept = both.1;
    }
