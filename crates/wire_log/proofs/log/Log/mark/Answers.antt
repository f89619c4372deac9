use Rattle.std.proofs.Common.{List, ap, sym, ◌∙◌, subst, arith}
use Rattle.std.proofs.lemmas.List.{with_items_is}
use Rattle.wire_log.specs.declared.kept.Kept.{Kept}
use Rattle.wire_log.specs.Keeping.{AreKept, delivered_at, posted_all}
use Rattle.wire_log.proofs.Marked.{kept_delivered, posted_delivered}
use Rattle.wire_log.proofs.log.Log.mark.Goals as goal
use Rattle.wire_machine.specs.World.{Posted, marked}

pub invariant_of-self : goal.invariant_of-self
invariant_of-self c =
    let kept = c.self.inside.records.items in
    let new = c.deliver.new.records in
    let are = with_items_is c.self.inside.records new (omega arith) ∙ c.deliver.ensures ∙ ap (λ (ks : List Kept). delivered_at c.args.number ks) c.as_mut_slice.ensures.value in
    subst (λ (ks : List Kept). AreKept ks c.self.inside.bytes) (sym are) (kept_delivered c.args.number kept c.self.inside.bytes c.self.invariant)

pub returns : goal.returns
returns c =
    let kept = c.self.inside.records.items in
    let new = c.deliver.new.records in
    let are = with_items_is c.self.inside.records new (omega arith) ∙ c.deliver.ensures ∙ ap (λ (ks : List Kept). delivered_at c.args.number ks) c.as_mut_slice.ensures.value in
    ap (λ (ks : List Kept). posted_all ks) are ∙ posted_delivered c.args.number kept ∙ ap (λ (log : List Posted). marked c.args.number log) c.self.view_is
