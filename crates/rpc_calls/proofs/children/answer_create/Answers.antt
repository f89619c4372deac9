use Rattle.std.proofs.Common.{◌≡◌, ◌∙◌, sym, ap, refl, Some}
use Rattle.gss_ctx.specs.declared.context.Context.{Context}
use Rattle.rpc_calls.specs.Making.{Created}
use Rattle.rpc_calls.proofs.ChildLemmas.{is_parent, is_root_counted, create_is}
use Rattle.rpc_calls.proofs.children.answer_create.Goals as goal

pub create_child_taken-requires-clause-parent : goal.create_child_taken-requires-clause-parent
create_child_taken-requires-clause-parent g c =
    let is : c.args.call.now.under ≡ Some c.unwrap-under.result = c.unwrap-under.ensures in
    let parent = is_parent c.args.contexts.now c.args.call.now c.unwrap-under.result is c.requires.parent c.requires.there in
    let root = is_root_counted c.args.now c.args.contexts.now c.args.call.now c.unwrap-under.result is c.requires.parent parent in
    rw c.count.ensures (rw root.found refl)

pub returns-clause-table : goal.returns-clause-table
returns-clause-table g c =
    let is : c.args.call.now.under ≡ Some c.unwrap-under.result = c.unwrap-under.ensures in
    let parent = is_parent c.args.contexts.now c.args.call.now c.unwrap-under.result is c.requires.parent c.requires.there in
    let lent = rw c.unwrap.ensures at c.context.ensures in
    let own : Some c.unwrap.result.now ≡ Some parent.context = lent ∙ parent.there in
    let same : c.unwrap.result.now ≡ parent.context = cc in
    let principal : c.in_ok-principal.principal ≡ parent.context.principal = c.in_ok-principal.ensures ∙ ap (λ (x : Context _). x.principal) same in
    let makes = rw c.count.ensures at c.create_child_taken.ensures in
    sym (ap (λ (x : Created _). x.table)
    (create_is g.M.Mechanism.derived c.args.now c.args.carry c.args.contexts.now c.create_child_taken.new.self c.args.call.now c.unwrap-under.result
    c.in_ok-principal.principal c.create_child_taken.result is c.requires.parent parent principal makes))
