use Rattle.std.proofs.Common.{◌≡◌, Bool, List, sym, ap, ◌∙◌}
use Rattle.std.specs.Prelude.{◌&&◌}
use Rattle.std.specs.List.{list_any}
use Rattle.copy_privs.specs.Create.{confirmation, first_missing, is_coded, is_from, is_met, is_users}
use Rattle.copy_privs.specs.declared.privilege.Privilege.{Privilege}
use Rattle.gss_ctx.specs.Table.{is_live}
use Rattle.gss_ctx.specs.declared.context.Entry.{Entry}
use Rattle.source_core.specs.Judging.{carried_by, privilege_of}
use Rattle.source_core.specs.declared.carried.Carried.{Carried}
use Rattle.source_core.proofs.Carrying.{any_carried}
use Rattle.source_core.proofs.source.Source.refuses_confirm.Goals as goal

pub returns : goal.returns
returns g c =
    let mic = g.M.Mechanism.mic_of in
    let second = c.args.second in
    let asked = confirmation c.args.asked.now in
    let peers = c.args.self.now.peers in
    let entries = c.args.contexts.now.entries in
    let carried = carried_by second entries in
    let over : (test : Privilege → Bool) → list_any (λ (e : Entry Carried). is_live second e && list_any test (privilege_of e.context.carry)) c.entries-entries.result.now ≡ list_any test carried =
    λ test. ap (λ (es : List (Entry Carried)). list_any (λ e. is_live second e && list_any test (privilege_of e.context.carry)) es) c.entries-entries.ensures ∙ sym (any_carried test second entries) in
    c.first_missing.ensures
    ∙ ap (λ (b : Bool). first_missing b c.is_any_coded.result c.is_any_users.result c.is_any_met.result) (c.is_any_from.ensures ∙ over is_from)
    ∙ ap (λ (b : Bool). first_missing (list_any is_from carried) b c.is_any_users.result c.is_any_met.result) (c.is_any_coded.ensures ∙ over (is_coded mic asked))
    ∙ ap (λ (b : Bool). first_missing (list_any is_from carried) (list_any (is_coded mic asked) carried) b c.is_any_met.result) (c.is_any_users.ensures ∙ over (is_users mic asked))
    ∙ ap (λ (b : Bool). first_missing (list_any is_from carried) (list_any (is_coded mic asked) carried) (list_any (is_users mic asked) carried) b) (c.is_any_met.ensures ∙ over (is_met mic peers asked))
