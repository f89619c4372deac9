use Rattle.std.proofs.Common.{sym, ap, ◌∙◌}
use Rattle.copy_privs.specs.Create.{Confirmation, confirm_refusal, source_refusal}
use Rattle.copy_privs.specs.declared.privilege.Privilege.{Privilege}
use Rattle.source_core.specs.Judging.{carried_by}
use Rattle.source_core.proofs.source.Source.refuses.Goals as goal

pub returns-in-Confirm : goal.returns-in-Confirm
returns-in-Confirm g c =
    let parent = c.args.parent.now in
    let mic = g.M.Mechanism.mic_of in
    let peers = c.args.self.now.peers in
    let carried = carried_by c.args.second c.args.contexts.now.entries in
    c.refuses_confirm.ensures
    ∙ ap (λ (asked : Confirmation). confirm_refusal mic peers asked carried) c.confirming-asked.ensures
    ∙ ap (λ (p : Privilege). source_refusal mic peers parent.principal parent.key carried p) (sym c.in-Confirm.is)
