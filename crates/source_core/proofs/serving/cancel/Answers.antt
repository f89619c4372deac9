use Rattle.std.proofs.Common.{sym, ap, ◌∙◌}
use Rattle.compound_server.specs.Serves.{served, told_of}
use Rattle.copy_ops.specs.declared.res.CopyRes.TheVariants as results
use Rattle.file_server.specs.Answering.{going_of, machine_of}
use Rattle.file_server.specs.Machine.{with_extra}
use Rattle.nfs_base.specs.declared.status.Status.{Status}
use Rattle.source_core.specs.Serving.{after_cancel, grant_refusal, with_grants}
use Rattle.compound_server.specs.SayingLaws.{cancel_spelled, serves_said}
use Rattle.source_core.proofs.serving.cancel.Goals as goal

pub returns-clause-serves : goal.returns-clause-serves
returns-clause-serves g c = λ choice agrees.
    let size = g.D.Disk.size in
    let files = c.args.files.now in
    let p = c.args.p.now in
    let id = c.args.id.now in
    let old = going_of size files p in
    let grants = after_cancel (grant_refusal files.extra.grants id) id files.extra.grants in
    ap (λ (s : Status). told_of (served (with_grants grants old) (results.OffloadCancel s)) p.page.bytes) (sym c.cancel-status.ensures.status)
    ∙ ap (λ x. told_of (served (with_extra x old) (results.OffloadCancel c.cancel-status.result)) p.page.bytes) (sym c.cancel-status.ensures.after)
    ∙ serves_said (machine_of size (record files { extra = c.cancel-status.new.self })) (results.OffloadCancel c.cancel-status.result) p c.refuse.new.self _ c.refuse.result
    c.refuse.ensures.says (cancel_spelled c.cancel-status.result) (sym c.refuse.ensures.status)
