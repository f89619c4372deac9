use Rattle.std.proofs.Common.{sym, ap, ◌∙◌}
use Rattle.compound_server.specs.Serves.{served, told_of}
use Rattle.copy_ops.specs.declared.res.CopyRes.TheVariants as results
use Rattle.dest_jobs.specs.Offloads.{after_cancel, own_job}
use Rattle.dest_jobs.specs.declared.copies.Copies.{Copies}
use Rattle.file_server.specs.Answering.{going_of, machine_of}
use Rattle.nfs_base.specs.declared.status.Status.{Status}
use Rattle.dest_core.specs.Copying.{with_copies}
use Rattle.compound_server.specs.SayingLaws.{cancel_spelled, serves_said}
use Rattle.dest_jobs.specs.Counting.{bytes_in}
use Rattle.dest_jobs.specs.LandedLaws.{cancelling_lands_none}
use Rattle.dest_core.proofs.copying.offload_cancel.Goals as goal

pub returns-clause-serves : goal.returns-clause-serves
returns-clause-serves g c = λ choice agrees.
    let size = g.D.Disk.size in
    let files = c.args.files.now in
    let p = c.args.p.now in
    let old = going_of size files p in
    let copier = files.extra.copier in
    let copies = after_cancel (own_job copier.copies.book.table c.args.client c.args.id.now) copier.copies in
    ap (λ (s : Status). told_of (served (with_copies copies old) (results.OffloadCancel s)) p.page.bytes) (sym c.cancel-status.ensures.status)
    ∙ ap (λ (x : Copies). told_of (served (with_copies x old) (results.OffloadCancel c.cancel-status.result)) p.page.bytes) (sym c.cancel-status.ensures.after)
    ∙ serves_said (machine_of size (record files { extra = record files.extra { copier = record copier { copies = c.cancel-status.new.self } } })) (results.OffloadCancel c.cancel-status.result) p c.refuse.new.self _ c.refuse.result
    c.refuse.ensures.says (cancel_spelled c.cancel-status.result) (sym c.refuse.ensures.status)

pub returns-clause-landed : goal.returns-clause-landed
returns-clause-landed g c =
    ap (λ (x : Copies). bytes_in x) c.cancel-status.ensures.after ∙ (cancelling_lands_none _ c.args.files.now.extra.copier.copies).bytes
