use Rattle.std.proofs.Common.{refl, sym, ap, ◌∙◌}
use Rattle.compound_server.specs.Serves.{served, told_of}
use Rattle.copy_ops.specs.declared.res.CopyRes.TheVariants as results
use Rattle.copy_ops.specs.declared.results.OffloadProgress.{OffloadProgress}
use Rattle.file_server.specs.Answering.{going_of, machine_of}
use Rattle.nfs_base.specs.declared.answer.Answer.{Answer}
use Rattle.compound_server.specs.SayingLaws.{serves_said}
use Rattle.dest_core.proofs.copying.offload_status.Goals as goal

pub returns-clause-serves : goal.returns-clause-serves
returns-clause-serves g c = λ choice agrees.
    let size = g.D.Disk.size in
    let files = c.args.files.now in
    let p = c.args.p.now in
    ap (λ (a : Answer OffloadProgress). told_of (served (going_of size files p) (results.OffloadStatus a)) p.page.bytes) (sym c.status-answer.ensures)
    ∙ serves_said (machine_of size files) (results.OffloadStatus c.status-answer.result) p c.say_status.new.p _ c.say_status.result
    c.say_status.ensures.says refl (sym c.say_status.ensures.status)
