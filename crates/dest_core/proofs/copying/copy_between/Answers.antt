use Rattle.std.proofs.Common.{ℕ, Option, refl, sym, ap, ◌∙◌}
use Rattle.compound_server.specs.Serves.{served, told_of}
use Rattle.copy_ops.specs.declared.res.CopyRes.TheVariants as results
use Rattle.copy_ops.specs.declared.results.CopyAnswer.{CopyAnswer}
use Rattle.dest_jobs.specs.Copying.{copied}
use Rattle.dest_jobs.specs.declared.copies.Copies.{Copies}
use Rattle.dest_steps.specs.declared.copier.Copier.{Copier}
use Rattle.file_server.specs.Answering.{going_of, machine_of}
use Rattle.nfs_base.specs.declared.status.Status.{Status}
use Rattle.dest_core.specs.Copying.{answered_by, with_copier}
use Rattle.compound_server.specs.SayingLaws.{serves_said}
use Rattle.dest_jobs.specs.Counting.{bytes_in}
use Rattle.dest_jobs.specs.LandedLaws.{copying_lands_none}
use Rattle.dest_core.proofs.copying.copy_between.Goals as goal

pub returns-clause-serves : goal.returns-clause-serves
returns-clause-serves g c = λ choice agrees.
    let size = g.D.Disk.size in
    let files = c.args.files.now in
    let p = c.args.p.now in
    let old = going_of size files p in
    let by : Option Status → ℕ → Copies × CopyAnswer =
    λ closed boot. copied c.args.caller.now.client c.args.carry.now c.args.args c.args.ends c.args.room closed boot files.extra.copier.copies in
    let told : Copies × CopyAnswer → _ = λ d. told_of (answered_by c.args.caller.now.session c.args.carry.now d old) p.page.bytes in
    let said = (by c.closed_for-closed.result c.boot-boot.result).1 in
    ap (λ (closed : Option Status). told (by closed files.volume.volume.boot)) (sym c.closed_for-closed.ensures)
    ∙ ap (λ (boot : ℕ). told (by c.closed_for-closed.result boot)) (sym c.boot-boot.ensures)
    ∙ ap (λ (x : Copies). told (x, said)) (sym c.copy-answer.ensures.after)
    ∙ ap (λ (a : CopyAnswer). told (c.copy-answer.new.self, a)) (sym c.copy-answer.ensures.answer)
    ∙ ap (λ (y : Copier). told_of (served (with_copier y old) (results.Copy c.copy-answer.result)) p.page.bytes) (sym c.seat.ensures.seated)
    ∙ serves_said (machine_of size (record files { extra = record files.extra { copier = c.seat.new.copier } })) (results.Copy c.copy-answer.result) p c.say_copy.new.p _ c.say_copy.result
    c.say_copy.ensures.says refl (sym c.say_copy.ensures.status)

pub returns-clause-landed : goal.returns-clause-landed
returns-clause-landed g c =
    ap (λ (x : Copies). bytes_in x) c.seat.ensures.given
    ∙ ap (λ (x : Copies). bytes_in x) c.copy-answer.ensures.after
    ∙ (copying_lands_none c.args.caller.now.client c.args.carry.now c.args.args c.args.ends c.args.room c.closed_for-closed.result c.boot-boot.result
    c.args.files.now.extra.copier.copies).bytes
