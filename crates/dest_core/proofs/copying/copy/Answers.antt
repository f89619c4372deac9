use Rattle.std.proofs.Common.{Result, Ok, sym, ap, ◌∙◌}
use Rattle.compound_server.specs.Serves.{told_of}
use Rattle.copy_ops.specs.declared.res.CopyRes.TheVariants as results
use Rattle.copy_ops.specs.declared.results.CopyAnswer.TheVariants.{Refused}
use Rattle.dest_jobs.specs.declared.copying.CopyRoom.{CopyRoom}
use Rattle.dest_jobs.specs.declared.copying.Ends.{Ends}
use Rattle.file_server.specs.Answering.{going_of, machine_of}
use Rattle.nfs_base.specs.declared.status.Status.{Status}
use Rattle.dest_core.specs.Copying.{copy_between, room_of}
use Rattle.compound_server.specs.SayingLaws.{copy_refused_spelled, serves_said}
use Rattle.dest_core.proofs.copying.copy.Goals as goal

pub returns-in-Err-clause-serves : goal.returns-in-Err-clause-serves
returns-in-Err-clause-serves g c = λ choice agrees.
    let size = g.D.Disk.size in
    let files = c.args.files.now in
    let p = c.args.p.now in
    let carry = c.args.carry.now in
    ap (λ (ends : Result Ends Status). told_of (copy_between ends c.args.caller.now carry c.args.args (room_of carry c.args.args) (going_of size files p)) p.page.bytes) (sym c.ends_of.ensures ∙ c.in-Err.is)
    ∙ serves_said (machine_of size files) (results.Copy (Refused c.in-Err.status)) p c.refuse.new.self _ c.refuse.result
    c.refuse.ensures.says (copy_refused_spelled c.in-Err.status) (sym c.refuse.ensures.status)

pub returns-in-Ok-clause-serves : goal.returns-in-Ok-clause-serves
returns-in-Ok-clause-serves g c = λ choice agrees.
    let p = c.args.p.now in
    let old = going_of g.D.Disk.size c.args.files.now p in
    let carry = c.args.carry.now in
    let told : Result Ends Status → CopyRoom → _ = λ ends room. told_of (copy_between ends c.args.caller.now carry c.args.args room old) p.page.bytes in
    ap (λ (ends : Result Ends Status). told ends (room_of carry c.args.args)) (sym c.ends_of.ensures ∙ c.in-Ok.is)
    ∙ ap (λ (room : CopyRoom). told (Ok c.in-Ok.ends) room) (sym c.requires.room)
    ∙ c.copy_between.ensures.serves choice agrees
