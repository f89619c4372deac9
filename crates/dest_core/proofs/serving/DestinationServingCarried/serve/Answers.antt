use Rattle.std.proofs.Common.{refl, sym, ap, ◌∙◌}
use Rattle.compound_server.specs.Serves.{told_of}
use Rattle.copy_ops.specs.declared.arg.CopyArg.{CopyArg}
use Rattle.copy_ops.specs.declared.res.CopyRes.TheVariants as results
use Rattle.file_server.specs.Answering.{going_of, machine_of}
use Rattle.nfs_base.specs.declared.answer.Answer.TheVariants.{Refused}
use Rattle.nfs_base.specs.declared.status.TheConstants.Status.{NOTSUPP}
use Rattle.server_volume.specs.Store.{seat_of}
use Rattle.dest_core.specs.Serving.{serves}
use Rattle.compound_server.specs.SayingLaws.{clone_spelled, notify_refused_spelled, ran_kept, serves_said}
use Rattle.dest_core.proofs.serving.DestinationServingCarried.serve.Goals as goal

pub returns-in-CopyNotify-clause-serves : goal.returns-in-CopyNotify-clause-serves
unfolding serves
returns-in-CopyNotify-clause-serves g c = λ told choice agrees.
    let size = g.D.Disk.size in
    let files = c.args.files.now in
    let p = c.args.p.now in
    ap (λ (op : CopyArg). told_of (serves choice c.args.caller.now c.args.carry.now op (going_of size files p)) p.page.bytes) c.in-CopyNotify.is
    ∙ serves_said (machine_of size files) (results.CopyNotify (Refused NOTSUPP)) p c.refuse.new.self _ c.refuse.result
    c.refuse.ensures.says (notify_refused_spelled NOTSUPP) (sym c.refuse.ensures.status)

pub returns-clause-serves : goal.returns-clause-serves
unfolding serves
returns-clause-serves g c = λ told choice agrees.
    let size = g.D.Disk.size in
    let files = c.args.files.now in
    let p = c.args.p.now in
    ap (λ (op : CopyArg). told_of (serves choice c.args.caller.now c.args.carry.now op (going_of size files p)) p.page.bytes) c.in-Clone.is
    ∙ serves_said (machine_of size files) (results.Clone NOTSUPP) p c.refuse-in-Clone.new.self _ c.refuse-in-Clone.result
    c.refuse-in-Clone.ensures.says (clone_spelled NOTSUPP) (sym c.refuse-in-Clone.ensures.status)

pub returns-in-Copy-clause-ran : goal.returns-in-Copy-clause-ran
returns-in-Copy-clause-ran g c =
    let D = g.D.Disk in
    ran_kept (seat_of D.size D.fuse D.timeline D.faults) c.args.files.now.volume c.copy.new.files.volume c.args.p.now.used c.copy.new.p.used c.copy.ensures.volume c.copy.ensures.used

pub returns-in-CopyNotify-clause-ran : goal.returns-in-CopyNotify-clause-ran
returns-in-CopyNotify-clause-ran g c =
    let D = g.D.Disk in
    ran_kept (seat_of D.size D.fuse D.timeline D.faults) c.args.files.now.volume c.args.files.now.volume c.args.p.now.used c.refuse.new.self.used refl c.refuse.ensures.says.used

pub returns-in-OffloadCancel-clause-ran : goal.returns-in-OffloadCancel-clause-ran
returns-in-OffloadCancel-clause-ran g c =
    let D = g.D.Disk in
    ran_kept (seat_of D.size D.fuse D.timeline D.faults) c.args.files.now.volume c.offload_cancel.new.files.volume c.args.p.now.used c.offload_cancel.new.p.used c.offload_cancel.ensures.volume c.offload_cancel.ensures.used

pub returns-in-OffloadStatus-clause-ran : goal.returns-in-OffloadStatus-clause-ran
returns-in-OffloadStatus-clause-ran g c =
    let D = g.D.Disk in
    ran_kept (seat_of D.size D.fuse D.timeline D.faults) c.args.files.now.volume c.offload_status.new.files.volume c.args.p.now.used c.offload_status.new.p.used c.offload_status.ensures.volume c.offload_status.ensures.used

pub returns-clause-ran : goal.returns-clause-ran
returns-clause-ran g c =
    let D = g.D.Disk in
    ran_kept (seat_of D.size D.fuse D.timeline D.faults) c.args.files.now.volume c.args.files.now.volume c.args.p.now.used c.refuse-in-Clone.new.self.used refl c.refuse-in-Clone.ensures.says.used
