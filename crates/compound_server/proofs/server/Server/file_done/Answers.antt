use Rattle.std.proofs.Common.{ℕ, List, refl, sym, ap, ◌∙◌}
use Rattle.server_volume.specs.Store.{seat_of}
use Rattle.file_ops.specs.declared.args.FileArg.{FileArg}
use Rattle.file_ops.specs.declared.operation.TheConstants.{OP_RECLAIM_COMPLETE, OP_ILLEGAL, OP_EXCHANGE_ID, OP_CREATE_SESSION, OP_DESTROY_SESSION, OP_SEQUENCE, OP_DESTROY_CLIENTID}
use Rattle.file_server.specs.Answering.{machine_of}
use Rattle.file_server.specs.Attributes.{get_attributes}
use Rattle.file_server.specs.Names.{lookup}
use Rattle.file_ops.specs.declared.results.FileRes.TheVariants as results
use Rattle.nfs_compound.specs.declared.res.Res.TheVariants.{File}
use Rattle.sess_slots.specs.Clients.{reclaim_answer}
use Rattle.compound_server.specs.Refusals.{refused}
use Rattle.nfs_base.specs.declared.status.TheConstants.Status as statuses
use Rattle.sess_slots.specs.Table.{SessionTable}
use Rattle.compound_server.specs.Course.{course_of, of_file, seen}
use Rattle.compound_server.specs.Performing.{file_done}
use Rattle.compound_server.proofs.Steps.{course_at, performs_known, performs_refused, ran_kept, ran_still, refuses_known}
use Rattle.compound_server.proofs.server.Server.file_done.Goals as goal

-- ---- operations that change files or opens, or read them

pub returns-in-Close-clause-performs : goal.returns-in-Close-clause-performs
unfolding file_done
returns-in-Close-clause-performs g c = λ told choice agrees. performs_known (record { gate = g.X.Extension.gated; serve = g.X.Serving.serves }) choice _ _ _ _ _ _ _ _ _ c.in-Close.is (c.close.ensures.does choice agrees) refl

pub returns-in-Close-clause-ran : goal.returns-in-Close-clause-ran
returns-in-Close-clause-ran g c = ran_kept (seat_of g.D.Disk.size g.D.Disk.fuse g.D.Disk.timeline g.D.Disk.faults) c.close.ensures.volume c.close.ensures.used

pub returns-in-Open-clause-performs : goal.returns-in-Open-clause-performs
unfolding file_done
returns-in-Open-clause-performs g c = λ told choice agrees. performs_known (record { gate = g.X.Extension.gated; serve = g.X.Serving.serves }) choice _ _ _ _ _ _ _ _ _ c.in-Open.is (c.open_by_name.ensures.does choice agrees) refl

pub returns-in-Open-clause-ran : goal.returns-in-Open-clause-ran
returns-in-Open-clause-ran g c = ran_kept (seat_of g.D.Disk.size g.D.Disk.fuse g.D.Disk.timeline g.D.Disk.faults) c.open_by_name.ensures.volume c.open_by_name.ensures.used

pub returns-in-GetFh-clause-performs : goal.returns-in-GetFh-clause-performs
unfolding file_done
returns-in-GetFh-clause-performs g c = λ told choice agrees. performs_known (record { gate = g.X.Extension.gated; serve = g.X.Serving.serves }) choice _ _ _ _ _ _ _ _ _ c.in-GetFh.is (c.get.ensures.does choice agrees) refl

pub returns-in-GetFh-clause-ran : goal.returns-in-GetFh-clause-ran
returns-in-GetFh-clause-ran g c = ran_still c.get.ensures.used

pub returns-in-PutFh-clause-performs : goal.returns-in-PutFh-clause-performs
unfolding file_done
returns-in-PutFh-clause-performs g c = λ told choice agrees. performs_known (record { gate = g.X.Extension.gated; serve = g.X.Serving.serves }) choice _ _ _ _ _ _ _ _ _ c.in-PutFh.is (c.put.ensures.does choice agrees) refl

pub returns-in-PutFh-clause-ran : goal.returns-in-PutFh-clause-ran
returns-in-PutFh-clause-ran g c = ran_still c.put.ensures.used

pub returns-in-PutRootFh-clause-performs : goal.returns-in-PutRootFh-clause-performs
unfolding file_done
returns-in-PutRootFh-clause-performs g c = λ told choice agrees. performs_known (record { gate = g.X.Extension.gated; serve = g.X.Serving.serves }) choice _ _ _ _ _ _ _ _ _ c.in-PutRootFh.is (c.put_root.ensures.does choice agrees) refl

pub returns-in-PutRootFh-clause-ran : goal.returns-in-PutRootFh-clause-ran
returns-in-PutRootFh-clause-ran g c = ran_still c.put_root.ensures.used

pub returns-in-RestoreFh-clause-performs : goal.returns-in-RestoreFh-clause-performs
unfolding file_done
returns-in-RestoreFh-clause-performs g c = λ told choice agrees. performs_known (record { gate = g.X.Extension.gated; serve = g.X.Serving.serves }) choice _ _ _ _ _ _ _ _ _ c.in-RestoreFh.is (c.restore.ensures.does choice agrees) refl

pub returns-in-RestoreFh-clause-ran : goal.returns-in-RestoreFh-clause-ran
returns-in-RestoreFh-clause-ran g c = ran_still c.restore.ensures.used

pub returns-in-SaveFh-clause-performs : goal.returns-in-SaveFh-clause-performs
unfolding file_done
returns-in-SaveFh-clause-performs g c = λ told choice agrees. performs_known (record { gate = g.X.Extension.gated; serve = g.X.Serving.serves }) choice _ _ _ _ _ _ _ _ _ c.in-SaveFh.is (c.save.ensures.does choice agrees) refl

pub returns-in-SaveFh-clause-ran : goal.returns-in-SaveFh-clause-ran
returns-in-SaveFh-clause-ran g c = ran_still c.save.ensures.used

pub returns-in-Commit-clause-performs : goal.returns-in-Commit-clause-performs
unfolding file_done
returns-in-Commit-clause-performs g c = λ told choice agrees. performs_known (record { gate = g.X.Extension.gated; serve = g.X.Serving.serves }) choice _ _ _ _ _ _ _ _ _ c.in-Commit.is (c.commit.ensures.does told choice agrees) refl

pub returns-in-Write-clause-performs : goal.returns-in-Write-clause-performs
unfolding file_done
returns-in-Write-clause-performs g c = λ told choice agrees. performs_known (record { gate = g.X.Extension.gated; serve = g.X.Serving.serves }) choice _ _ _ _ _ _ _ _ _ c.in-Write.is (c.write.ensures.does told choice agrees) refl

pub returns-in-Read-clause-performs : goal.returns-in-Read-clause-performs
unfolding file_done
returns-in-Read-clause-performs g c = λ told choice agrees. performs_known (record { gate = g.X.Extension.gated; serve = g.X.Serving.serves }) choice _ _ _ _ _ _ _ _ _ c.in-Read.is (c.read.ensures.does told choice agrees) refl

pub returns-in-Lookup-clause-performs : goal.returns-in-Lookup-clause-performs
unfolding file_done
returns-in-Lookup-clause-performs g c = λ told choice agrees.
    let going = (course_of g.D.Disk.size c.args.self.now c.args.p.now).going in
    performs_known (record { gate = g.X.Extension.gated; serve = g.X.Serving.serves }) choice _ _ _ _ _ _ _ _ _ c.in-Lookup.is (c.lookup.ensures.does choice agrees)
    (ap (λ (name : List ℕ). of_file c.args.self.now.sessions (lookup name going)) (sym c.as_slice-in-Lookup.ensures))

pub returns-in-Lookup-clause-ran : goal.returns-in-Lookup-clause-ran
returns-in-Lookup-clause-ran g c = ran_still c.lookup.ensures.used

pub returns-in-GetAttr-clause-performs : goal.returns-in-GetAttr-clause-performs
unfolding file_done
returns-in-GetAttr-clause-performs g c = λ told choice agrees.
    let going = (course_of g.D.Disk.size c.args.self.now c.args.p.now).going in
    performs_known (record { gate = g.X.Extension.gated; serve = g.X.Serving.serves }) choice _ _ _ _ _ _ _ _ _ c.in-GetAttr.is (c.get_attributes.ensures.does choice agrees)
    (ap (λ (mask : List ℕ). of_file c.args.self.now.sessions (get_attributes (record { gate = g.X.Extension.gated }) c.args.caller.now c.args.carry.now mask going)) (sym c.as_slice.ensures))

pub returns-in-GetAttr-clause-ran : goal.returns-in-GetAttr-clause-ran
returns-in-GetAttr-clause-ran g c = ran_kept (seat_of g.D.Disk.size g.D.Disk.fuse g.D.Disk.timeline g.D.Disk.faults) c.get_attributes.ensures.volume c.get_attributes.ensures.used

-- ---- operations that are refused

pub returns-in-Illegal-clause-performs : goal.returns-in-Illegal-clause-performs
unfolding file_done
returns-in-Illegal-clause-performs g c = λ told choice agrees.
    refuses_known (record { gate = g.X.Extension.gated; serve = g.X.Serving.serves }) choice c.args.caller.now c.args.carry.now c.args.next (machine_of g.D.Disk.size c.args.self.now.files) c.args.self.now.sessions c.args.p.now OP_ILLEGAL statuses.OP_ILLEGAL
    c.in-Illegal.is c.refuse-in-Illegal.ensures.says c.refuse-in-Illegal.ensures.status refl

pub returns-in-Illegal-clause-ran : goal.returns-in-Illegal-clause-ran
returns-in-Illegal-clause-ran g c = ran_still c.refuse-in-Illegal.ensures.says.used

pub returns-in-ExchangeId-clause-performs : goal.returns-in-ExchangeId-clause-performs
unfolding file_done
returns-in-ExchangeId-clause-performs g c = λ told choice agrees.
    refuses_known (record { gate = g.X.Extension.gated; serve = g.X.Serving.serves }) choice c.args.caller.now c.args.carry.now c.args.next (machine_of g.D.Disk.size c.args.self.now.files) c.args.self.now.sessions c.args.p.now OP_EXCHANGE_ID statuses.NOT_ONLY_OP
    c.in-ExchangeId.is c.refuse-in-ExchangeId.ensures.says c.refuse-in-ExchangeId.ensures.status refl

pub returns-in-ExchangeId-clause-ran : goal.returns-in-ExchangeId-clause-ran
returns-in-ExchangeId-clause-ran g c = ran_still c.refuse-in-ExchangeId.ensures.says.used

pub returns-in-CreateSession-clause-performs : goal.returns-in-CreateSession-clause-performs
unfolding file_done
returns-in-CreateSession-clause-performs g c = λ told choice agrees.
    refuses_known (record { gate = g.X.Extension.gated; serve = g.X.Serving.serves }) choice c.args.caller.now c.args.carry.now c.args.next (machine_of g.D.Disk.size c.args.self.now.files) c.args.self.now.sessions c.args.p.now OP_CREATE_SESSION statuses.NOT_ONLY_OP
    c.in-CreateSession.is c.refuse-in-CreateSession.ensures.says c.refuse-in-CreateSession.ensures.status refl

pub returns-in-CreateSession-clause-ran : goal.returns-in-CreateSession-clause-ran
returns-in-CreateSession-clause-ran g c = ran_still c.refuse-in-CreateSession.ensures.says.used

pub returns-in-DestroySession-clause-performs : goal.returns-in-DestroySession-clause-performs
unfolding file_done
returns-in-DestroySession-clause-performs g c = λ told choice agrees.
    refuses_known (record { gate = g.X.Extension.gated; serve = g.X.Serving.serves }) choice c.args.caller.now c.args.carry.now c.args.next (machine_of g.D.Disk.size c.args.self.now.files) c.args.self.now.sessions c.args.p.now OP_DESTROY_SESSION statuses.NOT_ONLY_OP
    c.in-DestroySession.is c.refuse-in-DestroySession.ensures.says c.refuse-in-DestroySession.ensures.status refl

pub returns-in-DestroySession-clause-ran : goal.returns-in-DestroySession-clause-ran
returns-in-DestroySession-clause-ran g c = ran_still c.refuse-in-DestroySession.ensures.says.used

pub returns-in-Sequence-clause-performs : goal.returns-in-Sequence-clause-performs
unfolding file_done
returns-in-Sequence-clause-performs g c = λ told choice agrees.
    refuses_known (record { gate = g.X.Extension.gated; serve = g.X.Serving.serves }) choice c.args.caller.now c.args.carry.now c.args.next (machine_of g.D.Disk.size c.args.self.now.files) c.args.self.now.sessions c.args.p.now OP_SEQUENCE statuses.SEQUENCE_POS
    c.in-Sequence.is c.refuse-in-Sequence.ensures.says c.refuse-in-Sequence.ensures.status refl

pub returns-in-Sequence-clause-ran : goal.returns-in-Sequence-clause-ran
returns-in-Sequence-clause-ran g c = ran_still c.refuse-in-Sequence.ensures.says.used

pub returns-in-DestroyClientId-clause-performs : goal.returns-in-DestroyClientId-clause-performs
unfolding file_done
returns-in-DestroyClientId-clause-performs g c = λ told choice agrees.
    refuses_known (record { gate = g.X.Extension.gated; serve = g.X.Serving.serves }) choice c.args.caller.now c.args.carry.now c.args.next (machine_of g.D.Disk.size c.args.self.now.files) c.args.self.now.sessions c.args.p.now OP_DESTROY_CLIENTID statuses.NOT_ONLY_OP
    c.in-DestroyClientId.is c.refuse-in-DestroyClientId.ensures.says c.refuse-in-DestroyClientId.ensures.status refl

pub returns-in-DestroyClientId-clause-ran : goal.returns-in-DestroyClientId-clause-ran
returns-in-DestroyClientId-clause-ran g c = ran_still c.refuse-in-DestroyClientId.ensures.says.used

-- ---- RECLAIM_COMPLETE

pub returns-in-ReclaimComplete-clause-performs : goal.returns-in-ReclaimComplete-clause-performs
unfolding file_done refused
returns-in-ReclaimComplete-clause-performs g c = λ told choice agrees.
    let old = course_of g.D.Disk.size c.args.self.now c.args.p.now in
    let before = c.args.p.now.page.bytes in
    ap (λ (arg : FileArg). seen (file_done (record { gate = g.X.Extension.gated; serve = g.X.Serving.serves }) choice c.args.caller.now c.args.carry.now c.args.next arg old) before) c.in-ReclaimComplete.is
    ∙ ap (λ (t : SessionTable). seen (record { course = course_at (machine_of g.D.Disk.size c.args.self.now.files) t c.args.p.now; res = File (results.ReclaimComplete (reclaim_answer c.args.self.now.sessions c.args.caller.now.client)) }) before)
    (sym c.reclaim-status.ensures.done)
    ∙ performs_refused (machine_of g.D.Disk.size c.args.self.now.files) c.reclaim-status.new.self OP_RECLAIM_COMPLETE (reclaim_answer c.args.self.now.sessions c.args.caller.now.client)
    c.reclaim-status.result c.refuse.result c.args.p.now c.refuse.new.self c.refuse.ensures.says (sym c.reclaim-status.ensures.answer) c.refuse.ensures.status

pub returns-in-ReclaimComplete-clause-ran : goal.returns-in-ReclaimComplete-clause-ran
returns-in-ReclaimComplete-clause-ran g c = ran_still c.refuse.ensures.says.used
