use Rattle.std.proofs.Common.{length, refl, sym, ap, ◌∙◌, arith}
use Rattle.block_file.specs.declared.faults.WriteFault.{WriteFault}
use Rattle.nfs_base.specs.declared.answer.Answer.TheVariants.{Refused}
use Rattle.nfs_base.specs.declared.status.Status.{Status}
use Rattle.nfs_base.specs.Forms.{answer}
use Rattle.wire_xdr.specs.Words.{word_bytes}
use Rattle.file_ops.specs.declared.results.FileRes.TheVariants as results
use Rattle.file_ops.specs.Results.{file_res}
use Rattle.server_volume.specs.Calls.{Called}
use Rattle.server_volume.specs.MomentLaws.{counted_on}
use Rattle.server_volume.specs.Store.{seat_of}
use Rattle.file_server.specs.Machine.{shown, with_call, res_bytes}
use Rattle.file_server.specs.Answering.{going_of, machine_of}
use Rattle.file_server.specs.Writing as writing
use Rattle.file_server.proofs.Steps.{agrees_as, does_said, keeps_said, keeps_after}
use Rattle.file_server.proofs.files.Files.write_at.Goals as goal

pub returns-in-Err-clause-does : goal.returns-in-Err-clause-does
unfolding file_res answer word_bytes
returns-in-Err-clause-does g c = λ told choice agrees.
    let old = going_of g.D.Disk.size c.args.self.now c.args.p.now in
    let q = record c.args.p.now { used = c.call_write.new.used } in
    let m = machine_of g.D.Disk.size (record c.args.self.now { volume = c.call_write.new.volume }) in
    let call = c.in-Err.ensures.makes told choice (agrees_as choice c.call_write.new.used c.refuse.new.self.used c.refuse.ensures.says.used agrees) in
    ap (λ (x : Called WriteFault). shown (writing.write_told x.fault choice c.args.file (length c.args.bytes.now) c.args.how (with_call x old)) c.args.p.now.page.bytes) call
    ∙ does_said m (results.Write (Refused (writing.write_status c.in-Err.fault))) q c.refuse.new.self _ c.refuse.result c.refuse.ensures.says
    (ap (λ (s : Status). res_bytes (results.Write (Refused s))) (sym c.write_status.ensures)) (sym (c.refuse.ensures.status ∙ c.write_status.ensures))

pub returns-in-Err-clause-keeps : goal.returns-in-Err-clause-keeps
returns-in-Err-clause-keeps g c =
    keeps_said c.args.p.now (record c.args.p.now { used = c.call_write.new.used }) c.refuse.new.self _ c.refuse.ensures.says
    refl refl c.call_write.ensures.grows (omega (arith, c.call_write.ensures.counted)) (omega (arith, c.refuse.ensures.len))

pub returns-in-Ok-clause-keeps : goal.returns-in-Ok-clause-keeps
returns-in-Ok-clause-keeps g c =
    keeps_after c.args.p.now (record c.args.p.now { used = c.call_write.new.used }) c.settle.new.p c.settle.ensures.keeps
    refl refl c.call_write.ensures.grows (omega (arith, c.call_write.ensures.counted))

pub returns-in-Ok-clause-ran : goal.returns-in-Ok-clause-ran
returns-in-Ok-clause-ran g c =
    let D = g.D.Disk in
    counted_on D.Told (seat_of D.size D.fuse D.timeline D.faults c.args.self.now.volume) (seat_of D.size D.fuse D.timeline D.faults c.call_write.new.volume)
    (seat_of D.size D.fuse D.timeline D.faults c.settle.new.self.volume) c.args.p.now.used c.call_write.new.used c.settle.new.p.used
    (c.call_write.ensures.ran) (c.settle.ensures.ran)
