use Rattle.std.proofs.Common.{ℕ, sym, ap, ◌∙◌}
use Rattle.nfs_base.specs.declared.answer.Answer.TheVariants.{Done}
use Rattle.nfs_base.specs.declared.written.Stability.TheVariants.{Unstable}
use Rattle.nfs_base.specs.Forms.{answer, stability}
use Rattle.wire_xdr.specs.Words.{word_bytes, hyper_bytes, fixed_bytes}
use Rattle.file_ops.specs.declared.results.FileRes.TheVariants as results
use Rattle.file_ops.specs.Files.{write_done}
use Rattle.file_ops.specs.Results.{file_res}
use Rattle.server_volume.specs.Store.{seat_of}
use Rattle.file_server.specs.Machine.{shown, res_bytes}
use Rattle.file_server.specs.Answering.{going_of, machine_of}
use Rattle.file_server.specs.Writing as writing
use Rattle.file_server.proofs.Steps.{does_said, ran_still}
use Rattle.file_server.proofs.files.Files.settle.Goals as goal

pub returns-in-Unstable-clause-does : goal.returns-in-Unstable-clause-does
unfolding file_res answer write_done word_bytes hyper_bytes fixed_bytes stability
returns-in-Unstable-clause-does g c = λ told choice agrees.
    let q = c.args.p.now in
    let m = machine_of g.D.Disk.size c.args.self.now in
    let old = going_of g.D.Disk.size c.args.self.now q in
    ap (λ how. shown (writing.write_settled choice c.args.file c.args.count how old) q.page.bytes) c.in-Unstable.is
    ∙ does_said m (results.Write (Done (record { count = c.args.count; committed = Unstable; verifier = hyper_bytes c.args.self.now.volume.volume.boot }))) q
    c.say_written.new.self _ c.say_written.result c.say_written.ensures.says
    (ap (λ (n : ℕ). res_bytes (results.Write (Done (record { count = c.args.count; committed = Unstable; verifier = hyper_bytes n })))) (sym c.boot.ensures))
    (sym c.say_written.ensures.status)

pub returns-in-Unstable-clause-ran : goal.returns-in-Unstable-clause-ran
returns-in-Unstable-clause-ran g c =
    let D = g.D.Disk in
    ran_still (seat_of D.size D.fuse D.timeline D.faults c.args.self.now.volume) c.args.p.now.used c.say_written.new.self.used c.say_written.ensures.says.used
