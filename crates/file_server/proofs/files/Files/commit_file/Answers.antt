use Rattle.std.proofs.Common.{ℕ, refl, sym, ap, ◌∙◌, arith}
use Rattle.block_file.specs.declared.faults.ReadFault.{ReadFault}
use Rattle.nfs_base.specs.declared.answer.Answer.TheVariants.{Done, Refused}
use Rattle.nfs_base.specs.declared.status.TheConstants.Status.{IO}
use Rattle.nfs_base.specs.Forms.{answer}
use Rattle.wire_xdr.specs.Words.{word_bytes, hyper_bytes, fixed_bytes}
use Rattle.file_ops.specs.declared.results.FileRes.TheVariants as results
use Rattle.file_ops.specs.Results.{file_res}
use Rattle.server_volume.specs.Calls.{Called}
use Rattle.file_server.specs.Machine.{shown, with_call, res_bytes}
use Rattle.file_server.specs.Answering.{going_of, machine_of}
use Rattle.file_server.specs.Writing.{commit_told}
use Rattle.file_server.proofs.Steps.{agrees_as, does_said, keeps_said}
use Rattle.file_server.proofs.files.Files.commit_file.Goals as goal

pub returns-in-Err-clause-does : goal.returns-in-Err-clause-does
unfolding file_res answer word_bytes
returns-in-Err-clause-does g c = λ told choice agrees.
    let old = going_of g.D.Disk.size c.args.self.now c.args.p.now in
    let q = record c.args.p.now { used = c.call_commit.new.used } in
    let m = machine_of g.D.Disk.size (record c.args.self.now { volume = c.call_commit.new.volume }) in
    let call = c.in-Err.ensures.makes told choice (agrees_as choice c.call_commit.new.used c.refuse.new.self.used c.refuse.ensures.says.used agrees) in
    ap (λ (x : Called ReadFault). shown (commit_told x.fault (with_call x old)) c.args.p.now.page.bytes) call
    ∙ does_said m (results.Commit (Refused IO)) q c.refuse.new.self _ c.refuse.result c.refuse.ensures.says refl (sym c.refuse.ensures.status)

pub returns-in-Ok-clause-does : goal.returns-in-Ok-clause-does
unfolding file_res answer word_bytes hyper_bytes fixed_bytes
returns-in-Ok-clause-does g c = λ told choice agrees.
    let old = going_of g.D.Disk.size c.args.self.now c.args.p.now in
    let q = record c.args.p.now { used = c.call_commit.new.used } in
    let m = machine_of g.D.Disk.size (record c.args.self.now { volume = c.call_commit.new.volume }) in
    let call = c.in-Ok.ensures.makes told choice (agrees_as choice c.call_commit.new.used c.say_committed.new.self.used c.say_committed.ensures.says.used agrees) in
    ap (λ (x : Called ReadFault). shown (commit_told x.fault (with_call x old)) c.args.p.now.page.bytes) call
    ∙ does_said m (results.Commit (Done (hyper_bytes c.call_commit.new.volume.volume.boot))) q c.say_committed.new.self _ c.say_committed.result c.say_committed.ensures.says
    (ap (λ (n : ℕ). res_bytes (results.Commit (Done (hyper_bytes n)))) (sym c.boot.ensures)) (sym c.say_committed.ensures.status)

pub returns-in-Err-clause-keeps : goal.returns-in-Err-clause-keeps
returns-in-Err-clause-keeps g c =
    keeps_said c.args.p.now (record c.args.p.now { used = c.call_commit.new.used }) c.refuse.new.self _ c.refuse.ensures.says
    refl refl c.call_commit.ensures.grows (omega (arith, c.call_commit.ensures.counted)) (omega (arith, c.refuse.ensures.len))

pub returns-in-Ok-clause-keeps : goal.returns-in-Ok-clause-keeps
returns-in-Ok-clause-keeps g c =
    keeps_said c.args.p.now (record c.args.p.now { used = c.call_commit.new.used }) c.say_committed.new.self _ c.say_committed.ensures.says
    refl refl c.call_commit.ensures.grows (omega (arith, c.call_commit.ensures.counted)) (omega (arith, c.say_committed.ensures.len))
