use Rattle.std.proofs.Common.{ℕ, sym, ap, ◌∙◌, Result}
use Rattle.nfs_base.specs.declared.status.Status.{Status}
use Rattle.server_volume.specs.Store.{seat_of}
use Rattle.file_server.specs.Machine.{shown}
use Rattle.file_server.specs.Answering.{going_of}
use Rattle.file_server.specs.Writing as writing
use Rattle.file_server.proofs.Steps.{ran_still}
use Rattle.file_server.proofs.files.Files.write.Goals as goal

pub returns-in-Err-clause-ran : goal.returns-in-Err-clause-ran
returns-in-Err-clause-ran g c =
    let D = g.D.Disk in
    ran_still (seat_of D.size D.fuse D.timeline D.faults c.args.self.now.volume) c.args.p.now.used c.refuse.new.self.used c.refuse.ensures.says.used

pub returns-in-Ok-clause-does : goal.returns-in-Ok-clause-does
unfolding writing.write
returns-in-Ok-clause-does g c = λ told choice agrees.
    let old = going_of g.D.Disk.size c.args.self.now c.args.p.now in
    ap (λ (r : Result ℕ Status). shown (writing.write_file choice c.args.args.now r old) c.args.p.now.page.bytes) (sym c.in-Ok.ensures.file)
    ∙ c.write_file.ensures.does told choice agrees
