use Rattle.std.proofs.Common.{ℕ, List, sym, ap, ◌∙◌, Option}
use Rattle.nfs_base.specs.declared.status.Status.{Status}
use Rattle.server_volume.specs.Store.{seat_of}
use Rattle.file_server.specs.Machine.{shown}
use Rattle.file_server.specs.Answering.{going_of}
use Rattle.file_server.specs.Writing as writing
use Rattle.file_server.proofs.Steps.{ran_still}
use Rattle.file_server.proofs.files.Files.write_file.Goals as goal

pub returns-in-Err-clause-ran : goal.returns-in-Err-clause-ran
returns-in-Err-clause-ran g c =
    let D = g.D.Disk in
    ran_still (seat_of D.size D.fuse D.timeline D.faults c.args.self.now.volume) c.args.p.now.used c.refuse.new.self.used c.refuse.ensures.says.used

pub returns-in-Ok-clause-does : goal.returns-in-Ok-clause-does
returns-in-Ok-clause-does g c = λ told choice agrees.
    let old = going_of g.D.Disk.size c.args.self.now c.args.p.now in
    let before = c.args.p.now.page.bytes in
    let args = c.args.args.now in
    ap (λ (r : Option Status). shown (writing.write_unless r choice args c.args.file old) before) c.in-Ok.ensures
    ∙ ap (λ (bytes : List ℕ). shown (writing.write_at choice args.offset (writing.taken_bytes bytes) args.stable c.args.file old) before) (sym c.as_slice.ensures)
    ∙ ap (λ (bytes : List ℕ). shown (writing.write_at choice args.offset bytes args.stable c.args.file old) before) (sym c.taken_bytes.ensures.bytes)
    ∙ c.write_at.ensures.does told choice agrees
