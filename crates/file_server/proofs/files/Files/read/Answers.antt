use Rattle.std.proofs.Common.{ℕ, Result, sym, ap, ◌∙◌}
use Rattle.nfs_base.specs.declared.status.Status.{Status}
use Rattle.server_volume.specs.Store.{seat_of}
use Rattle.file_server.specs.Machine.{Rules, shown}
use Rattle.file_server.specs.Answering.{going_of}
use Rattle.file_server.specs.Reading as reading
use Rattle.file_server.proofs.Steps.{ran_still}
use Rattle.file_server.proofs.files.Files.read.Goals as goal

pub returns-then-p-clause-ran : goal.returns-then-p-clause-ran
returns-then-p-clause-ran g c =
    let D = g.D.Disk in
    ran_still (seat_of D.size D.fuse D.timeline D.faults c.args.self.now.volume) c.args.p.now.used c.refuse.new.self.used c.refuse.ensures.says.used

pub returns-in-Err-clause-ran : goal.returns-in-Err-clause-ran
returns-in-Err-clause-ran g c =
    let D = g.D.Disk in
    ran_still (seat_of D.size D.fuse D.timeline D.faults c.args.self.now.volume) c.args.p.now.used c.refuse-in-Err.new.self.used c.refuse-in-Err.ensures.says.used

pub returns-in-Ok-clause-does : goal.returns-in-Ok-clause-does
unfolding reading.read
returns-in-Ok-clause-does g c = λ told choice agrees.
    let old = going_of g.D.Disk.size c.args.self.now c.args.p.now in
    let rules : Rules g.row.X.Denot g.row.P.Denot = record { gate = g.X.Extension.gated } in
    ap (λ b. shown (reading.read_once b rules choice c.args.caller.now c.args.carry.now c.args.args.now old) c.args.p.now.page.bytes) c.if-p.false
    ∙ ap (λ (r : Result ℕ Status). shown (reading.read_file rules choice c.args.caller.now c.args.carry.now c.args.args.now r old) c.args.p.now.page.bytes) (sym c.in-Ok.ensures.file)
    ∙ c.read_file.ensures.does told choice agrees
