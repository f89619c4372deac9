use Rattle.server_volume.specs.Store.{seat_of}
use Rattle.file_server.proofs.Steps.{ran_still}
use Rattle.file_server.proofs.files.Files.commit.Goals as goal

pub returns-in-Err-clause-ran : goal.returns-in-Err-clause-ran
returns-in-Err-clause-ran g c =
    let D = g.D.Disk in
    ran_still (seat_of D.size D.fuse D.timeline D.faults c.args.self.now.volume) c.args.p.now.used c.refuse.new.self.used c.refuse.ensures.says.used
