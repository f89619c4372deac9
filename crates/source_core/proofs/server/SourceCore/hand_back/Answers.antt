-- The volume stands for what a crash may leave of its disk, and that disk comes back.
use Rattle.std.proofs.Common.{subst, sym}
use Rattle.block_file.specs.Opened.{MayBeLeft, homes_by}
use Rattle.disk_model.specs.Disk.{Image, MayLeave}
use Rattle.disk_model.specs.Elapsed.{present}
use Rattle.session_server.specs.Beside.{IsHandedBack}
use Rattle.session_server.specs.declared.host.Host.{Host}
use Rattle.source_core.specs.declared.carried.Carried.{Carried}
use Rattle.source_core.specs.declared.source.Source.{Source}
use Rattle.source_core.proofs.server.SourceCore.hand_back.Goals as goal

pub returns : goal.returns
returns g c =
    let disk = g.D.Disk in
    let volume = c.self.inside.host.server.files.volume in
    subst (λ (h : Host g.row.D.Denot (Source g.row.M.Denot) Carried). IsHandedBack disk.Told disk.size disk.timeline h c.hand_back.result) c.self.view_is (record {
      disk = c.hand_back.ensures.disk;
      left = λ told.
          subst
          (λ (d : g.row.D.Denot). (image : Image) → MayLeave (present (disk.timeline d)) image → MayBeLeft (disk.size d) volume.tag (homes_by volume.homes) volume.volume image)
          (sym c.hand_back.ensures.disk) (c.hand_back.ensures.stands told);
      again = c.hand_back.ensures.again;
    })
