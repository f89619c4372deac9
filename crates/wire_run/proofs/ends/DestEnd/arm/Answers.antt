use Rattle.std.proofs.Common.{refl}
use Rattle.wire_run.proofs.Stopping.{dest_armed}
use Rattle.wire_run.proofs.ends.DestEnd.arm.Goals as goal

pub returns : goal.returns
returns g c =
    dest_armed g.D.Disk.Told g.D.Disk.size g.D.Disk.fuse g.D.Disk.faults c.args.calls c.args.self.now _ c.in-Open.core c.fuse.new.self c.in-Open.is refl
    c.fuse.ensures.fuse c.fuse.ensures.still c.fuse.ensures.counted c.fuse.ensures.size c.fuse.ensures.faults
