use Rattle.wire_run.proofs.Shown.{is_open, sized}
use Rattle.wire_run.proofs.system.System.size.Goals as goal

pub size-requires-clause-open : goal.size-requires-clause-open
size-requires-clause-open g c =
    is_open g.D.Disk.Told g.D.Disk.size g.D.Disk.fuse c.args.file c.self.inside.context c.self.inside.mech c.self.inside.stage c.args.self.now c.self.invariant c.self.view_is
    c.args.side c.requires.file c.requires.disks

pub returns : goal.returns
returns g c = λ t.
    sized g.D.Disk.Told g.D.Disk.size g.D.Disk.fuse c.args.file c.self.inside.context c.self.inside.mech c.self.inside.stage c.args.self.now c.self.invariant c.self.view_is
    c.args.side c.size.result c.requires.file c.requires.disks c.size.ensures t
