use Rattle.wire_run.proofs.Systems.{dest_held, source_held}
use Rattle.wire_run.proofs.system.System.hand_back.Goals as goal

pub returns-clause-source_holds : goal.returns-clause-source_holds
returns-clause-source_holds g c =
    λ t. source_held g.D.Disk.Told g.D.Disk.timeline g.D.Disk.size c.self.inside.context c.self.inside.stage c.args.self c.hand_back.result c.self.view_is c.self.invariant.source_fits t (c.hand_back.ensures.left t)

pub returns-clause-dest_holds : goal.returns-clause-dest_holds
returns-clause-dest_holds g c =
    λ t. dest_held g.D.Disk.Told g.D.Disk.timeline g.D.Disk.size c.self.inside.context c.self.inside.stage c.args.self c.hand_back-2.result c.self.view_is c.self.invariant.dest_fits t (c.hand_back-2.ensures.left t)
