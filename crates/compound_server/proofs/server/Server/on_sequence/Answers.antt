use Rattle.std.proofs.Common.{refl, ap}
use Rattle.server_volume.specs.Store.{seat_of}
use Rattle.compound_server.proofs.Executed.{ran_told}
use Rattle.compound_server.proofs.server.Server.on_sequence.Goals as goal

-- src/compounds.rt:297:5
pub returns-in-Replay-clause-ran : goal.returns-in-Replay-clause-ran
returns-in-Replay-clause-ran g c =
    ran_told g.D.Disk.Told g.D.Disk.size c.replay.new.self c.replay.result _ _ _ c.replay.ensures.gives refl (ap (seat_of g.D.Disk.size g.D.Disk.fuse g.D.Disk.timeline g.D.Disk.faults) c.replay.ensures.volume)

-- src/compounds.rt:297:5
pub returns-in-FalseRetry-clause-ran : goal.returns-in-FalseRetry-clause-ran
returns-in-FalseRetry-clause-ran g c =
    ran_told g.D.Disk.Told g.D.Disk.size c.refuse.new.self c.refuse.result _ _ _ c.refuse.ensures.gives refl (ap (seat_of g.D.Disk.size g.D.Disk.fuse g.D.Disk.timeline g.D.Disk.faults) c.refuse.ensures.volume)

-- src/compounds.rt:297:5
pub returns-in-BadSession-clause-ran : goal.returns-in-BadSession-clause-ran
returns-in-BadSession-clause-ran g c =
    ran_told g.D.Disk.Told g.D.Disk.size c.refuse-in-BadSession.new.self c.refuse-in-BadSession.result _ _ _ c.refuse-in-BadSession.ensures.gives refl (ap (seat_of g.D.Disk.size g.D.Disk.fuse g.D.Disk.timeline g.D.Disk.faults) c.refuse-in-BadSession.ensures.volume)

-- src/compounds.rt:297:5
pub returns-in-BadSlot-clause-ran : goal.returns-in-BadSlot-clause-ran
returns-in-BadSlot-clause-ran g c =
    ran_told g.D.Disk.Told g.D.Disk.size c.refuse-in-BadSlot.new.self c.refuse-in-BadSlot.result _ _ _ c.refuse-in-BadSlot.ensures.gives refl (ap (seat_of g.D.Disk.size g.D.Disk.fuse g.D.Disk.timeline g.D.Disk.faults) c.refuse-in-BadSlot.ensures.volume)

-- src/compounds.rt:275:5
pub returns-in-Misordered-clause-ran : goal.returns-in-Misordered-clause-ran
returns-in-Misordered-clause-ran g c =
    ran_told g.D.Disk.Told g.D.Disk.size c.refuse-in-Misordered.new.self c.refuse-in-Misordered.result _ _ _ c.refuse-in-Misordered.ensures.gives refl (ap (seat_of g.D.Disk.size g.D.Disk.fuse g.D.Disk.timeline g.D.Disk.faults) c.refuse-in-Misordered.ensures.volume)
