use Rattle.std.proofs.Common.{refl, ap}
use Rattle.server_volume.specs.Store.{seat_of}
use Rattle.compound_server.proofs.Executed.{ran_told}
use Rattle.compound_server.proofs.server.Server.on_compound.Goals as goal

pub returns-then-minor-ne-MINOR_VERSION-clause-ran : goal.returns-then-minor-ne-MINOR_VERSION-clause-ran
returns-then-minor-ne-MINOR_VERSION-clause-ran g c =
    ran_told g.D.Disk.Told g.D.Disk.size c.refuse_minor.new.self c.refuse_minor.result _ _ _ c.refuse_minor.ensures.gives refl (ap (seat_of g.D.Disk.size g.D.Disk.fuse g.D.Disk.timeline g.D.Disk.faults) c.refuse_minor.ensures.volume)

pub returns-then-count-gt-MOST_OPERATIONS-clause-ran : goal.returns-then-count-gt-MOST_OPERATIONS-clause-ran
returns-then-count-gt-MOST_OPERATIONS-clause-ran g c =
    ran_told g.D.Disk.Told g.D.Disk.size c.refuse.new.self c.refuse.result _ _ _ c.refuse.ensures.gives refl (ap (seat_of g.D.Disk.size g.D.Disk.fuse g.D.Disk.timeline g.D.Disk.faults) c.refuse.ensures.volume)
