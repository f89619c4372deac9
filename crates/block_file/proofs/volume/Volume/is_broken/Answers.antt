use Rattle.std.proofs.Common.{subst}
use Rattle.block_file.specs.Opened.{Opened, StandsFor}
use Rattle.block_file.proofs.volume.Volume.is_broken.Goals as goal

pub returns-clause-stands : goal.returns-clause-stands
returns-clause-stands g c = λ told.
    subst (λ (v : Opened g.row.D.Denot). StandsFor g.D.Disk.timeline g.D.Disk.size v) c.self.view_is
    (λ image may. c.self.invariant.3.left told image may)
