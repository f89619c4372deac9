-- The homes of the files' tables are those of the volume that was opened.
use Rattle.std.proofs.Common.{◌≡◌, ℕ, ◌<◌, ◌≤◌, length, subst, sym}
use Rattle.block_file.specs.Opened.{Opened, homes_by}
use Rattle.block_file.specs.Stored.{home_of}
use Rattle.disk_model.specs.Elapsed.{contents}
use Rattle.source_core.proofs.server.SourceCore.open.Goals as goal

pub returns-in_ok-new-in-Ok-clause-homes : goal.returns-in_ok-new-in-Ok-clause-homes
returns-in_ok-new-in-Ok-clause-homes g c = λ told.
    subst
    (λ (v : Opened g.row.D.Denot). (j : ℕ) → 1 ≤ j → j < length v.volume.files → homes_by v.homes j ≡ home_of (contents (g.D.Disk.timeline c.args.disk)) j)
    (sym c.in_ok-new-in-Ok.ensures.volume) (rw c.in-Ok.is at (c.in_ok-fault.ensures.homes told))
