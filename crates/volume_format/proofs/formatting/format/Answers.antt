use Rattle.std.proofs.Common.{◌≡◌, ◌≤◌, rules}
use Rattle.std.specs.Prelude.{Some}
use Rattle.block_file.specs.Stored.{LeftByFormat}
use Rattle.disk_model.specs.Elapsed.{present}
use Rattle.disk_model.specs.Passes.{Passes}
use Rattle.outcome.specs.Causes.{Rose}
use Rattle.volume_format.specs.Formatting.{need_of}
use Rattle.volume_format.proofs.Failing.{failed_ends, left_now}
use Rattle.volume_format.proofs.formatting.format.Goals as goal

pub returns-in-DiskFailed-clause-formats : goal.returns-in-DiskFailed-clause-formats
returns-in-DiskFailed-clause-formats g c =
    let disk = c.in-Some.handed in
    let back = c.in-Ok-Err.back in
    let was : c.args.disk.now ≡ Some disk = search rules in
    let room : need_of c.args.new ≤ g.D.Disk.size disk = search rules in
    let size : g.D.Disk.size back ≡ g.D.Disk.size disk = search rules in
    let rose : Rose (g.D.Disk.faults disk) (g.D.Disk.faults back) = search rules in
    let passes : g.D.Disk.Told
    → Passes (g.D.Disk.fuse disk) (g.D.Disk.fuse back) (g.D.Disk.timeline disk) (g.D.Disk.timeline back)
    (LeftByFormat c.args.new.files c.args.new.blocks (present (g.D.Disk.timeline disk))) = search rules in
    failed_ends _ c.args.new _ _ disk back _ was room size rose (λ told. left_now _ _ _ _ _ (passes told))
