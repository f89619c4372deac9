use Rattle.std.proofs.Common.{◌≡◌, ℕ, ◌+◌, ◌<◌, ◌≤◌, length, get_or, ◌-◌}
use Rattle.disk_model.specs.Elapsed.{contents}
use Rattle.block_file.specs.Stored.{blocks_by}
use Rattle.block_file.proofs.runs.read_run.Given as goal

abbrev pub invariant-loop-done : goal.invariant-loop-done
invariant-loop-done g l = record {
  within : l.done ≤ length l.out;
  len : length l.out ≡ length l.initial.out;
  read : g.D.Disk.Told → (i : ℕ) → i < l.done → get_or l.out i 0
      ≡ get_or (blocks_by l.shape.files l.shape.blocks l.table (contents (g.D.Disk.timeline l.initial.disk)) l.file) (l.off + i) 0;
  same : g.D.Disk.Told → g.D.Disk.timeline l.disk ≡ g.D.Disk.timeline l.initial.disk;
  size : g.D.Disk.size l.disk ≡ g.D.Disk.size l.initial.disk;
  fuse : g.D.Disk.fuse l.disk ≡ g.D.Disk.fuse l.initial.disk;
  faults : g.D.Disk.faults l.initial.disk ≤ g.D.Disk.faults l.disk;
}

abbrev pub decreases-loop-done : goal.decreases-loop-done
decreases-loop-done g l = length l.out - l.done
