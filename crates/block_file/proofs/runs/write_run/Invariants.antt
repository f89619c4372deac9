use Rattle.std.proofs.Common.{◌≡◌, ◌≢◌, ℕ, ◌≤◌, length, take, ◌-◌}
use Rattle.disk_model.specs.declared.fuse.Fuse.TheVariants.{Unset}
use Rattle.disk_model.specs.Elapsed.{contents}
use Rattle.block_file.specs.Layout.{data_at}
use Rattle.block_file.specs.Lists.{put_in}
use Rattle.block_file.specs.Stored.{blocks_by}
use Rattle.block_file.specs.Blocks.{InShape, KeepsSafe}
use Rattle.block_file.proofs.runs.write_run.Given as goal

abbrev pub invariant-loop-done : goal.invariant-loop-done
invariant-loop-done g l = record {
  within : l.done ≤ length l.bytes;
  safe : g.D.Disk.Told → KeepsSafe l.shape l.table l.file
      (g.D.Disk.fuse l.initial.disk) (g.D.Disk.fuse l.disk) (g.D.Disk.timeline l.initial.disk) (g.D.Disk.timeline l.disk);
  written : g.D.Disk.Told → blocks_by l.shape.files l.shape.blocks l.newest (contents (g.D.Disk.timeline l.disk)) l.file
      ≡ put_in l.off (take l.done l.bytes) (blocks_by l.shape.files l.shape.blocks l.initial.newest (contents (g.D.Disk.timeline l.initial.disk)) l.file);
  others : g.D.Disk.Told → (j b h : ℕ) → InShape l.shape j b → h ≤ 1 → j ≢ l.file
      → contents (g.D.Disk.timeline l.disk) (data_at l.shape.files l.shape.blocks j b h) ≡ contents (g.D.Disk.timeline l.initial.disk) (data_at l.shape.files l.shape.blocks j b h);
  words : take 16 l.newest ≡ take 16 l.initial.newest;
  unset : g.D.Disk.fuse l.initial.disk ≡ Unset → g.D.Disk.fuse l.disk ≡ Unset;
  size : g.D.Disk.size l.disk ≡ g.D.Disk.size l.initial.disk;
  faults : g.D.Disk.faults l.initial.disk ≤ g.D.Disk.faults l.disk;
}

abbrev pub decreases-loop-done : goal.decreases-loop-done
decreases-loop-done g l = length l.bytes - l.done
