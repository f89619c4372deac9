use Rattle.disk_model.specs.declared.fuse.Fuse.TheVariants.{Unset}
use Rattle.std.proofs.Common.{◌≡◌, ℕ, ◌+◌, ◌*◌, ◌<◌, ◌≤◌, replicate}
use Rattle.disk_model.specs.Elapsed.{present, contents}
use Rattle.disk_model.specs.Passes.{Passes}
use Rattle.block_file.specs.Stored.{HasHead, KeepsHead}
use Rattle.block_file.proofs.format.clear.Given as goal

abbrev pub invariant-loop-slot : goal.invariant-loop-slot
invariant-loop-slot g l = record {
  slots : g.D.Disk.Told → (k : ℕ) → k < l.slot → contents (g.D.Disk.timeline l.disk) (4 + 3 * l.files + 2 * k) ≡ replicate 4096 0;
  keeps : g.D.Disk.Told → KeepsHead (present (g.D.Disk.timeline l.initial.disk)) (present (g.D.Disk.timeline l.disk));
  moments : g.D.Disk.Told → Passes (g.D.Disk.fuse l.initial.disk) (g.D.Disk.fuse l.disk) (g.D.Disk.timeline l.initial.disk) (g.D.Disk.timeline l.disk)
      (HasHead (present (g.D.Disk.timeline l.initial.disk)));
  unset : g.D.Disk.fuse l.initial.disk ≡ Unset → g.D.Disk.fuse l.disk ≡ Unset;
  size : g.D.Disk.size l.disk ≡ g.D.Disk.size l.initial.disk;
  faults : g.D.Disk.faults l.initial.disk ≤ g.D.Disk.faults l.disk;
}

abbrev pub invariant-loop-cell : goal.invariant-loop-cell
invariant-loop-cell g l = record {
  slots : g.D.Disk.Told → (k : ℕ) → k < l.slots → contents (g.D.Disk.timeline l.disk) (4 + 3 * l.files + 2 * k) ≡ replicate 4096 0;
  cells : g.D.Disk.Told → (k : ℕ) → k < l.cell
      → (contents (g.D.Disk.timeline l.disk) (1 + 3 * k) ≡ replicate 4096 0) × (contents (g.D.Disk.timeline l.disk) (2 + 3 * k) ≡ replicate 4096 0);
  keeps : g.D.Disk.Told → KeepsHead (present (g.D.Disk.timeline l.initial.disk)) (present (g.D.Disk.timeline l.disk));
  moments : g.D.Disk.Told → Passes (g.D.Disk.fuse l.initial.disk) (g.D.Disk.fuse l.disk) (g.D.Disk.timeline l.initial.disk) (g.D.Disk.timeline l.disk)
      (HasHead (present (g.D.Disk.timeline l.initial.disk)));
  unset : g.D.Disk.fuse l.initial.disk ≡ Unset → g.D.Disk.fuse l.disk ≡ Unset;
  size : g.D.Disk.size l.disk ≡ g.D.Disk.size l.initial.disk;
  faults : g.D.Disk.faults l.initial.disk ≤ g.D.Disk.faults l.disk;
}
