use Rattle.std.proofs.Common.{◌≡◌, ℕ, ◌<◌, ◌≤◌, [], length, slice_index, slice_index_or}
use Rattle.disk_model.specs.Elapsed.{contents}
use Rattle.block_file.specs.Cell.{gate_of}
use Rattle.block_file.specs.Layout.{cell_at, table_of}
use Rattle.block_file.proofs.load.load_cells.Given as goal

abbrev pub invariant-loop-number : goal.invariant-loop-number
invariant-loop-number g l = record {
  homes : length l.homes.items ≡ l.number;
  tables : length l.tables.items ≡ l.number;
  newest : l.newest.items ≡ l.tables.items;
  two : (j : ℕ) → j < l.number → slice_index l.homes.items j ≤ 1;
  homes_are : g.D.Disk.Told → (j : ℕ) → j < l.number
      → slice_index l.homes.items j ≡ gate_of (contents (g.D.Disk.timeline l.initial.disk) (cell_at j));
  tables_are : g.D.Disk.Told → (j : ℕ) → j < l.number
      → slice_index_or l.tables.items j [] ≡ table_of (contents (g.D.Disk.timeline l.initial.disk)) j;
  same : g.D.Disk.Told → g.D.Disk.timeline l.disk ≡ g.D.Disk.timeline l.initial.disk;
  size : g.D.Disk.size l.disk ≡ g.D.Disk.size l.initial.disk;
  fuse : g.D.Disk.fuse l.disk ≡ g.D.Disk.fuse l.initial.disk;
  faults : g.D.Disk.faults l.initial.disk ≤ g.D.Disk.faults l.disk;
}
