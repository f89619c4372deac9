-- A volume as its server sees it. Own definitions.
use Rattle.std.specs.Prelude.{ℕ, List}
use Rattle.copy_model.specs.Volume.{Volume}
use Rattle.block_file.specs.Opened.{Opened}
use Rattle.disk_model.specs.declared.fuse.Fuse.{Fuse}
use Rattle.disk_model.specs.Elapsed.{Timeline}

-- The volume, the tag that it was formatted with, for each file the home in force of its table, and how many blocks
-- its disk has.
pub record Store : Type 0 where
  pub volume : Volume
  pub tag : ℕ
  pub homes : List ℕ
  pub size : ℕ

-- what an open volume is, on a disk of that size
abbrev pub store_of : {D : Type 0} → (D → ℕ) → Opened D → Store
store_of size v = record { volume = v.volume; tag = v.tag; homes = v.homes; size = size v.disk }

-- the same, with the disk's fuse and moments, and how many faults it counted
pub record Seat : Type 0 where
  pub store : Store
  pub fuse : Fuse
  pub timeline : Timeline
  pub faults : ℕ

abbrev pub seat_of : {D : Type 0} → (D → ℕ) → (D → Fuse) → (D → Timeline) → (D → ℕ) → Opened D → Seat
seat_of size fuse timeline faults v =
    record { store = store_of size v; fuse = fuse v.disk; timeline = timeline v.disk; faults = faults v.disk }
