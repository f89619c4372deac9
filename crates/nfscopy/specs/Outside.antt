-- What is known of the outside at a moment.
use Rattle.std.specs.Prelude.{◌≡◌, ◌⊎◌, ℕ, Option, None, List}
use Rattle.outcome.specs.Causes.{Rose}
use Rattle.nfs_base.specs.declared.side.Side.{Side}
use Rattle.nfs_base.specs.declared.side.Side.TheVariants.{Source, Dest}
use Rattle.volume_format.specs.DiskWords.{DiskWords}
use Rattle.wire_run.specs.Running.{faults_in}

-- The bytes that the source has left and those that the sink took, where they tell them, their counts of
-- faults, and the servers' disks.
pub record Outside (D : Type 0) : Type 0 where
  pub left : Option (List ℕ)
  pub taken : Option (List ℕ)
  pub reads : ℕ
  pub writes : ℕ
  pub source : Option D
  pub dest : Option D

abbrev pub outside : {D : Type 0} → Option (List ℕ) → Option (List ℕ) → ℕ → ℕ → Option D → Option D → Outside D
outside left taken reads writes source dest =
    record { left = left; taken = taken; reads = reads; writes = writes; source = source; dest = dest }

-- where no disk is used
abbrev pub without_disks : Option (List ℕ) → Option (List ℕ) → ℕ → ℕ → Outside (Unit {0})
without_disks left taken reads writes = outside left taken reads writes None None

-- the disks are the same
pub record SameDisks {D : Type 0} (before now : Outside D) : Type 0 where
  pub source : now.source ≡ before.source
  pub dest : now.dest ≡ before.dest

-- nothing was read
pub record SameInput {D : Type 0} (before now : Outside D) : Type 0 where
  pub left : now.left ≡ before.left
  pub reads : now.reads ≡ before.reads

-- a server's disk
abbrev pub disk_at : {D : Type 0} → Outside D → Side → Option D
disk_at o Source = o.source
disk_at o Dest = o.dest

-- a disk's count of faults rose
abbrev pub DiskRose : {D : Type 0} → DiskWords D → Outside D → Outside D → Type 0
DiskRose w before now =
    Rose (faults_in w.faults before.source) (faults_in w.faults now.source) ⊎ Rose (faults_in w.faults before.dest) (faults_in w.faults now.dest)
