-- The words in which disks of a type speak of themselves.
use Rattle.std.specs.Prelude.{ℕ}
use Rattle.disk_model.specs.Elapsed.{Timeline}

-- Whether a disk tells what it holds, its count of faults, how many blocks it has, and its moments.
pub record DiskWords (D : Type 0) : Type 1 where
  pub told : Type 0
  pub faults : D → ℕ
  pub size : D → ℕ
  pub timeline : D → Timeline

abbrev pub disk_words : {D : Type 0} → Type 0 → (D → ℕ) → (D → ℕ) → (D → Timeline) → DiskWords D
disk_words told faults size timeline = record { told = told; faults = faults; size = size; timeline = timeline }
