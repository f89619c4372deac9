-- What holds of a server's volume from its formatting on, so that the numbers that it tells fit in words. Own definitions.
use Rattle.std.specs.Prelude.{◌≡◌, ℕ, ◌<◌, ◌≤◌, ◌^◌, length, Some}
use Rattle.copy_model.specs.Volume.{Doubt, File, Volume, file_at, no_file}

-- a file's bytes, safe ones too, are within the capacity, and its change attributes fit in words of eight bytes
pub record FileFits (capacity : ℕ) (f : File) : Type 0 where
  pub size : length f.now ≤ capacity
  pub safe_size : length f.safe ≤ capacity
  pub change : f.change < 2 ^ 64
  pub safe_change : f.safe_change < 2 ^ 64

-- and so are those in doubt, which aren't the root's
pub record DoubtFits (capacity : ℕ) (d : Doubt) : Type 0 where
  pub size : length d.bytes ≤ capacity
  pub change : d.change < 2 ^ 64
  pub off_root : d.file ≡ 0 → ⊥

-- The capacity, the number of the opening and that of the last write fit in words, and so do all files. The root holds no bytes.
pub record IsFitting (v : Volume) : Type 0 where
  pub capacity : v.capacity < 2 ^ 64
  pub boot : v.boot < 2 ^ 32
  pub writes : v.writes < 2 ^ 32
  pub files : (file : ℕ) → FileFits v.capacity (file_at v file)
  pub doubt : (d : Doubt) → v.doubt ≡ Some d → DoubtFits v.capacity d
  pub root : file_at v 0 ≡ no_file
