-- What an opening has read of a volume. Own definitions.
use Rattle.std.specs.Prelude.{◌≡◌, ℕ, ◌+◌, ◌-◌, length, ◌*◌, ◌<◌, ◌≤◌, ◌^◌, List, [], slice_index_or}
use Rattle.disk_model.specs.Disk.{Image}
use Rattle.block_file.specs.declared.shape.Shape.{Shape}
use Rattle.block_file.specs.declared.opening.Loaded.{Loaded}
use Rattle.block_file.specs.Cell.{gate_of}
use Rattle.block_file.specs.Layout.{cell_at, blocks_of, boot_in, size_in, table_of}
use Rattle.block_file.specs.Opened.{HeadIs}

-- the homes in force of an image's cells, and the blocks there
pub record AreCells (files : ℕ) (homes : ℕ → ℕ) (tables : ℕ → List ℕ) (image : Image) : Type 0 where
  pub homes_are : (j : ℕ) → j ≤ files → homes j ≡ gate_of (image (cell_at j))
  pub tables_are : (j : ℕ) → j ≤ files → tables j ≡ table_of image j

-- What an opening has read of a volume, before it raises the boot number: a disk of this size holds the
-- volume, its boot number has a next one, and no safe size passes the capacity.
pub record IsLoaded (told : Type 0) (size : ℕ) (shape : Shape) (tag boot : ℕ) (homes : ℕ → ℕ) (tables : ℕ → List ℕ) (image : Image) : Type 0 where
  pub room : blocks_of shape.files shape.blocks ≤ size
  pub two : (j : ℕ) → j ≤ shape.files → homes j ≤ 1
  pub boot_is : boot_in (tables 0) ≡ boot
  pub next : boot < 2 ^ 32 - 1
  pub sizes : (j : ℕ) → 1 ≤ j → j ≤ shape.files → size_in (tables j) ≤ shape.blocks * 4096
  pub whole : told → (b : ℕ) → length (image b) ≡ 4096
  pub head : told → HeadIs size shape tag (image 0)
  pub cells : told → AreCells shape.files homes tables image

-- Each file has its cell and its newest table, the root too, and the newest tables are the safe ones.
pub record HasAll (v : Loaded) : Type 0 where
  pub homes : length v.cells.homes.items ≡ v.shape.files + 1
  pub tables : length v.cells.tables.items ≡ v.shape.files + 1
  pub newest : length v.cells.newest.items ≡ v.shape.files + 1
  pub same : (j : ℕ) → 1 ≤ j → j ≤ v.shape.files → slice_index_or v.cells.newest.items j [] ≡ slice_index_or v.cells.tables.items j []
