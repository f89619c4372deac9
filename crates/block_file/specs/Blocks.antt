-- The blocks of a volume on a disk. Any write of a block goes to the home that the safe table doesn't name,
-- and a put of a table makes all of a file's blocks safe at once. Own definitions.
use Rattle.std.specs.Prelude.{◌≡◌, ℕ, ◌+◌, ◌-◌, ◌*◌, ◌<◌, ◌≤◌, false, List, take, drop, ◌==◌, if◌then◌else◌}
use Rattle.disk_model.specs.Disk.{Image, DiskState}
use Rattle.disk_model.specs.declared.fuse.Fuse.{Fuse}
use Rattle.disk_model.specs.Elapsed.{Timeline, present, contents}
use Rattle.disk_model.specs.Passes.{Passes}
use Rattle.block_file.specs.declared.shape.Shape.{Shape}
use Rattle.block_file.specs.Cell.{IsCell, gate_of}
use Rattle.block_file.specs.Layout.{cell_at, data_at, home_in, table_of}

-- what is safe but for the blocks: block 0, and for each cell the home in force and the block there
pub record Safe : Type 0 where
  pub head : List ℕ
  pub homes : ℕ → ℕ
  pub tables : ℕ → List ℕ

-- where block b of file j is, by a table
abbrev pub place_of : Shape → List ℕ → ℕ → ℕ → ℕ
place_of shape table j b = data_at shape.files shape.blocks j b (home_in table b)

-- where it is written next
abbrev pub next_place : Shape → List ℕ → ℕ → ℕ → ℕ
next_place shape table j b = data_at shape.files shape.blocks j b (1 - home_in table b)

-- a block of a file of this shape
pub record InShape (shape : Shape) (j b : ℕ) : Type 0 where
  pub some : 1 ≤ j
  pub file : j ≤ shape.files
  pub block : b < shape.blocks

-- an image has these blocks in the places that the tables name
abbrev pub HasContent : Shape → (ℕ → List ℕ) → (ℕ → ℕ → List ℕ) → Image → Type 0
HasContent shape tables content image = (j b : ℕ) → InShape shape j b → image (place_of shape (tables j) j b) ≡ content j b

-- All that is safe of a disk's state: a crash leaves it as a read gives it.
pub record Stands (shape : Shape) (safe : Safe) (s : DiskState) : Type 0 where
  pub head_kept : s.is_open 0 ≡ false
  pub head : s.reads 0 ≡ safe.head
  pub cells : (j : ℕ) → j ≤ shape.files → IsCell s (cell_at j) (safe.homes j)
  pub tables : (j : ℕ) → j ≤ shape.files → s.reads (cell_at j + 1 + safe.homes j) ≡ safe.tables j
  pub kept : (j b : ℕ) → InShape shape j b → s.is_open (place_of shape (safe.tables j) j b) ≡ false

-- an image with these tables, and with these blocks in the places that they name
pub record Holds (shape : Shape) (safe : Safe) (content : ℕ → ℕ → List ℕ) (image : Image) : Type 0 where
  pub head : image 0 ≡ safe.head
  pub gates : (j : ℕ) → j ≤ shape.files → gate_of (image (cell_at j)) ≡ safe.homes j
  pub tables : (j : ℕ) → j ≤ shape.files → table_of image j ≡ safe.tables j
  pub blocks : HasContent shape safe.tables content image

-- Calls of the disk that write only beside the safe table of a file, in homes that it doesn't name.
pub record KeepsSafe (shape : Shape) (table : List ℕ) (file : ℕ) (old_fuse new_fuse : Fuse) (old new : Timeline) : Type 0 where
  -- what was safe before them still is
  pub stands : (safe : Safe) → safe.tables file ≡ table → Stands shape safe (present old) → Stands shape safe (present new)
  -- the blocks in the places that the tables name read as before
  pub content : (tables : ℕ → List ℕ) (content : ℕ → ℕ → List ℕ) → tables file ≡ table
      → HasContent shape tables content (contents old) → HasContent shape tables content (contents new)
  -- a crash at any moment of them leaves what was safe
  pub any_moment : (safe : Safe) (content : ℕ → ℕ → List ℕ) → safe.tables file ≡ table
      → Stands shape safe (present old) → HasContent shape safe.tables content (contents old)
      → Passes old_fuse new_fuse old new (Holds shape safe content)

-- with one table put in place of another
abbrev pub with_table : Safe → ℕ → List ℕ → Safe
with_table safe j table =
    record {
      head = safe.head;
      homes = λ i. if i == j then 1 - safe.homes i else safe.homes i;
      tables = λ i. if i == j then table else safe.tables i;
    }

-- one block's bytes of a whole file's
abbrev pub piece_of : List ℕ → ℕ → List ℕ
piece_of bytes b = take 4096 (drop (b * 4096) bytes)

-- with one file's bytes in place of others
abbrev pub with_bytes : (ℕ → ℕ → List ℕ) → ℕ → List ℕ → ℕ → ℕ → List ℕ
with_bytes content j bytes i b = if i == j then piece_of bytes b else content i b
