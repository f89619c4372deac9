-- A file as its newest table has it: the home of each block in which it was last written. Own definitions.
use Rattle.std.specs.Prelude.{ℕ, List}
use Rattle.copy_model.specs.Volume.{bytes_at}
use Rattle.disk_model.specs.Disk.{Image}
use Rattle.block_file.specs.declared.shape.Shape.{Shape}
use Rattle.block_file.specs.Layout.{size_in, change_in}
use Rattle.block_file.specs.Stored.{blocks_by}

-- its bytes and change attribute as they are now
pub record Held : Type 0 where
  pub now : List ℕ
  pub change : ℕ

-- the file of this number in an image, by its newest table
abbrev pub held_by : Shape → List ℕ → Image → ℕ → Held
held_by shape newest image file =
    record {
      now = bytes_at (blocks_by shape.files shape.blocks newest image file) 0 (size_in newest);
      change = change_in newest;
    }
