-- One block kept in two places, behind a gate that names the place in force. A put writes the other
-- place and then turns the gate, so that a crash leaves the old block or the new one. Own format.
use Rattle.std.specs.Prelude.{◌≡◌, ◌≢◌, ℕ, ◌+◌, ◌-◌, ◌%◌, ◌<◌, false, List, slice_index, ◌⊎◌}
use Rattle.disk_model.specs.declared.disk.Io.{Io}
use Rattle.disk_model.specs.declared.disk.Io.TheVariants.{Done}
use Rattle.disk_model.specs.Disk.{Image, DiskState, IsSettled}

-- The place in force that a gate's block names: the lowest bit of its first byte.
abbrev pub gate_of : List ℕ → ℕ
gate_of bytes = slice_index bytes 0 % 2

-- The block that the cell at this place holds. Its gate comes first, then its two places.
abbrev pub cell_of : Image → ℕ → List ℕ
cell_of image at = image (at + 1 + gate_of (image at))

-- Whatever a crash leaves has this gate, and in the place in force what a read gives.
pub record IsCell (s : DiskState) (at home : ℕ) : Type 0 where
  pub gate_kept : s.is_open at ≡ false
  pub home_kept : s.is_open (at + 1 + home) ≡ false
  pub gate : gate_of (s.reads at) ≡ home

-- a block that isn't one of the cell's three
abbrev pub Outside : ℕ → ℕ → Type 0
Outside at b = (b < at) ⊎ (at + 2 < b)

-- An image before the gate is turned: the cell holds the old block, and what was safe elsewhere is there.
pub record IsBefore (at : ℕ) (s : DiskState) (old : List ℕ) (image : Image) : Type 0 where
  pub cell : cell_of image at ≡ old
  pub gate : gate_of (image at) ≡ gate_of (s.reads at)
  pub rest : (b : ℕ) → Outside at b → s.is_open b ≡ false → image b ≡ s.reads b

-- An image after it: the cell holds the new block, and all that was written elsewhere before is there.
pub record IsAfter (at : ℕ) (s : DiskState) (new : List ℕ) (image : Image) : Type 0 where
  pub cell : cell_of image at ≡ new
  pub gate : gate_of (image at) ≡ 1 - gate_of (s.reads at)
  pub rest : (b : ℕ) → Outside at b → image b ≡ s.reads b

-- what a crash at any moment of a put may leave
abbrev pub OldOrNew : ℕ → DiskState → List ℕ → List ℕ → Image → Type 0
OldOrNew at s old new image = IsBefore at s old image ⊎ IsAfter at s new image

-- A put leaves the blocks outside the cell as they are; those that were safe stay safe.
pub record Keeps (at : ℕ) (old new : DiskState) : Type 0 where
  pub reads : (b : ℕ) → Outside at b → new.reads b ≡ old.reads b
  pub kept : (b : ℕ) → Outside at b → old.is_open b ≡ false → new.is_open b ≡ false

-- One block is written and then all that was written is made safe. What was safe elsewhere stays safe,
-- and at Done everything is.
pub record Lands (at : ℕ) (block : List ℕ) (result : Io) (old new : DiskState) : Type 0 where
  pub reads : (b : ℕ) → b ≢ at → new.reads b ≡ old.reads b
  pub kept : (b : ℕ) → b ≢ at → old.is_open b ≡ false → new.is_open b ≡ false
  pub here : result ≡ Done → new.reads at ≡ block
  pub settled : result ≡ Done → IsSettled new

-- an image that has what was safe, but for one block
abbrev pub Spares : ℕ → DiskState → Image → Type 0
Spares at s image = (b : ℕ) → b ≢ at → s.is_open b ≡ false → image b ≡ s.reads b
