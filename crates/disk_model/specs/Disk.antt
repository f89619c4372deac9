-- A disk as a crash sees it: what a read gives of each block, and what a crash may leave. Own model.
use Rattle.std.specs.Prelude.{◌≡◌, ◌≢◌, ℕ, Bool, false, List, replicate}
use Rattle.disk_model.specs.declared.disk.Io.{Io}
use Rattle.disk_model.specs.declared.disk.Io.TheVariants.{Done}

-- The bytes of each block, by the block's number.
abbrev pub Image : Type 0
Image = ℕ → List ℕ

-- a block of zeros
unfoldable pub zero_block : List ℕ
zero_block = replicate 4096 0

-- A disk at one moment: what a read gives of each block, and which blocks are open. A block is open
-- from a write on until a sync succeeds.
pub record DiskState : Type 0 where
  pub reads : Image
  pub is_open : ℕ → Bool

-- A crash at that moment may leave this image: an open block holds any bytes, and each other block
-- what a read gives.
abbrev pub MayLeave : DiskState → Image → Type 0
MayLeave s image = (b : ℕ) → s.is_open b ≡ false → image b ≡ s.reads b

-- No block is open, so a crash leaves what a read gives.
abbrev pub IsSettled : DiskState → Type 0
IsSettled s = (b : ℕ) → s.is_open b ≡ false

-- One write of a block. At `Done` a read gives the block. Where the write failed, any bytes may stand
-- there. In both cases the block may be open. No other block changes.
pub record Writes (at : ℕ) (block : List ℕ) (result : Io) (old new : DiskState) : Type 0 where
  pub here : result ≡ Done → new.reads at ≡ block
  pub elsewhere : (b : ℕ) → b ≢ at → (new.reads b ≡ old.reads b) × (new.is_open b ≡ old.is_open b)

-- One sync. At `Done` no block is open. Where it failed, the open blocks may still be open. What a read
-- gives doesn't change.
pub record Syncs (result : Io) (old new : DiskState) : Type 0 where
  pub same : (b : ℕ) → new.reads b ≡ old.reads b
  pub kept : (b : ℕ) → old.is_open b ≡ false → new.is_open b ≡ false
  pub settled : result ≡ Done → IsSettled new
