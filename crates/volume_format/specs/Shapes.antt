-- The numbers of a volume that is to be made, and their limits. Own format.
use Rattle.std.specs.Prelude.{ℕ, ◌*◌, ◌≤◌, Bool, ◌&&◌, nat_le, Option, None, Some, if◌then◌else◌}
use Rattle.nfs_base.specs.declared.limits.TheConstants.{MOST_BLOCKS, MOST_FILES}

pub record Numbers : Type 0 where
  pub files : ℕ
  pub blocks : ℕ
  pub tag : ℕ

-- 1 to 64 files of 1 to 16,384 blocks each, and of no more blocks in all
pub record Fits (files blocks : ℕ) : Type 0 where
  pub some_files : 1 ≤ files
  pub few_files : files ≤ MOST_FILES
  pub some_blocks : 1 ≤ blocks
  pub few_blocks : blocks ≤ MOST_BLOCKS
  pub room : files * blocks ≤ MOST_BLOCKS

abbrev pub is_fit : (files blocks : ℕ) → Bool
is_fit files blocks =
    nat_le 1 files && (nat_le files MOST_FILES && (nat_le 1 blocks && (nat_le blocks MOST_BLOCKS && nat_le (files * blocks) MOST_BLOCKS)))

-- the volume of these numbers, where they are within their limits
abbrev pub new_volume : (files blocks tag : ℕ) → Option Numbers
new_volume files blocks tag = if is_fit files blocks then Some (record { files = files; blocks = blocks; tag = tag }) else None
