-- What an image of a disk holds, read as a volume of format 1: plain bytes, and no state of a program.
-- Own definitions.
use Rattle.std.specs.Prelude.{◌≡◌, ℕ, ◌+◌, ◌-◌, ◌*◌, ◌<◌, ◌≤◌, Bool, false, not, nat_lt, ◌==◌, ◌||◌, Option, None, Some, List, [], ◌∷◌, zero, suc, take, drop, replicate, if◌then◌else◌, ◌⊎◌}
use Rattle.std.specs.Str.{bytes_eq}
use Rattle.std.specs.Option.{option_or, option_map}
use Rattle.copy_model.specs.Volume.{File, Volume, no_file, formatted}
use Rattle.disk_model.specs.Disk.{Image, DiskState}
use Rattle.block_file.specs.Cell.{gate_of}
use Rattle.block_file.specs.Layout.{letters, head_files, head_blocks, head_tag, cell_at, data_at, blocks_of, boot_in, size_in, change_in, home_in, table_of}
use Rattle.block_file.specs.Lists.{numbered, joined}

-- all blocks of a file, in the homes that a table names
abbrev pub blocks_by : (files blocks : ℕ) → List ℕ → Image → ℕ → List ℕ
blocks_by files blocks table image file =
    joined blocks (λ b. image (data_at files blocks file b (home_in table b)))

-- the file of a table and its blocks, just opened
abbrev pub opened_file : List ℕ → List ℕ → File
opened_file table bytes =
    record {
      now = take (size_in table) bytes;
      safe = take (size_in table) bytes;
      change = change_in table;
      safe_change = change_in table;
    }

-- The volume of these tables and blocks, as an opening gives it. It has the next boot number.
abbrev pub opened_by : (files blocks boot : ℕ) → (ℕ → List ℕ) → (ℕ → List ℕ) → Volume
opened_by files blocks boot tables bytes =
    record {
      files = numbered (files + 1) (λ j. if j == 0 then no_file else opened_file (tables j) (bytes j));
      capacity = blocks * 4096;
      boot = boot + 1;
      writes = 0;
      broken = false;
      doubt = None;
    }

-- the volume that an opening of an image gives
unfoldable pub reopened : Image → Volume
reopened image =
    let files = head_files (image 0) in
    let blocks = head_blocks (image 0) in
    opened_by files blocks (boot_in (table_of image 0)) (table_of image)
    (λ j. blocks_by files blocks (table_of image j) image j)

-- the tag in an image, and the home in force of a file's table
unfoldable pub tag_of : Image → ℕ
tag_of image = head_tag (image 0)

unfoldable pub home_of : Image → ℕ → ℕ
home_of image file = gate_of (image (cell_at file))

-- Each byte past a file's safe size is 0, in the homes that its table names.
unfoldable pub IsClean : Image → Type 0
IsClean image =
    let blocks = head_blocks (image 0) in
    (j : ℕ) → 1 ≤ j → j ≤ head_files (image 0)
    → drop (size_in (table_of image j)) (blocks_by (head_files (image 0)) blocks (table_of image j) image j)
    ≡ replicate (blocks * 4096 - size_in (table_of image j)) 0

-- A place of a disk: a block, and a byte of it.
pub record Place : Type 0 where
  pub block : ℕ
  pub at : ℕ

-- where the first of these bytes stands that isn't 0
abbrev pub first_stain : ℕ → List ℕ → Option ℕ
first_stain at [] = None
first_stain at (x ∷ xs) = if x == 0 then first_stain (at + 1) xs else Some at

-- whether there can't be a volume of so many files of so many blocks on a disk of this size
abbrev pub is_misfit : (files blocks size : ℕ) → Bool
is_misfit files blocks size =
    nat_lt blocks 1 || nat_lt 16384 blocks || nat_lt 16384 (files * blocks) || nat_lt size (blocks_of files blocks)

-- the first byte of block 0 that is off, on a disk of this size
abbrev pub head_flaw : ℕ → List ℕ → Option ℕ
head_flaw size head =
    if not (bytes_eq (take 8 head) letters) then Some 0
    else (if nat_lt (head_files head) 1 || nat_lt 64 (head_files head) then Some 8
    else (if is_misfit (head_files head) (head_blocks head) size then Some 12
    else first_stain 24 (drop 24 head)))

-- of n files from number j on, the first whose safe size passes the capacity
abbrev pub first_oversized : (capacity : ℕ) → (ℕ → List ℕ) → (j n : ℕ) → Option ℕ
first_oversized capacity tables j zero = None
first_oversized capacity tables j (suc n) =
    if nat_lt capacity (size_in (tables j)) then Some j else first_oversized capacity tables (j + 1) n

-- The first cell that is off, of cells with these homes in force and these blocks there: that of a boot
-- number that has no next one, or of a safe size above the capacity.
abbrev pub cell_flaw : (files capacity : ℕ) → (homes : ℕ → ℕ) → (tables : ℕ → List ℕ) → Option Place
cell_flaw files capacity homes tables =
    option_or
    (if boot_in (tables 0) == 4294967295 then Some (record { block = cell_at 0 + 1 + homes 0; at = 0 }) else None)
    (option_map (λ j. record { block = cell_at j + 1 + homes j; at = 0 }) (first_oversized capacity tables 1 files))

-- The first field that is off, so that the image of a disk of this size is no volume: in block 0, a boot
-- number that has no next one, or a file's safe size.
unfoldable pub flaw_of : ℕ → Image → Option Place
flaw_of size image =
    if size == 0 then Some (record { block = 0; at = 0 })
    else option_or (option_map (λ at. record { block = 0; at = at }) (head_flaw size (image 0)))
    (cell_flaw (head_files (image 0)) (head_blocks (image 0) * 4096) (λ j. gate_of (image (cell_at j))) (table_of image))

-- An image that a new volume leaves: it is clean, and opens as files that were never written.
pub record IsFormatted (size files blocks tag : ℕ) (image : Image) : Type 0 where
  pub opened : reopened image ≡ formatted files (blocks * 4096)
  pub tag_is : tag_of image ≡ tag
  pub clean : IsClean image
  pub sound : flaw_of size image ≡ None

-- Home 0 of each block, and the gate and home 0 of each cell, are zeros.
pub record IsCleared (files blocks : ℕ) (image : Image) : Type 0 where
  pub slots : (slot : ℕ) → slot < files * blocks → image (4 + 3 * files + 2 * slot) ≡ replicate 4096 0
  pub cells : (j : ℕ) → j < files + 1 → (image (1 + 3 * j) ≡ replicate 4096 0) × (image (2 + 3 * j) ≡ replicate 4096 0)

-- a crash leaves block 0 as a read gives it, where it was safe
abbrev pub HasHead : DiskState → Image → Type 0
HasHead s image = s.is_open 0 ≡ false → image 0 ≡ s.reads 0

-- Block 0 reads as before, and is safe if it was.
pub record KeepsHead (old new : DiskState) : Type 0 where
  pub reads : new.reads 0 ≡ old.reads 0
  pub kept : old.is_open 0 ≡ false → new.is_open 0 ≡ false

-- What a crash during a format may leave: block 0 as it was, or all other blocks as they are laid out.
abbrev pub LeftByFormat : (files blocks : ℕ) → DiskState → Image → Type 0
LeftByFormat files blocks s image = HasHead s image ⊎ IsCleared files blocks image
