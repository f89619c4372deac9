-- Where things stand in a volume of format 1, and what its first block and its tables say. Numbers are
-- big-endian. Own format.
use Rattle.std.specs.Prelude.{ℕ, ◌+◌, ◌-◌, ◌*◌, ◌/◌, ◌%◌, List, take, drop, slice_index, codes}
use Rattle.std.specs.Int.{w32, w64, from_be_bytes, bit_at}
use Rattle.disk_model.specs.Disk.{Image}
use Rattle.block_file.specs.Cell.{cell_of}

-- Block 0 names the volume: eight letters, the number of files, the blocks of each, and a tag.
abbrev pub letters : List ℕ
letters = codes "NFSCPYV1"

abbrev pub head_files : List ℕ → ℕ
head_files head = from_be_bytes w32 (take 4 (drop 8 head))

abbrev pub head_blocks : List ℕ → ℕ
head_blocks head = from_be_bytes w32 (take 4 (drop 12 head))

abbrev pub head_tag : List ℕ → ℕ
head_tag head = from_be_bytes w64 (take 8 (drop 16 head))

-- The cells follow: cell 0 has the boot number, and cell j the table of file j.
abbrev pub cell_at : ℕ → ℕ
cell_at j = 1 + 3 * j

-- Two homes for each block of each file come last.
abbrev pub data_at : (files blocks file block home : ℕ) → ℕ
data_at files blocks file block home = 4 + 3 * files + 2 * ((file - 1) * blocks + block) + home

-- how many blocks a volume takes
abbrev pub blocks_of : (files blocks : ℕ) → ℕ
blocks_of files blocks = 4 + 3 * files + 2 * (files * blocks)

-- the boot number, in the boot cell's block
abbrev pub boot_in : List ℕ → ℕ
boot_in block = from_be_bytes w32 (take 4 block)

-- a table has a file's safe size and its safe change attribute
abbrev pub size_in : List ℕ → ℕ
size_in table = from_be_bytes w64 (take 8 table)

abbrev pub change_in : List ℕ → ℕ
change_in table = from_be_bytes w64 (take 8 (drop 8 table))

-- and from byte 16 on a bit for each block, which names the home that holds it
abbrev pub home_in : List ℕ → ℕ → ℕ
home_in table block = bit_at (slice_index (drop 16 table) (block / 8)) (block % 8)

-- the table of a file in an image; that of number 0 is the boot cell's block
abbrev pub table_of : Image → ℕ → List ℕ
table_of image j = cell_of image (cell_at j)
