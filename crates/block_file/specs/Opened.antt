-- A volume that is open: what it stands for, and what a crash may leave of it. Own definitions.
use Rattle.std.specs.Prelude.{◌≡◌, ℕ, ◌+◌, ◌-◌, ◌*◌, ◌%◌, ◌<◌, ◌≤◌, ◌^◌, Bool, false, ◌==◌, Option, None, Some, List, nat_lt, length, take, drop, replicate, slice_index, slice_set, if◌then◌else◌, ◌⊎◌}
use Rattle.copy_model.specs.Volume.{File, Volume, Doubt, Kept, Old, New, no_file, crash}
use Rattle.disk_model.specs.Disk.{Image, DiskState, MayLeave}
use Rattle.disk_model.specs.Elapsed.{Timeline, present}
use Rattle.block_file.specs.declared.shape.Shape.{Shape}
use Rattle.block_file.specs.declared.faults.WriteFault.{WriteFault}
use Rattle.block_file.specs.declared.faults.WriteFault.TheVariants.{TooFar, Worn, Broken}
use Rattle.block_file.specs.declared.faults.OpenFault.{OpenFault}
use Rattle.block_file.specs.declared.faults.OpenFault.TheVariants.{NotVolume, DiskFailed}
use Rattle.block_file.specs.Layout.{head_files, head_blocks, head_tag, blocks_of, boot_in, size_in, change_in}
use Rattle.block_file.specs.Lists.{numbered}
use Rattle.block_file.specs.Stored.{Place, blocks_by, reopened, tag_of, home_of, IsClean, flaw_of, head_flaw}
use Rattle.block_file.specs.Blocks.{Stands}
use Rattle.block_file.specs.Held.{Held, held_by}

-- What contracts see of a volume: its files (number 0 is the root), its tag, for each file the home in
-- force of its table, and the disk.
pub record Opened (D : Type 0) : Type 0 where
  pub volume : Volume
  pub tag : ℕ
  pub homes : List ℕ
  pub disk : D

-- the homes after a crash, by what it kept of the contents in doubt
abbrev pub left_home : (homes : ℕ → ℕ) → Option Doubt → Kept → ℕ → ℕ
left_home homes None kept j = homes j
left_home homes (Some d) Old j = homes j
left_home homes (Some d) New j = if j == d.file then 1 - homes j else homes j

-- An image that a crash may leave of a volume: what an opening of it gives is the volume after that
-- crash. The image is clean, it has the tag and the homes, and it opens while there is a next boot number.
pub record Leaves (size tag : ℕ) (homes : ℕ → ℕ) (v : Volume) (kept : Kept) (image : Image) : Type 0 where
  pub opened : reopened image ≡ crash v kept
  pub tag_is : tag_of image ≡ tag
  pub homes_are : (j : ℕ) → 1 ≤ j → j ≤ head_files (image 0) → home_of image j ≡ left_home homes v.doubt kept j
  pub clean : IsClean image
  pub sound : v.boot < 2 ^ 32 - 1 → flaw_of size image ≡ None

-- with the old or the new contents of the file in doubt, if there is one
abbrev pub MayBeLeft : (size tag : ℕ) → (ℕ → ℕ) → Volume → Image → Type 0
MayBeLeft size tag homes v image = (kept : Kept) × Leaves size tag homes v kept image

-- a volume's homes, by number
abbrev pub homes_by : List ℕ → ℕ → ℕ
homes_by homes j = slice_index homes j

-- the homes once a file's table is put
abbrev pub turned : List ℕ → ℕ → List ℕ
turned homes file = slice_set homes file (1 - homes_by homes file)

-- What a crash now may leave of an open volume's disk is what may be left of the volume.
abbrev pub StandsFor : {D : Type 0} → (D → Timeline) → (D → ℕ) → Opened D → Type 0
StandsFor timeline size v =
    (image : Image) → MayLeave (present (timeline v.disk)) image → MayBeLeft (size v.disk) v.tag (homes_by v.homes) v.volume image

-- A disk of this size may be opened where an image is clean, or has a field that is off.
abbrev pub CanBeOpened : ℕ → Image → Type 0
CanBeOpened size image = IsClean image ⊎ ((place : Place) × (flaw_of size image ≡ Some place))

-- An opening is refused for the first field that is off, or because the disk failed.
abbrev pub RefusedFor : Option Place → OpenFault → Type 0
RefusedFor flaw (NotVolume block at) = flaw ≡ Some (record { block = block; at = at })
RefusedFor flaw DiskFailed = Unit {0}

-- An image of the volume in another one, where the boot number is higher by so many. It is clean, and it
-- opens while there is a next boot number.
pub record Reopens (size more : ℕ) (old image : Image) : Type 0 where
  pub opened : reopened image ≡ (let v = reopened old in record v { boot = v.boot + more })
  pub tag_is : tag_of image ≡ tag_of old
  pub homes_are : (j : ℕ) → 1 ≤ j → j ≤ head_files (old 0) → home_of image j ≡ home_of old j
  pub clean : IsClean image
  pub sound : (reopened old).boot + more < 2 ^ 32 → flaw_of size image ≡ None

-- What a crash during an opening may leave: what a crash before it could have left, or the volume that a
-- read gave, with the same boot number or the next one.
abbrev pub LeftByOpening : ℕ → DiskState → Image → Type 0
LeftByOpening size s image = MayLeave s image ⊎ Reopens size 0 s.reads image ⊎ Reopens size 1 s.reads image

-- What holds of a volume that was just opened, on whatever disk: nothing is written or in doubt, there are
-- 1 to 64 files besides the root, and these have whole blocks, 16,384 at most together.
pub record IsFresh (v : Volume) : Type 0 where
  pub whole : v.broken ≡ false
  pub certain : v.doubt ≡ None
  pub unwritten : v.writes ≡ 0
  pub boot_raised : 1 ≤ v.boot
  pub boot_fits : v.boot < 2 ^ 32
  pub some_files : 2 ≤ length v.files
  pub few_files : length v.files ≤ 65
  pub some_blocks : 4096 ≤ v.capacity
  pub whole_blocks : v.capacity % 4096 ≡ 0
  pub few_blocks : (length v.files - 1) * v.capacity ≤ 2 ^ 26

-- What no call changes of an open volume: how many files it has, how long they may be, and the number of
-- the opening.
pub record SameOpening (old new : Volume) : Type 0 where
  pub files : length new.files ≡ length old.files
  pub capacity : new.capacity ≡ old.capacity
  pub boot : new.boot ≡ old.boot

-- a file as it is now, with its safe table and blocks
abbrev pub live_file : Held → List ℕ → List ℕ → File
live_file held table bytes =
    record {
      now = held.now;
      safe = take (size_in table) bytes;
      change = held.change;
      safe_change = change_in table;
    }

-- the contents in doubt, by the number of the file, where 0 says that there are none
abbrev pub doubt_of : ℕ → (ℕ → Held) → Option Doubt
doubt_of file held =
    if file == 0 then None else Some (record { file = file; bytes = (held file).now; change = (held file).change })

-- the volume of these files, and these safe tables and blocks
abbrev pub volume_of : Shape → (boot writes : ℕ) → Bool → ℕ → (ℕ → Held) → (ℕ → List ℕ) → Image → Volume
volume_of shape boot writes broken doubt held tables image =
    record {
      files = numbered (shape.files + 1)
          (λ j. if j == 0 then no_file else live_file (held j) (tables j) (blocks_by shape.files shape.blocks (tables j) image j));
      capacity = shape.blocks * 4096;
      boot = boot;
      writes = writes;
      broken = broken;
      doubt = doubt_of doubt held;
    }

-- block 0 is that of a volume of this shape and tag, on a disk of this size
pub record HeadIs (size : ℕ) (shape : Shape) (tag : ℕ) (head : List ℕ) : Type 0 where
  pub files : head_files head ≡ shape.files
  pub blocks : head_blocks head ≡ shape.blocks
  pub tag_is : head_tag head ≡ tag
  pub sound : head_flaw size head ≡ None

-- why a write is refused, if it is
abbrev pub refusal_of : Bool → (writes capacity off len : ℕ) → Option WriteFault
refusal_of broken writes capacity off len =
    if broken then Some Broken
    else (if nat_lt capacity (off + len) then Some TooFar
    else (if writes == 4294967295 then Some Worn else None))

-- What always holds of the fields of an open volume over a disk of this size, where that is in this state.
pub record IsOpen (told : Type 0) (size : ℕ) (s : DiskState) (shape : Shape) (tag boot writes : ℕ) (broken : Bool) (doubt : ℕ)
    (homes : ℕ → ℕ) (held : ℕ → Held) (tables : ℕ → List ℕ) : Type 0 where
  pub room : blocks_of shape.files shape.blocks ≤ size
  pub two : (j : ℕ) → j ≤ shape.files → homes j ≤ 1
  pub boot_is : boot_in (tables 0) ≡ boot
  pub sizes : (j : ℕ) → 1 ≤ j → j ≤ shape.files → size_in (tables j) ≤ shape.blocks * 4096
  pub certain : broken ≡ false → doubt ≡ 0
  pub head : told → HeadIs size shape tag (s.reads 0)
  pub clean : told → (j : ℕ) → 1 ≤ j → j ≤ shape.files
      → drop (size_in (tables j)) (blocks_by shape.files shape.blocks (tables j) s.reads j) ≡ replicate (shape.blocks * 4096 - size_in (tables j)) 0
  pub stands : told → broken ≡ false → Stands shape (record { head = s.reads 0; homes = homes; tables = tables }) s
  pub left : told → (image : Image) → MayLeave s image
      → MayBeLeft size tag homes (volume_of shape boot writes broken doubt held tables s.reads) image

-- The newest tables: no size passes the capacity, and each byte past a size is 0 in the homes that they name.
pub record AreNewest (told : Type 0) (shape : Shape) (newest : ℕ → List ℕ) (image : Image) : Type 0 where
  pub sizes : (j : ℕ) → 1 ≤ j → j ≤ shape.files → size_in (newest j) ≤ shape.blocks * 4096
  pub clean : told → (j : ℕ) → 1 ≤ j → j ≤ shape.files
      → drop (size_in (newest j)) (blocks_by shape.files shape.blocks (newest j) image j) ≡ replicate (shape.blocks * 4096 - size_in (newest j)) 0

-- the files by their newest tables
abbrev pub held_of : Shape → (ℕ → List ℕ) → Image → ℕ → Held
held_of shape newest image j = held_by shape (newest j) image j

-- the volume of these newest and safe tables, and these blocks
abbrev pub volume_at : Shape → (boot writes : ℕ) → Bool → ℕ → (newest tables : ℕ → List ℕ) → Image → Volume
volume_at shape boot writes broken doubt newest tables image =
    volume_of shape boot writes broken doubt (held_of shape newest image) tables image

-- An open volume over a disk of this size with these moments. It stands for what the disk held at its
-- moment: now, or where the volume is broken, before the call that failed. A crash now leaves what may be
-- left of it.
pub record IsKept (told : Type 0) (size : ℕ) (t : Timeline) (moment : ℕ) (shape : Shape) (tag boot writes : ℕ) (broken : Bool) (doubt : ℕ)
    (homes : ℕ → ℕ) (newest tables : ℕ → List ℕ) : Type 0 where
  pub latest : told → broken ≡ false → moment ≡ t.latest
  pub files : AreNewest told shape newest (t.state moment).reads
  pub opened : IsOpen told size (t.state moment) shape tag boot writes broken doubt homes (held_of shape newest (t.state moment).reads) tables
  pub left : told → (image : Image) → MayLeave (present t) image
      → MayBeLeft size tag homes (volume_at shape boot writes broken doubt newest tables (t.state moment).reads) image
