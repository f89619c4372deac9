-- How a server is made, and why it can't be. Own definitions.
use Rattle.std.specs.Prelude.{◌≡◌, ℕ, ◌+◌, ◌*◌, ◌<◌, ◌≤◌, nat_lt, length, Option, Some, None, IfSome, Result, Ok, Err, if◌then◌else◌}
use Rattle.outcome.specs.Causes.{Rose}
use Rattle.block_file.specs.Layout.{blocks_of}
use Rattle.block_file.specs.declared.faults.FormatFault.{FormatFault}
use Rattle.block_file.specs.declared.faults.FormatFault.TheVariants as formatting
use Rattle.block_file.specs.declared.faults.OpenFault.{OpenFault}
use Rattle.block_file.specs.declared.faults.OpenFault.TheVariants as opening
use Rattle.block_file.specs.Opened.{MayBeLeft, homes_by}
use Rattle.disk_model.specs.Disk.{Image, MayLeave}
use Rattle.disk_model.specs.Elapsed.{Timeline, present}
use Rattle.dest_core.specs.declared.destination.Destination.{Destination}
use Rattle.dest_jobs.specs.declared.carried.Carried as of_dest
use Rattle.nfs_base.specs.declared.limits.TheConstants.{MOST_BLOCKS, MOST_FILES}
use Rattle.nfs_base.specs.declared.side.Side.{Side}
use Rattle.nfs_base.specs.declared.side.Side.TheVariants.{Source, Dest}
use Rattle.session_server.specs.Host.{host_of}
use Rattle.session_server.specs.declared.host.Host.{Host}
use Rattle.source_core.specs.declared.carried.Carried as of_source
use Rattle.source_core.specs.declared.source.Source as made_source
use Rattle.run_ends.specs.First.{IsFreshDest, IsFreshSource, Shape}
use Rattle.wire_run.specs.declared.ends.DestEnd.{DestEnd}
use Rattle.wire_run.specs.declared.ends.DestEnd.TheVariants as dest_end
use Rattle.wire_run.specs.declared.ends.SourceEnd.{SourceEnd}
use Rattle.wire_run.specs.declared.ends.SourceEnd.TheVariants as source_end
use Rattle.wire_run.specs.declared.fresh.Unmade.{Unmade}
use Rattle.wire_run.specs.declared.fresh.Unmade.TheVariants as unmade
use Rattle.wire_schedule.specs.declared.event.Event.{Event}
use Rattle.wire_schedule.specs.declared.event.Event.TheVariants as kinds

-- ---- disks that are too small

-- A server's disk is too small for its volume: so many blocks are needed, and so many are there.
pub record Small : Type 0 where
  pub side : Side
  pub need : ℕ
  pub have : ℕ

abbrev pub small_for : Side → (size files blocks : ℕ) → Option Small
small_for side size files blocks =
    if nat_lt size (blocks_of files blocks) then Some (record { side = side; need = blocks_of files blocks; have = size }) else None

abbrev pub size_at : (source dest : ℕ) → Side → ℕ
size_at source dest Source = source
size_at source dest Dest = dest

abbrev pub event_small : (source dest : ℕ) → Event → Option Small
event_small source dest (kinds.Volume side files blocks) = small_for side (size_at source dest side) files blocks
event_small source dest event = None

-- a volume has 1 to 64 files of 1 to 16,384 blocks each, and no more than 16,384 blocks in all
pub record IsShape (files blocks : ℕ) : Type 0 where
  pub some_files : 1 ≤ files
  pub few_files : files ≤ MOST_FILES
  pub some_blocks : 1 ≤ blocks
  pub few_blocks : blocks ≤ MOST_BLOCKS
  pub room : files * blocks ≤ MOST_BLOCKS

-- ---- why none was made, by why the disk wasn't formatted, or not opened

abbrev pub unformatted : FormatFault → Unmade
unformatted formatting.DiskFailed = unmade.DiskFailed
unformatted (formatting.TooSmall need have) = unmade.TooSmall need have

abbrev pub unopened : OpenFault → Unmade
unopened opening.DiskFailed = unmade.DiskFailed
unopened (opening.NotVolume block at) = unmade.NotVolume block at

-- a disk that is too small for its volume is as it was
pub record IsShort {D : Type 0} (size : D → ℕ) (shape : Shape) (need have : ℕ) (disk now : D) : Type 0 where
  pub need_is : need ≡ blocks_of shape.files shape.blocks
  pub have_is : have ≡ size disk
  pub short : have < need
  pub untouched : now ≡ disk

-- a disk that has room counted a fault; one that tells what it holds gives back what was written
abbrev pub IsUnmadeFor : {D : Type 0} → (told : Type 0) → (faults size : D → ℕ) → Shape → (disk now : D) → Unmade → Type 0
IsUnmadeFor told faults size shape disk now unmade.DiskFailed = Rose (faults disk) (faults now) × (blocks_of shape.files shape.blocks ≤ size disk)
IsUnmadeFor told faults size shape disk now (unmade.TooSmall need have) = IsShort size shape need have disk now
IsUnmadeFor told faults size shape disk now (unmade.NotVolume block at) = (told → ⊥) × (blocks_of shape.files shape.blocks ≤ size disk)

pub record IsUnmade {D : Type 0} (told : Type 0) (faults size : D → ℕ) (shape : Shape) (disk now : D) (cause : Unmade) : Type 0 where
  pub why : IsUnmadeFor told faults size shape disk now cause
  pub later : faults disk ≤ faults now
  pub as_large : size now ≡ size disk

-- ---- a server was made on a disk that has room. It made no step; on a disk that tells what it holds it is new.

pub record IsMadeOn {D X C : Type 0} (faults size : D → ℕ) (shape : Shape) (disk : D) (core : Host D X C) : Type 0 where
  pub steps : core.steps ≡ 0
  pub count : length core.server.files.volume.volume.files ≡ shape.files + 1
  pub fits : blocks_of shape.files shape.blocks ≤ size disk
  pub later : faults disk ≤ faults core.server.files.volume.disk
  pub as_large : size core.server.files.volume.disk ≡ size disk

pub record IsSourceMade {D M : Type 0} (told : Type 0) (faults size : D → ℕ) (mech : M) (shape : Shape) (disk : D) (core : Host D (made_source.Source M) of_source.Carried) : Type 0 where
  pub made : IsMadeOn faults size shape disk core
  pub fresh : told → IsFreshSource mech shape (host_of size core)

pub record IsDestMade {D M : Type 0} (told : Type 0) (faults size : D → ℕ) (mech : M) (shape : Shape) (disk : D) (core : Host D (Destination M) of_dest.Carried) : Type 0 where
  pub made : IsMadeOn faults size shape disk core
  pub fresh : told → IsFreshDest mech shape (host_of size core)

-- ---- what a crash now may leave of a server's disk that is handed back is what may be left of its volume

abbrev pub SourceLeft : {D M : Type 0} → (D → Timeline) → (D → ℕ) → SourceEnd D M → Option D → Type 0
SourceLeft timeline size (source_end.Open core) disk =
    IfSome disk (λ d. (image : Image) → MayLeave (present (timeline d)) image
    → MayBeLeft (size d) core.server.files.volume.tag (homes_by core.server.files.volume.homes) core.server.files.volume.volume image)
SourceLeft timeline size end disk = Unit {0}

abbrev pub DestLeft : {D M : Type 0} → (D → Timeline) → (D → ℕ) → DestEnd D M → Option D → Type 0
DestLeft timeline size (dest_end.Open core) disk =
    IfSome disk (λ d. (image : Image) → MayLeave (present (timeline d)) image
    → MayBeLeft (size d) core.server.files.volume.tag (homes_by core.server.files.volume.homes) core.server.files.volume.volume image)
DestLeft timeline size end disk = Unit {0}

-- ---- an end before and after that

abbrev pub source_with : {D M : Type 0} → Option D → SourceEnd D M
source_with None = source_end.Away
source_with (Some disk) = source_end.Disk disk

abbrev pub dest_with : {D M : Type 0} → Option D → DestEnd D M
dest_with None = dest_end.Away
dest_with (Some disk) = dest_end.Disk disk

-- it is a disk with no server
abbrev pub IsSourceDisk : {D M : Type 0} → SourceEnd D M → Type 0
IsSourceDisk source_end.Away = ⊥
IsSourceDisk (source_end.Disk disk) = Unit {0}
IsSourceDisk (source_end.Open core) = ⊥

abbrev pub IsDestDisk : {D M : Type 0} → DestEnd D M → Type 0
IsDestDisk dest_end.Away = ⊥
IsDestDisk (dest_end.Disk disk) = Unit {0}
IsDestDisk (dest_end.Open core) = ⊥

pub record SourceOpens {D M : Type 0} (told : Type 0) (faults size : D → ℕ) (mech : M) (shape : Shape) (old new : SourceEnd D M) : Type 0 where
  pub disk : D
  pub core : Host D (made_source.Source M) of_source.Carried
  pub old_is : old ≡ source_end.Disk disk
  pub new_is : new ≡ source_end.Open core
  pub made : IsSourceMade told faults size mech shape disk core

pub record SourceStays {D M : Type 0} (told : Type 0) (faults size : D → ℕ) (shape : Shape) (old new : SourceEnd D M) (cause : Unmade) : Type 0 where
  pub disk : D
  pub now : D
  pub old_is : old ≡ source_end.Disk disk
  pub new_is : new ≡ source_end.Disk now
  pub unmade : IsUnmade told faults size shape disk now cause

abbrev pub SourceMakes : {D M : Type 0} → (told : Type 0) → (faults size : D → ℕ) → M → Shape → SourceEnd D M → SourceEnd D M → Result (Unit {0}) Unmade → Type 0
SourceMakes told faults size mech shape old new (Ok done) = SourceOpens told faults size mech shape old new
SourceMakes told faults size mech shape old new (Err cause) = SourceStays told faults size shape old new cause

pub record DestOpens {D M : Type 0} (told : Type 0) (faults size : D → ℕ) (mech : M) (shape : Shape) (old new : DestEnd D M) : Type 0 where
  pub disk : D
  pub core : Host D (Destination M) of_dest.Carried
  pub old_is : old ≡ dest_end.Disk disk
  pub new_is : new ≡ dest_end.Open core
  pub made : IsDestMade told faults size mech shape disk core

pub record DestStays {D M : Type 0} (told : Type 0) (faults size : D → ℕ) (shape : Shape) (old new : DestEnd D M) (cause : Unmade) : Type 0 where
  pub disk : D
  pub now : D
  pub old_is : old ≡ dest_end.Disk disk
  pub new_is : new ≡ dest_end.Disk now
  pub unmade : IsUnmade told faults size shape disk now cause

abbrev pub DestMakes : {D M : Type 0} → (told : Type 0) → (faults size : D → ℕ) → M → Shape → DestEnd D M → DestEnd D M → Result (Unit {0}) Unmade → Type 0
DestMakes told faults size mech shape old new (Ok done) = DestOpens told faults size mech shape old new
DestMakes told faults size mech shape old new (Err cause) = DestStays told faults size shape old new cause
