-- How a server is opened anew on what a crash left of its disk. Own definitions.
use Rattle.std.specs.Prelude.{◌≡◌, ℕ, ◌<◌, ◌≤◌, ◌^◌, List, [], Some}
use Rattle.outcome.specs.Causes.{Rose}
use Rattle.block_file.specs.declared.faults.OpenFault.{OpenFault}
use Rattle.block_file.specs.declared.faults.OpenFault.TheVariants.{DiskFailed, NotVolume}
use Rattle.block_file.specs.Opened.{CanBeOpened, Opened, StandsFor}
use Rattle.block_file.specs.Stored.{flaw_of}
use Rattle.disk_model.specs.declared.fuse.Fuse.{Fuse}
use Rattle.disk_model.specs.declared.fuse.Fuse.TheVariants.{Unset}
use Rattle.disk_model.specs.Disk.{Image, MayLeave}
use Rattle.disk_model.specs.Elapsed.{Timeline, crash_moment}
use Rattle.server_volume.specs.Moments.{Ran}
use Rattle.server_volume.specs.Store.{seat_of, store_of}
use Rattle.server_volume.specs.declared.used.Used.{Used}
use Rattle.volume_stops.specs.Stops.{IsCertain, IsOpenedFrom}

-- what a crash may leave of a disk, as of the stop of its machine or as of now
abbrev pub CrashLeaves : {D : Type 0} → (D → Fuse) → (D → Timeline) → D → Image → Type 0
CrashLeaves fuse timeline disk image = MayLeave ((timeline disk).state (crash_moment (fuse disk) (timeline disk))) image

-- whatever that is, it can be opened
abbrev pub MayReopen : {D : Type 0} → (told : Type 0) → (D → ℕ) → (D → Fuse) → (D → Timeline) → D → Type 0
MayReopen told size fuse timeline disk = told → (image : Image) → CrashLeaves fuse timeline disk image → CanBeOpened (size disk) image

module _ {D : Type 0} (told : Type 0) (size : D → ℕ) (fuse : D → Fuse) (timeline : D → Timeline) (faults : D → ℕ) where
  -- a step made these calls on a volume that stood for what its disk held
  pub record MadeCalls (old new : Opened D) (used : List Used) : Type 0 where
    pub stood : told → StandsFor timeline size old
    pub certain : IsCertain old.volume
    pub as_large : size new.disk ≡ size old.disk
    pub ran : told → Ran (seat_of size fuse timeline faults old) (seat_of size fuse timeline faults new) [] used

  -- This was opened of what a crash left of a disk, and no fuse is set.
  pub record IsReopened (disk : D) (next : Opened D) : Type 0 where
    pub image : Image
    pub left : told → CrashLeaves fuse timeline disk image
    pub opened : told → IsOpenedFrom image (store_of size next)
    pub as_large : size next.disk ≡ size disk
    pub later : faults disk ≤ faults next.disk
    pub unset : fuse next.disk ≡ Unset
    pub numbered : next.volume.boot < 2 ^ 32

  -- Nothing was: the disk failed, or holds no volume.
  abbrev pub UnopenedFor : (disk now : D) → OpenFault → Type 0
  UnopenedFor disk now DiskFailed = Rose (faults disk) (faults now)
  UnopenedFor disk now (NotVolume block at) =
      told → (image : Image) × CrashLeaves fuse timeline disk image × (flaw_of (size disk) image ≡ Some (record { block = block; at = at }))

  pub record IsUnopened (disk now : D) (fault : OpenFault) : Type 0 where
    pub why : UnopenedFor disk now fault
    pub as_large : size now ≡ size disk
    pub later : faults disk ≤ faults now
