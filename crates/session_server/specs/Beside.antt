-- What is done with a server beside its steps: a look at a file's bytes, its disk's fuse, and its end.
use Rattle.std.specs.Prelude.{◌≡◌, ◌≤◌, ◌↔◌, ℕ, List, length, true, IsOk, Err, Result}
use Rattle.block_file.specs.Opened.{homes_by, CanBeOpened, MayBeLeft}
use Rattle.block_file.specs.declared.faults.ReadFault.{ReadFault}
use Rattle.block_file.specs.declared.faults.ReadFault.TheVariants.{Broken, DiskFailed}
use Rattle.copy_model.specs.Volume.{bytes_at, file_at}
use Rattle.disk_model.specs.Disk.{Image, MayLeave}
use Rattle.disk_model.specs.Elapsed.{Timeline, present, set_to}
use Rattle.disk_model.specs.declared.fuse.Fuse.{Fuse}
use Rattle.outcome.specs.Causes.{Rose}
use Rattle.session_server.specs.Host.{host_of}
use Rattle.session_server.specs.declared.host.Host.{Host}

-- A read of so many bytes of a file from `off` on, with zeros past its end. It is no step, and what the server is stays, where
-- the disk tells the truth.
pub record IsPeek {D X C T : Type 0} (told : Type 0) (size_of : D → ℕ) (fuse_of : D → Fuse) (faults_of : D → ℕ) (file off : ℕ) (old new : Host D X C)
    (before after : List ℕ) (result : Result T ReadFault) : Type 0 where
  pub broken : (result ≡ Err Broken) ↔ (old.server.files.volume.volume.broken ≡ true)
  pub bytes : told → IsOk result → after ≡ bytes_at (file_at old.server.files.volume.volume file).now off (length before)
  pub still : told → host_of size_of new ≡ host_of size_of old
  pub counted : new.steps ≡ old.steps
  pub fuse : fuse_of new.server.files.volume.disk ≡ fuse_of old.server.files.volume.disk
  pub size : size_of new.server.files.volume.disk ≡ size_of old.server.files.volume.disk
  pub faults : faults_of old.server.files.volume.disk ≤ faults_of new.server.files.volume.disk
  pub cause : result ≡ Err DiskFailed → Rose (faults_of old.server.files.volume.disk) (faults_of new.server.files.volume.disk)

-- The disk lets so many more calls pass, and nothing else changes.
pub record IsArmed {D X C : Type 0} (told : Type 0) (size_of : D → ℕ) (fuse_of : D → Fuse) (faults_of : D → ℕ) (calls : ℕ) (old new : Host D X C) : Type 0 where
  pub fuse : fuse_of new.server.files.volume.disk ≡ set_to (fuse_of old.server.files.volume.disk) calls
  pub still : told → host_of size_of new ≡ host_of size_of old
  pub counted : new.steps ≡ old.steps
  pub boot : new.server.files.volume.volume.boot ≡ old.server.files.volume.volume.boot
  pub size : size_of new.server.files.volume.disk ≡ size_of old.server.files.volume.disk
  pub faults : faults_of new.server.files.volume.disk ≡ faults_of old.server.files.volume.disk

-- The disk comes back: a crash may leave of it what the volume stands for, and it can be opened again.
pub record IsHandedBack {D X C : Type 0} (told : Type 0) (size_of : D → ℕ) (timeline_of : D → Timeline) (host : Host D X C) (back : D) : Type 0 where
  pub disk : back ≡ host.server.files.volume.disk
  pub left : told → (image : Image) → MayLeave (present (timeline_of back)) image
      → MayBeLeft (size_of back) host.server.files.volume.tag (homes_by host.server.files.volume.homes) host.server.files.volume.volume image
  pub again : told → (image : Image) → MayLeave (present (timeline_of back)) image → CanBeOpened (size_of back) image
