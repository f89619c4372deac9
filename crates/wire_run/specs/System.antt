-- How the parts of a system stand for what contracts see of it, and what always holds of them.
use Rattle.std.specs.Option.{option_map_or}
use Rattle.std.specs.Prelude.{◌≡◌, ◌⊎◌, ℕ, ◌+◌, ◌*◌, ◌≤◌, ◌<◌, Bool, true, false, List, length, Option, Some, None, IfSome, option_map}
use Rattle.block_file.specs.Opened.{MayBeLeft}
use Rattle.client_core.specs.Telling.{copy_of}
use Rattle.copy_model.specs.Volume.{Volume, bytes_at, file_at}
use Rattle.dest_core.specs.Stepping.{DestState}
use Rattle.disk_model.specs.Disk.{Image, MayLeave}
use Rattle.disk_model.specs.declared.fuse.Fuse.{Fuse}
use Rattle.disk_model.specs.Elapsed.{Timeline, present}
use Rattle.nfs_base.specs.declared.side.Side.{Side}
use Rattle.nfs_base.specs.declared.side.Side.TheVariants.{Source, Dest}
use Rattle.outcome.specs.Causes.{Rose}
use Rattle.session_server.specs.Host.{host_of}
use Rattle.wire_machine.specs.Runs.{most_bytes}
use Rattle.wire_machine.specs.World.{bytes_of}
use Rattle.run_ends.specs.Ends.{SourceState}
use Rattle.wire_run.specs.Running.{Running, disk_of, faults_in, without}
use Rattle.wire_run.specs.Stage.{AllDelivered, IsBelow, dest_disk, most_records, source_disk}
use Rattle.wire_run.specs.Watching.{AreNumbered, AreWatched, is_armed}
use Rattle.wire_run.specs.declared.ends.DestEnd.{DestEnd}
use Rattle.wire_run.specs.declared.ends.DestEnd.TheVariants as dest_end
use Rattle.wire_run.specs.declared.ends.SourceEnd.{SourceEnd}
use Rattle.wire_run.specs.declared.ends.SourceEnd.TheVariants as source_end
use Rattle.run_ends.specs.declared.setting.TheConstants.{SOURCE_TAG, DEST_TAG}
use Rattle.wire_run.specs.declared.stage.Stage.{Stage}
use Rattle.wire_schedule.specs.Admission.{has_begun, has_file, most_copies, most_events}
use Rattle.wire_schedule.specs.declared.context.Context.{Context}
use Rattle.wire_schedule.specs.declared.event.Event.{Event}
use Rattle.wire_schedule.specs.declared.event.Event.TheVariants as kinds

-- ---- the tag of a server's volume, where it is there

abbrev pub SourceHasTag : {D M : Type 0} → ℕ → SourceEnd D M → Type 0
SourceHasTag tag (source_end.Open core) = core.server.files.volume.tag ≡ tag
SourceHasTag tag end = Unit {0}

abbrev pub DestHasTag : {D M : Type 0} → ℕ → DestEnd D M → Type 0
DestHasTag tag (dest_end.Open core) = core.server.files.volume.tag ≡ tag
DestHasTag tag end = Unit {0}

-- ---- the servers

abbrev pub source_state : {D M : Type 0} → (D → ℕ) → SourceEnd D M → Option (SourceState M)
source_state size (source_end.Open core) = Some (host_of size core)
source_state size end = None

abbrev pub dest_state : {D M : Type 0} → (D → ℕ) → DestEnd D M → Option (DestState M)
dest_state size (dest_end.Open core) = Some (host_of size core)
dest_state size end = None

abbrev pub running_of : {D M : Type 0} → (D → ℕ) → Context → Stage D M → Running D M
running_of size context s = record {
  context = context;
  source = source_disk s.source;
  dest = dest_disk s.dest;
  source_state = source_state size s.source;
  dest_state = dest_state size s.dest;
  source_armed = is_armed Source s;
  dest_armed = is_armed Dest s;
  client = s.client;
  draws = s.draws;
  clock = s.clock;
  log = s.log;
  choices = s.choices.items;
}

-- ---- what always holds: each server is there from its line on, with that many files and its tag where its disk tells; the
-- mechanism is the client's; steps and the clock go by events and by deliveries; the records up to one were delivered; a copy
-- that wasn't begun isn't at the client

abbrev pub SourceFits : {D M : Type 0} → (told : Type 0) → Option ℕ → SourceEnd D M → Type 0
SourceFits told None (source_end.Open core) = ⊥
SourceFits told None end = Unit {0}
SourceFits told (Some files) (source_end.Open core) =
    told → (length core.server.files.volume.volume.files ≡ files + 1) × (core.server.files.volume.tag ≡ SOURCE_TAG)
SourceFits told (Some files) source_end.Away = Unit {0}
SourceFits told (Some files) (source_end.Disk disk) = ⊥

abbrev pub DestFits : {D M : Type 0} → (told : Type 0) → Option ℕ → DestEnd D M → Type 0
DestFits told None (dest_end.Open core) = ⊥
DestFits told None end = Unit {0}
DestFits told (Some files) (dest_end.Open core) =
    told → (length core.server.files.volume.volume.files ≡ files + 1) × (core.server.files.volume.tag ≡ DEST_TAG)
DestFits told (Some files) dest_end.Away = Unit {0}
DestFits told (Some files) (dest_end.Disk disk) = ⊥

pub record IsSound {D M : Type 0} (told : Type 0) (size : D → ℕ) (fuse : D → Fuse) (context : Context) (mech : M) (s : Stage D M) : Type 0 where
  pub source_fits : SourceFits told context.source s.source
  pub dest_fits : DestFits told context.dest s.dest
  pub mech_is : s.client.setting.mech ≡ mech
  pub events : context.events ≤ most_events
  pub numbered : length context.begun ≡ most_copies + 1
  pub below : IsBelow (context.events + s.flowed) s
  pub watched : AreWatched told size fuse s
  pub opened : AreNumbered told (context.events + s.flowed) s
  pub clock_is : s.clock ≤ 1000000 * context.events
  pub bytes : bytes_of s.log ≤ most_bytes
  pub within : s.flowed ≤ length s.log
  pub few : s.flowed ≤ most_records
  pub delivered : AllDelivered s.flowed s.log
  pub unbegun : (j : ℕ) → has_begun context j ≡ false → copy_of j s.client ≡ None

-- ---- what is shown of a file

abbrev pub HasFile : Context → Side → (file : ℕ) → Type 0
HasFile context side file = (has_file context side file) ≡ true

abbrev pub shown_at : {M : Type 0} → Option (SourceState M) → Option (DestState M) → Side → Option Volume
shown_at source dest Source = option_map (λ s. s.state.machine.store.volume) source
shown_at source dest Dest = option_map (λ s. s.state.machine.store.volume) dest

abbrev pub IsShown : {D M : Type 0} → Running D M → Side → (file off : ℕ) → List ℕ → (len : ℕ) → Type 0
IsShown r side file off bytes len = IfSome (shown_at r.source_state r.dest_state side) (λ v. bytes ≡ bytes_at (file_at v file).now off len)

-- how many bytes a file has
abbrev pub IsSized : {D M : Type 0} → Running D M → Side → (file : ℕ) → ℕ → Type 0
IsSized r side file size = IfSome (shown_at r.source_state r.dest_state side) (λ v. size ≡ length (file_at v file).now)

-- a server's volume is broken
abbrev pub is_broken : {D M : Type 0} → Running D M → Side → Bool
is_broken r side = option_map_or (λ v. v.broken) (shown_at r.source_state r.dest_state side) false

-- a server's volume has no such file
abbrev pub LacksFile : {D M : Type 0} → Running D M → Side → (file : ℕ) → Type 0
LacksFile r side file = IfSome (shown_at r.source_state r.dest_state side) (λ v. length v.files ≤ file)

-- why its bytes weren't shown: it is broken, or its disk failed; or the file isn't there any more, at a disk that doesn't tell what it holds
abbrev pub IsUnread : {D M : Type 0} → (told : Type 0) → (faults : D → ℕ) → (old new : Running D M) → Side → (file : ℕ) → Type 0
IsUnread told faults old new side file =
    (is_broken old side ≡ true)
    ⊎ (Rose (faults_in faults (disk_of old side)) (faults_in faults (disk_of new side)) ⊎ (LacksFile old side file × (told → ⊥)))

-- all but a server's disk is as it was
abbrev pub with_disk : {D M : Type 0} → Side → Option D → Running D M → Running D M
with_disk Source disk r = record r { source = disk }
with_disk Dest disk r = record r { dest = disk }

-- ---- an event that is one small step

abbrev pub IsSingle : Event → Type 0
IsSingle (kinds.Volume side files blocks) = ⊥
IsSingle kinds.Flow = ⊥
IsSingle event = Unit {0}

-- ---- what a disk holds that is handed back: what a crash now may leave of it is what may be left of this volume with this
-- tag, where it is there

abbrev pub DiskHolds : {D : Type 0} → (D → Timeline) → (D → ℕ) → ℕ → Volume → Option D → Type 0
DiskHolds timeline size tag v disk =
    0 < length v.files → IfSome disk (λ d. (homes : ℕ → ℕ)
    × ((image : Image) → MayLeave (present (timeline d)) image → MayBeLeft (size d) tag homes v image))

abbrev pub Holds : {D : Type 0} → (D → Timeline) → (D → ℕ) → ℕ → Option Volume → Option D → Type 0
Holds timeline size tag v disk = IfSome v (λ v. DiskHolds timeline size tag v disk)

-- ---- a server is lost: its disk is on its own

abbrev pub lost_in : {D M : Type 0} → Side → D → Running D M → Running D M
lost_in Source disk r = record r { context = without Source r.context; source = Some disk; source_state = None }
lost_in Dest disk r = record r { context = without Dest r.context; dest = Some disk; dest_state = None }
