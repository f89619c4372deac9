-- What is known of a server's stops between two small steps. Own definitions.
use Rattle.std.specs.Prelude.{◌≡◌, ℕ, ◌+◌, ◌≤◌, ◌||◌, Bool, true, false, List, Option, Some, None, is_some}
use Rattle.block_file.specs.Opened.{Opened}
use Rattle.disk_model.specs.declared.fuse.Fuse.{Fuse}
use Rattle.disk_model.specs.declared.fuse.Fuse.TheVariants.{Unset}
use Rattle.disk_model.specs.Elapsed.{IsOut}
use Rattle.nfs_base.specs.declared.side.Side.{Side}
use Rattle.nfs_base.specs.declared.side.Side.TheVariants.{Source, Dest}
use Rattle.server_volume.specs.Store.{store_of}
use Rattle.server_volume.specs.declared.used.Used.{Used}
use Rattle.volume_stops.specs.Stops.{pending_after, pending_in}
use Rattle.wire_machine.specs.Steps.{same_side}
use Rattle.wire_run.specs.declared.ends.DestEnd.{DestEnd}
use Rattle.wire_run.specs.declared.ends.DestEnd.TheVariants as dest_end
use Rattle.wire_run.specs.declared.ends.SourceEnd.{SourceEnd}
use Rattle.wire_run.specs.declared.ends.SourceEnd.TheVariants as source_end
use Rattle.wire_run.specs.declared.stage.Stage.{Stage}
use Rattle.wire_run.specs.declared.stage.Stop.{Stop}
use Rattle.wire_run.specs.declared.stage.Stops.{Stops}
use Rattle.wire_schedule.specs.declared.event.Event.{Event}
use Rattle.wire_schedule.specs.declared.event.Event.TheVariants as kinds

-- ---- what a stop is told by

abbrev pub stop_at : Side → Stops → Stop
stop_at Source stops = stops.source
stop_at Dest stops = stops.dest

abbrev pub with_stop : Side → Stop → Stops → Stops
with_stop Source stop stops = record stops { source = stop }
with_stop Dest stop stops = record stops { dest = stop }

-- no commit is unfinished, and no fuse is set
abbrev pub no_stop : Stop
no_stop = record { pending = None; armed = None }

-- behind some calls
abbrev pub noted : List Used → Stop → Stop
noted used stop = record stop { pending = pending_after stop.pending used }

abbrev pub stopped_by : {D M : Type 0} → Side → Stop → Stage D M → Stage D M
stopped_by side stop s = record s { stops = with_stop side stop s.stops }

abbrev pub noted_at : {D M : Type 0} → Side → List Used → Stage D M → Stage D M
noted_at side used s = stopped_by side (noted used (stop_at side s.stops)) s

-- a fuse is set at its disk
abbrev pub is_armed : {D M : Type 0} → Side → Stage D M → Bool
is_armed side s = is_some (stop_at side s.stops).armed

-- ---- the fuse of a disk that is there

abbrev pub fuse_in : {D : Type 0} → (D → Fuse) → Option D → Fuse
fuse_in fuse None = Unset
fuse_in fuse (Some d) = fuse d

-- ---- events that stop a server, and events that set a fuse

abbrev pub crashes_in : Event → Side → Bool
crashes_in (kinds.Crash at pick) side = same_side side at
crashes_in event side = false

abbrev pub sets_in : Event → Side → Bool
sets_in (kinds.CrashAfter at calls pick) side = same_side side at
sets_in event side = false

-- ---- A server is watched. Where its disk tells what it holds, its machine hasn't stopped, no fuse is set that isn't known of, and the
-- commit is noted that a crash may find unfinished. Of one that isn't there nothing is known.

module _ {D : Type 0} (told : Type 0) (size : D → ℕ) (fuse : D → Fuse) where
  pub record IsWatched (v : Opened D) (stop : Stop) : Type 0 where
    pub lit : told → IsOut (fuse v.disk) → ⊥
    pub unset : told → stop.armed ≡ None → fuse v.disk ≡ Unset
    pub pending : told → stop.pending ≡ pending_in (store_of size v)

  abbrev pub SourceWatched : {M : Type 0} → SourceEnd D M → Stop → Type 0
  SourceWatched (source_end.Open core) stop = IsWatched core.server.files.volume stop
  SourceWatched end stop = stop ≡ no_stop

  abbrev pub DestWatched : {M : Type 0} → DestEnd D M → Stop → Type 0
  DestWatched (dest_end.Open core) stop = IsWatched core.server.files.volume stop
  DestWatched end stop = stop ≡ no_stop

  pub record AreWatched {M : Type 0} (s : Stage D M) : Type 0 where
    pub source : SourceWatched s.source s.stops.source
    pub dest : DestWatched s.dest s.stops.dest

-- ---- how often the volumes were opened: so many times, and once

abbrev pub SourceNumbered : {D M : Type 0} → ℕ → SourceEnd D M → Type 0
SourceNumbered n (source_end.Open core) = core.server.files.volume.volume.boot ≤ n + 1
SourceNumbered n end = Unit {0}

abbrev pub DestNumbered : {D M : Type 0} → ℕ → DestEnd D M → Type 0
DestNumbered n (dest_end.Open core) = core.server.files.volume.volume.boot ≤ n + 1
DestNumbered n end = Unit {0}

pub record AreNumbered {D M : Type 0} (told : Type 0) (n : ℕ) (s : Stage D M) : Type 0 where
  pub source : told → SourceNumbered n s.source
  pub dest : told → DestNumbered n s.dest

-- ---- what a small step keeps of all that, want of memory included; no fuse is set in it but at these sides

abbrev pub no_side : Side → Bool
no_side side = false

pub record KeepsStops {D M : Type 0} (told : Type 0) (size : D → ℕ) (fuse : D → Fuse) (sets : Side → Bool) (old new : Stage D M) : Type 0 where
  pub watched : AreWatched told size fuse new
  pub numbered : (n : ℕ) → AreNumbered told n old → AreNumbered told (n + 1) new
  pub armed : (side : Side) → is_armed side new ≡ true → (is_armed side old || sets side) ≡ true
