-- Servers that stop in a run, and what becomes of them: each is opened anew, or it is lost. Own definitions.
use Rattle.std.specs.Prelude.{◌≡◌, ◌⊎◌, ◌||◌, ℕ, Bool, true, false, List, [], ◌∷◌, ◌++◌, length, map, Option, Some, None, Result, Ok, Err}
use Rattle.block_file.specs.declared.faults.OpenFault.{OpenFault}
use Rattle.disk_model.specs.Elapsed.{IsOut, Timeline, set_to}
use Rattle.disk_model.specs.declared.fuse.Fuse.{Fuse}
use Rattle.nfs_base.specs.declared.side.Side.{Side}
use Rattle.nfs_base.specs.declared.side.Side.TheVariants.{Source, Dest}
use Rattle.run_ends.specs.Ends.{RunMachines, RunStep, RunWorld}
use Rattle.run_ends.specs.Opening.{IsNewDest, IsNewSource}
use Rattle.run_ends.specs.Stops.Reopening.{IsReopened, IsUnopened, MadeCalls, MayReopen}
use Rattle.server_volume.specs.declared.used.Used.{Used}
use Rattle.session_server.specs.Host.{host_of}
use Rattle.volume_stops.specs.Stops.{kept_by, pending_within}
use Rattle.volume_stops.specs.declared.kept.Kept.{Kept}
use Rattle.volume_stops.specs.declared.kept.Kept.TheVariants.{Nothing}
use Rattle.volume_stops.specs.declared.pending.Pending.{Pending}
use Rattle.wire_lines.specs.LineText.{lines_text}
use Rattle.wire_lines.specs.declared.line.Line.TheVariants as lines
use Rattle.wire_log.specs.Keeping as keeping
use Rattle.wire_machine.specs.Check.{Reading, mistake}
use Rattle.wire_machine.specs.Runs as runs
use Rattle.wire_machine.specs.Runs.{Goes, fault_by}
use Rattle.wire_machine.specs.Steps.{NeverStops, StopsTaking, any_failed, same_side}
use Rattle.wire_machine.specs.World.{Parts, Posted, bytes_of, posted_at}
use Rattle.wire_machine.specs.declared.choice.Choice.TheVariants.{Stopped}
use Rattle.wire_machine.specs.declared.mistake.Mistake.{Mistake}
use Rattle.wire_machine.specs.declared.port.Port.{Port}
use Rattle.wire_run.specs.Fresh.{unopened}
use Rattle.wire_run.specs.Running.{AreBlamed, Later, LostFor, failed_calls, fault_in, text_in}
use Rattle.wire_run.specs.Stage.{DestHost, FlowsOne, IsDone, IsFaulty, IsOpenAt, SettleKeeps, Settles, SmallIs, SourceHost, StageGoes, bit, dest_boot, dest_disk, faults_named, is_asked, mistake_by, next_flowed, source_boot, source_disk, world_at}
use Rattle.wire_run.specs.Watching.{crashes_in, is_armed, no_stop, noted_at, stop_at, stopped_by}
use Rattle.wire_run.specs.declared.ends.DestEnd.{DestEnd}
use Rattle.wire_run.specs.declared.ends.DestEnd.TheVariants as dest_end
use Rattle.wire_run.specs.declared.ends.SourceEnd.{SourceEnd}
use Rattle.wire_run.specs.declared.ends.SourceEnd.TheVariants as source_end
use Rattle.wire_run.specs.declared.fresh.Unmade.{Unmade}
use Rattle.wire_run.specs.declared.stage.Acted.{Acted}
use Rattle.wire_run.specs.declared.stage.Fault.{Fault}
use Rattle.wire_run.specs.declared.stage.Lost.{Lost}
use Rattle.wire_run.specs.declared.stage.Stage.{Stage}
use Rattle.wire_run.specs.declared.system.Stepped.{Stepped}
use Rattle.wire_schedule.specs.declared.event.Event.{Event}
use Rattle.wire_schedule.specs.declared.event.Event.TheVariants as kinds

-- ---- the ends of a stage, by their side

abbrev pub disk_at : {D M : Type 0} → Side → Stage D M → Option D
disk_at Source s = source_disk s.source
disk_at Dest s = dest_disk s.dest

abbrev pub boot_at : {D M : Type 0} → Side → Stage D M → ℕ
boot_at Source s = source_boot s.source
boot_at Dest s = dest_boot s.dest

-- with the end of another stage, and without one
abbrev pub with_end : {D M : Type 0} → Side → (of s : Stage D M) → Stage D M
with_end Source of s = record s { source = of.source }
with_end Dest of s = record s { dest = of.dest }

abbrev pub without_end : {D M : Type 0} → Side → Stage D M → Stage D M
without_end Source s = record s { source = source_end.Away }
without_end Dest s = record s { dest = dest_end.Away }

-- what was kept of a commit, by the home of its file's table
abbrev pub source_kept : {D M : Type 0} → Option Pending → SourceEnd D M → Kept
source_kept pending (source_end.Open core) = kept_by (length core.server.files.volume.volume.files) core.server.files.volume.homes pending
source_kept pending end = Nothing

abbrev pub dest_kept : {D M : Type 0} → Option Pending → DestEnd D M → Kept
dest_kept pending (dest_end.Open core) = kept_by (length core.server.files.volume.volume.files) core.server.files.volume.homes pending
dest_kept pending end = Nothing

abbrev pub kept_at : {D M : Type 0} → Side → Option Pending → Stage D M → Kept
kept_at Source pending s = source_kept pending s.source
kept_at Dest pending s = dest_kept pending s.dest

-- ---- a server's machine has stopped

abbrev pub SourceIsOut : {D M : Type 0} → (D → Fuse) → SourceEnd D M → Type 0
SourceIsOut fuse (source_end.Open core) = IsOut (fuse core.server.files.volume.disk)
SourceIsOut fuse end = ⊥

abbrev pub DestIsOut : {D M : Type 0} → (D → Fuse) → DestEnd D M → Type 0
DestIsOut fuse (dest_end.Open core) = IsOut (fuse core.server.files.volume.disk)
DestIsOut fuse end = ⊥

abbrev pub IsOutAt : {D M : Type 0} → (D → Fuse) → Side → Stage D M → Type 0
IsOutAt fuse Source s = SourceIsOut fuse s.source
IsOutAt fuse Dest s = DestIsOut fuse s.dest

-- It goes on: no fuse of its disk was set, or its machine hasn't stopped.
abbrev pub GoesOnAt : {D M : Type 0} → (D → Fuse) → Side → Stage D M → Type 0
GoesOnAt fuse side s = ((stop_at side s.stops).armed ≡ None) ⊎ (IsOutAt fuse side s → ⊥)

-- It is due to crash under this pick.
pub record IsDueAt {D M : Type 0} (fuse : D → Fuse) (side : Side) (s : Stage D M) (pick : ℕ) : Type 0 where
  pub armed : (stop_at side s.stops).armed ≡ Some pick
  pub out : IsOutAt fuse side s

-- the line of a stop, behind which it was opened anew. What a crash may have found unfinished is pending.
abbrev pub crash_lines : {D M : Type 0} → Side → Option Pending → Stage D M → List ℕ
crash_lines side pending s = lines_text (lines.Crash side (boot_at side s) (kept_at side pending s) ∷ [])

-- a server that is there couldn't be opened anew, and its disk is lost to it
pub record DiskLost {D : Type 0} (told : Type 0) (size : D → ℕ) (fuse : D → Fuse) (timeline : D → Timeline) (faults : D → ℕ) (was : Option D) (lost : D)
    (cause : Unmade) : Type 0 where
  pub disk : D
  pub was_is : was ≡ Some disk
  pub fault : OpenFault
  pub cause_is : cause ≡ unopened fault
  pub unopened : IsUnopened told size fuse timeline faults disk lost fault

module _ {D M : Type 0} (told : Type 0) (size : D → ℕ) (fuse : D → Fuse) (timeline : D → Timeline) (faults : D → ℕ) where
  -- ---- a step of a server that is there made these calls on its volume

  abbrev pub SourceCalls : SourceEnd D M → SourceEnd D M → List Used → Type 0
  SourceCalls (source_end.Open was) (source_end.Open next) used = MadeCalls told size fuse timeline faults was.server.files.volume next.server.files.volume used
  SourceCalls old new used = ⊥

  abbrev pub DestCalls : DestEnd D M → DestEnd D M → List Used → Type 0
  DestCalls (dest_end.Open was) (dest_end.Open next) used = MadeCalls told size fuse timeline faults was.server.files.volume next.server.files.volume used
  DestCalls old new used = ⊥

  -- ---- a server that is there may be opened anew, whatever a crash leaves of its disk

  abbrev pub SourceMayReopen : SourceEnd D M → Type 0
  SourceMayReopen (source_end.Open core) = MayReopen told size fuse timeline core.server.files.volume.disk
  SourceMayReopen end = ⊥

  abbrev pub DestMayReopen : DestEnd D M → Type 0
  DestMayReopen (dest_end.Open core) = MayReopen told size fuse timeline core.server.files.volume.disk
  DestMayReopen end = ⊥

  abbrev pub MayReopenAt : Side → Stage D M → Type 0
  MayReopenAt Source s = SourceMayReopen s.source
  MayReopenAt Dest s = DestMayReopen s.dest

  -- it was
  pub record SourceReopened (old new : SourceEnd D M) : Type 0 where
    pub was : SourceHost D M
    pub next : SourceHost D M
    pub was_is : old ≡ source_end.Open was
    pub next_is : new ≡ source_end.Open next
    pub volume : IsReopened told size fuse timeline faults was.server.files.volume.disk next.server.files.volume
    pub fresh : IsNewSource was.server.files.extra.mech (host_of size next)

  pub record DestReopened (old new : DestEnd D M) : Type 0 where
    pub was : DestHost D M
    pub next : DestHost D M
    pub was_is : old ≡ dest_end.Open was
    pub next_is : new ≡ dest_end.Open next
    pub volume : IsReopened told size fuse timeline faults was.server.files.volume.disk next.server.files.volume
    pub fresh : IsNewDest was.server.files.extra.mech (host_of size next)

  abbrev pub SourceReopens : SourceEnd D M → SourceEnd D M → Result (Unit {0}) (D × Unmade) → Type 0
  SourceReopens old new (Ok done) = SourceReopened old new
  SourceReopens old new (Err lost) = DiskLost told size fuse timeline faults (source_disk old) lost.0 lost.1 × (new ≡ source_end.Away)

  abbrev pub DestReopens : DestEnd D M → DestEnd D M → Result (Unit {0}) (D × Unmade) → Type 0
  DestReopens old new (Ok done) = DestReopened old new
  DestReopens old new (Err lost) = DiskLost told size fuse timeline faults (dest_disk old) lost.0 lost.1 × (new ≡ dest_end.Away)

  -- ---- the same of a stage, all else of which is as it was

  abbrev pub ReopenedBy : Side → Stage D M → Stage D M → Type 0
  ReopenedBy Source old new = SourceReopened old.source new.source
  ReopenedBy Dest old new = DestReopened old.dest new.dest

  abbrev pub EndReopens : Side → Stage D M → Stage D M → Result (Unit {0}) (D × Unmade) → Type 0
  EndReopens Source old new answer = SourceReopens old.source new.source answer
  EndReopens Dest old new answer = DestReopens old.dest new.dest answer

  -- no calls are made
  abbrev pub RestsAt : Side → Stage D M → Type 0
  RestsAt Source s = SourceCalls s.source s.source []
  RestsAt Dest s = DestCalls s.dest s.dest []

  pub record ReopenedAt (side : Side) (old new : Stage D M) : Type 0 where
    pub reopened : ReopenedBy side old new
    pub rest : new ≡ stopped_by side no_stop (with_end side new old)

  pub record LostAt (side : Side) (old new : Stage D M) (lost : Lost D) : Type 0 where
    pub side_is : lost.side ≡ side
    pub disk : DiskLost told size fuse timeline faults (disk_at side old) lost.disk lost.cause
    pub rest : new ≡ stopped_by side no_stop (without_end side old)

  abbrev pub ReopensAt : Side → Stage D M → Stage D M → Result (Unit {0}) (Lost D) → Type 0
  ReopensAt side old new (Ok done) = ReopenedAt side old new
  ReopensAt side old new (Err lost) = LostAt side old new lost

  -- ---- a server stopped and was opened anew: a line says so, and the small step is counted

  pub record IsStopTold (side : Side) (pending : Option Pending) (old new : Stage D M) (text_old text_new : List ℕ) : Type 0 where
    pub reopened : Stage D M
    pub opens : ReopenedAt side old reopened
    pub keeps : SettleKeeps reopened new
    pub log : new.log ≡ old.log
    pub lines : text_new ≡ text_old ++ crash_lines side pending reopened
    pub choices : new.choices.items ≡ old.choices.items ++ Stopped (kept_at side pending reopened) ∷ []

  -- what it took was a mistake: the run is over
  pub record IsStopMistaken (side : Side) (mistake : Mistake) (old new : Stage D M) (text_old text_new : List ℕ) : Type 0 where
    pub opens : ReopenedAt side old new
    pub text : text_new ≡ text_old

  -- ---- the end of a small step in which a server acted. It goes on, and what it gave is settled; or it stopped.

  pub record GoesOn (read : Reading) (side : Side) (acted : Acted) (old new : Stage D M) (text_old text_new : List ℕ) (fault : Option runs.Fault) : Type 0 where
    pub on : GoesOnAt fuse side old
    pub settles : Settles read acted (noted_at side acted.out.used old) new text_old text_new fault
    pub keeps : SettleKeeps (noted_at side acted.out.used old) new

  pub record Stopping (read : Reading) (side : Side) (acted : Acted) (old : Stage D M) : Type 0 where
    pub pick : ℕ
    pub due : IsDueAt fuse side old pick

  abbrev pub StopEnds : Reading → Side → Acted → (old new : Stage D M) → (text_old text_new : List ℕ) → Option runs.Fault → Type 0
  StopEnds read side acted old new text_old text_new None =
      Stopping read side acted old × (mistake_by read acted old ≡ None)
      × IsStopTold side (pending_within (stop_at side old.stops).pending acted.out.used) old new text_old text_new
  StopEnds read side acted old new text_old text_new (Some fault) =
      Stopping read side acted old
      × ((mistake : Mistake) × (mistake_by read acted old ≡ Some mistake) × (fault ≡ runs.Mistaken mistake)
      × IsStopMistaken side mistake old new text_old text_new)

  abbrev pub ServerEnds : Reading → Side → Acted → (old new : Stage D M) → (text_old text_new : List ℕ) → Result (Option Fault) (Lost D) → Type 0
  ServerEnds read side acted old new text_old text_new (Ok fault) =
      GoesOn read side acted old new text_old text_new (faults_named fault) ⊎ StopEnds read side acted old new text_old text_new (faults_named fault)
  ServerEnds read side acted old new text_old text_new (Err lost) =
      Stopping read side acted old × LostAt side old new lost × (text_new ≡ text_old)

  -- what is kept of the stage in it, want of memory included: the server went on, was opened anew, or is away

  pub record KeepsGoing (side : Side) (used : List Used) (old new : Stage D M) : Type 0 where
    pub on : GoesOnAt fuse side old
    pub keeps : SettleKeeps (noted_at side used old) new

  pub record KeepsReopened (side : Side) (old new : Stage D M) : Type 0 where
    pub reopened : Stage D M
    pub opens : ReopenedAt side old reopened
    pub keeps : SettleKeeps reopened new

  abbrev pub EndKeeps : Side → List Used → Stage D M → Stage D M → Type 0
  EndKeeps side used old new = KeepsGoing side used old new ⊎ (KeepsReopened side old new ⊎ (new ≡ stopped_by side no_stop (without_end side old)))

-- ---- a small step in which a server stops, by the relation that it is of: what it leaves, its line, and what the disks did in it

pub record IsCutDone {D M : Type 0} (told : Type 0) (m : RunMachines M) (read : Reading) (faults size : D → ℕ) (side : Side)
    (C : Kept → RunWorld M → Parts → RunWorld M → Type 0) (old new : Stage D M) (text_old text_new : List ℕ) : Type 0 where
  pub source : SourceHost D M
  pub dest : DestHost D M
  pub source_next : SourceHost D M
  pub dest_next : DestHost D M
  pub source_is : old.source ≡ source_end.Open source
  pub dest_is : old.dest ≡ dest_end.Open dest
  pub source_next_is : new.source ≡ source_end.Open source_next
  pub dest_next_is : new.dest ≡ dest_end.Open dest_next
  pub kept : Kept
  pub parts : Parts
  pub is : told → C kept (world_at size source dest old) parts (world_at size source_next dest_next new)
  pub right : told → fault_by (mistake m read (world_at size source dest old) parts) (bytes_of new.log) ≡ None
  pub lines : text_new ≡ text_old ++ lines_text (lines.Crash side (boot_at side new) kept ∷ [])
  pub choices : new.choices.items ≡ old.choices.items ++ Stopped kept ∷ []
  pub source_later : Later faults size (bit (any_failed parts.source.out.used)) (Some source.server.files.volume.disk) (Some source_next.server.files.volume.disk)
  pub dest_later : Later faults size (bit (any_failed parts.dest.out.used)) (Some dest.server.files.volume.disk) (Some dest_next.server.files.volume.disk)

-- A small step is done of the one relation, or of the other, and then a fuse was set at the server that stops; or the run ends with it.
abbrev pub ComesOrCuts : {D M : Type 0} → (told : Type 0) → RunMachines M → Reading → (faults size : D → ℕ) → Side → (RunWorld M → Parts → RunWorld M → Type 0)
    → (Kept → RunWorld M → Parts → RunWorld M → Type 0) → (old new : Stage D M) → (text_old text_new : List ℕ) → Option runs.Fault → Type 0
ComesOrCuts told m read faults size side R C old new text_old text_new None =
    IsDone told m read faults size R old new text_old text_new
    ⊎ ((is_armed side old ≡ true) × IsCutDone told m read faults size side C old new text_old text_new)
ComesOrCuts told m read faults size side R C old new text_old text_new (Some fault) = IsFaulty told m read faults size R fault old new text_old text_new

-- ---- a server is lost in a small step

-- a server's disk, on its own again where it is lost
abbrev pub disk_if : {D : Type 0} → Bool → D → Option D → Option D
disk_if true disk other = Some disk
disk_if false disk other = other

abbrev pub disk_left : {D M : Type 0} → Side → Lost D → Stage D M → Option D
disk_left side lost s = disk_if (same_side side lost.side) lost.disk (disk_at side s)

abbrev pub IsAwayAt : {D M : Type 0} → Side → Stage D M → Type 0
IsAwayAt Source s = s.source ≡ source_end.Away
IsAwayAt Dest s = s.dest ≡ dest_end.Away

pub record IsLostIn {D M : Type 0} (told : Type 0) (faults size : D → ℕ) (lost : Lost D) (old new : Stage D M) (text_old text_new : List ℕ) : Type 0 where
  pub why : LostFor told faults (disk_at lost.side old) (Some lost.disk) lost.cause
  pub away : IsAwayAt lost.side new
  pub text : text_new ≡ text_old
  pub choices : new.choices.items ≡ old.choices.items
  pub later : (side : Side) → Later faults size 0 (disk_at side old) (disk_left side lost new)

-- how a small step ends that is of one relation, or of the other where a server stops
abbrev pub EndsIn : {D M : Type 0} → (told : Type 0) → RunMachines M → Reading → (faults size : D → ℕ) → Side → (RunWorld M → Parts → RunWorld M → Type 0)
    → (Kept → RunWorld M → Parts → RunWorld M → Type 0) → (old new : Stage D M) → (text_old text_new : List ℕ) → Result (Option Fault) (Lost D) → Type 0
EndsIn told m read faults size side R C old new text_old text_new (Ok fault) =
    ComesOrCuts told m read faults size side R C old new text_old text_new (faults_named fault)
EndsIn told m read faults size side R C old new text_old text_new (Err lost) =
    (is_armed lost.side old ≡ true) × IsLostIn told faults size lost old new text_old text_new

-- and how one of an event does
abbrev pub SmallEnds : {D M : Type 0} → (told : Type 0) → RunMachines M → Reading → (faults size : D → ℕ) → Event
    → (old new : Stage D M) → (text_old text_new : List ℕ) → Result (Option Fault) (Lost D) → Type 0
SmallEnds told m read faults size event old new text_old text_new (Ok fault) = SmallIs told m read faults size event old new text_old text_new (faults_named fault)
SmallEnds told m read faults size event old new text_old text_new (Err lost) =
    ((is_armed lost.side old || crashes_in event lost.side) ≡ true) × IsLostIn told faults size lost old new text_old text_new

-- ---- a record at which its server stops

-- it goes in at a port
abbrev pub StopsAt : {M : Type 0} → RunMachines M → Port → (number : ℕ) → Kept → RunWorld M → Parts → RunWorld M → Type 0
StopsAt m port number kept before parts after =
    (bytes : List ℕ) × (keeping.bytes_at before.log number ≡ Some bytes) × StopsTaking m (Some port) bytes kept before parts after

-- it was just marked, and goes in where it goes in
abbrev pub StopsHandedOver : {M : Type 0} → RunMachines M → (number : ℕ) → Kept → RunWorld M → Parts → RunWorld M → Type 0
StopsHandedOver m number kept before parts after = (r : Posted) × (posted_at number before.log ≡ Some r) × StopsTaking m r.port r.bytes kept before parts after

-- ---- a fuse is set at a server's disk; its world is as it was

pub record SourceArmed {D M : Type 0} (told : Type 0) (size : D → ℕ) (fuse : D → Fuse) (faults : D → ℕ) (calls : ℕ) (old new : SourceEnd D M) : Type 0 where
  pub was : SourceHost D M
  pub next : SourceHost D M
  pub was_is : old ≡ source_end.Open was
  pub next_is : new ≡ source_end.Open next
  pub same : told → host_of size next ≡ host_of size was
  pub fuse_is : fuse next.server.files.volume.disk ≡ set_to (fuse was.server.files.volume.disk) calls
  pub counted : next.steps ≡ was.steps
  pub later : Later faults size 0 (Some was.server.files.volume.disk) (Some next.server.files.volume.disk)

pub record DestArmed {D M : Type 0} (told : Type 0) (size : D → ℕ) (fuse : D → Fuse) (faults : D → ℕ) (calls : ℕ) (old new : DestEnd D M) : Type 0 where
  pub was : DestHost D M
  pub next : DestHost D M
  pub was_is : old ≡ dest_end.Open was
  pub next_is : new ≡ dest_end.Open next
  pub same : told → host_of size next ≡ host_of size was
  pub fuse_is : fuse next.server.files.volume.disk ≡ set_to (fuse was.server.files.volume.disk) calls
  pub counted : next.steps ≡ was.steps
  pub later : Later faults size 0 (Some was.server.files.volume.disk) (Some next.server.files.volume.disk)

abbrev pub ArmedAt : {D M : Type 0} → (told : Type 0) → (D → ℕ) → (D → Fuse) → (D → ℕ) → Side → (calls : ℕ) → Stage D M → Stage D M → Type 0
ArmedAt told size fuse faults Source calls old new = SourceArmed told size fuse faults calls old.source new.source
ArmedAt told size fuse faults Dest calls old new = DestArmed told size fuse faults calls old.dest new.dest

-- ---- events in which no server can stop

abbrev pub IsLasting : Event → Type 0
IsLasting (kinds.Deliver number) = ⊥
IsLasting (kinds.Work worker) = ⊥
IsLasting (kinds.Crash side pick) = ⊥
IsLasting event = Unit {0}

-- ---- small steps one after the other, up to the one in which a server is lost

pub record StageLoses {D M : Type 0} (told : Type 0) (m : RunMachines M) (read : Reading) (faults size : D → ℕ) (smalls : List Event)
    (old new : Stage D M) (lost : Lost D) : Type 0 where
  pub source : SourceHost D M
  pub dest : DestHost D M
  pub source_is : old.source ≡ source_end.Open source
  pub dest_is : old.dest ≡ dest_end.Open dest
  pub done : List Event
  pub rest : List Event
  pub are : smalls ≡ done ++ rest
  pub steps : List (RunStep M)
  pub goes : told → Goes m read (world_at size source dest old) done steps None
  pub choices : new.choices.items ≡ old.choices.items ++ map (λ (s : RunStep M). s.choice) steps
  pub asked : is_asked lost.side smalls old ≡ true
  pub never : (side : Side) → is_asked side smalls old ≡ false → NeverStops side (world_at size source dest old) steps
  pub blamed : AreBlamed steps
  pub why : LostFor told faults (disk_at lost.side old) (Some lost.disk) lost.cause
  pub away : IsAwayAt lost.side new
  pub there : (side : Side) → same_side side lost.side ≡ false → IsOpenAt side new
  pub later : (side : Side) → Later faults size (failed_calls side steps) (disk_at side old) (disk_left side lost new)

abbrev pub StageEnds : {D M : Type 0} → (told : Type 0) → RunMachines M → Reading → (faults size : D → ℕ) → List Event → (old new : Stage D M)
    → Result Stepped (Lost D) → Type 0
StageEnds told m read faults size smalls old new (Ok stepped) = StageGoes told m read faults size smalls old new (text_in stepped) (fault_in stepped)
StageEnds told m read faults size smalls old new (Err lost) = StageLoses told m read faults size smalls old new lost

-- one delivery of a flow
abbrev pub FlowsEnd : {D M : Type 0} → (told : Type 0) → RunMachines M → Reading → (faults size : D → ℕ) → (old new : Stage D M) → (text_old text_new : List ℕ)
    → Result (Option Fault) (Lost D) → Type 0
FlowsEnd told m read faults size old new text_old text_new (Ok fault) = FlowsOne told m read faults size old new text_old text_new (faults_named fault)
FlowsEnd told m read faults size old new text_old text_new (Err lost) =
    (is_armed lost.side old ≡ true) × IsLostIn told faults size lost (next_flowed old) new text_old text_new
