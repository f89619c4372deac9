-- The run of a schedule from its beginning, and what is put of it. Own definitions.
use Rattle.std.specs.Prelude.{◌≡◌, ◌⊎◌, ◌≤◌, ◌+◌, ℕ, Bool, true, false, List, [], ◌∷◌, ◌++◌, length, take, map, Option, Some, None, is_some}
use Rattle.std.specs.Io.KnownBytes.{Appends, Keeps}
use Rattle.outcome.specs.Causes.{Rose}
use Rattle.wire_lines.specs.LineText.{lines_text}
use Rattle.wire_machine.specs.Lines.{lines_of}
use Rattle.wire_machine.specs.Steps.{after_steps}
use Rattle.wire_run.specs.declared.fresh.Unmade.{Unmade}
use Rattle.wire_run.specs.declared.fresh.Unmade.TheVariants as unmade
use Rattle.wire_run.specs.declared.run.Ran.{Ran}
use Rattle.wire_run.specs.declared.run.Ran.TheVariants as ran
use Rattle.std.specs.List.{list_any}
use Rattle.std.specs.Option.{option_or}
use Rattle.copy_model.specs.Volume.{Volume}
use Rattle.nfs_base.specs.declared.side.Side.{Side}
use Rattle.nfs_base.specs.declared.side.Side.TheVariants.{Source, Dest}
use Rattle.streams.specs.Sink.{AppendsFront}
use Rattle.wire_machine.specs.Check.{Reading}
use Rattle.wire_machine.specs.Runs.{End, MistakenBy, Numbered, Runs, TooLargeAt, Whole, last_line}
use Rattle.wire_machine.specs.declared.choice.Choice.{Choice}
use Rattle.wire_machine.specs.declared.choice.Choice.TheVariants.{Stopped}
use Rattle.run_ends.specs.First.{IsFirst, shape_by}
use Rattle.wire_run.specs.Asked.{StopsAreAsked}
use Rattle.wire_run.specs.Fresh.{Small, event_small}
use Rattle.wire_run.specs.Running.{Later, Running, disk_of, failed_calls, failed_steps, faults_in, size_in}
use Rattle.run_ends.specs.Ends.{RunMachines, RunStep, RunWorld}
use Rattle.wire_run.specs.System.{shown_at}
use Rattle.wire_run.specs.Watching.{no_side}
use Rattle.wire_schedule.specs.declared.event.Event.{Event}
use Rattle.wire_schedule.specs.declared.event.Event.TheVariants as kinds

-- the first volume of a schedule for which its disk is too small
abbrev pub first_small : (source dest : ℕ) → List Numbered → Option Small
first_small source dest [] = None
first_small source dest (e ∷ events) = option_or (event_small source dest e.event) (first_small source dest events)

-- a schedule asks for a server
abbrev pub asks_for : Side → List Numbered → Bool
asks_for side events = list_any (λ (e : Numbered). is_some (shape_by side e.event)) events

-- ---- the run of a schedule: these small steps, this end, and these bytes

-- the volumes of both servers
pub record Volumes : Type 0 where
  pub source : Volume
  pub dest : Volume

abbrev pub volume_in : Volumes → Side → Volume
volume_in last Source = last.source
volume_in last Dest = last.dest

abbrev pub volumes_of : {M : Type 0} → RunMachines M → RunWorld M → Volumes
volumes_of m w = record { source = m.source_volume w.source; dest = m.dest_volume w.dest }

-- what the disks did: in each small step, and how many calls failed on each server's disk
pub record Did : Type 0 where
  pub choices : List Choice
  pub failed : Side → ℕ

pub record ScheduleRuns {M : Type 0} (m : RunMachines M) (read : Reading) (mech : M) (events : List Numbered)
    (did : Did) (end : End) (lines : List ℕ) (records : ℕ) (last : Volumes) : Type 0 where
  pub first : RunWorld M
  pub is_first : IsFirst mech events first
  pub steps : List (RunStep M)
  pub runs : Runs m read first events steps end
  pub asked : StopsAreAsked no_side first steps
  pub choices : did.choices ≡ map (λ (s : RunStep M). s.choice) steps
  pub failed : (side : Side) → did.failed side ≡ failed_calls side steps
  pub lines_are : lines ≡ lines_text (lines_of m first steps)
  pub records_are : records ≡ length (after_steps first steps).log
  pub last_are : last ≡ volumes_of m (after_steps first steps)

-- Some of it: a front of what the first so many events put.
pub record RunsFront {M : Type 0} (m : RunMachines M) (read : Reading) (mech : M) (events : List Numbered)
    (did : Did) (old new : Option (List ℕ)) : Type 0 where
  pub done : ℕ
  pub end : End
  pub lines : List ℕ
  pub records : ℕ
  pub last : Volumes
  pub runs : ScheduleRuns m read mech (take done events) did end lines records last
  pub puts : AppendsFront old new (lines ++ last_line records end)

-- All of its lines, with the last where it is whole: one that ends otherwise leaves its last line to be put.
abbrev pub put_by : End → (lines : List ℕ) → (records : ℕ) → List ℕ
put_by Whole lines records = lines ++ last_line records Whole
put_by end lines records = lines

pub record RunsTo {M : Type 0} (m : RunMachines M) (read : Reading) (mech : M) (events : List Numbered)
    (did : Did) (end : End) (last : Volumes) (old new : Option (List ℕ)) : Type 0 where
  pub lines : List ℕ
  pub records : ℕ
  pub runs : ScheduleRuns m read mech events did end lines records last
  pub puts : Appends old new (put_by end lines records)

-- These are all lines of the first so many events.
pub record IsBefore {M : Type 0} (m : RunMachines M) (read : Reading) (mech : M) (events : List Numbered) (lines : List ℕ) : Type 0 where
  pub done : ℕ
  pub did : Did
  pub records : ℕ
  pub last : Volumes
  pub runs : ScheduleRuns m read mech (take done events) did Whole lines records last

-- ---- servers that stop

-- a schedule stops a server, or sets a fuse
abbrev pub stops_server : Event → Bool
stops_server (kinds.Crash side pick) = true
stops_server (kinds.CrashAfter side calls pick) = true
stops_server event = false

abbrev pub stops_in : List Numbered → Bool
stops_in events = list_any (λ (e : Numbered). stops_server e.event) events

-- why a server is lost that couldn't be opened anew
abbrev pub CanLose : (told : Type 0) → Unmade → Type 0
CanLose told unmade.DiskFailed = Unit {0}
CanLose told (unmade.TooSmall need have) = ⊥
CanLose told (unmade.NotVolume block at) = told → ⊥

-- no small step stopped one
abbrev pub is_stop : Choice → Bool
is_stop (Stopped kept) = true
is_stop choice = false

-- ---- how a run ended, by its answer; a whole one has as many records as there are then

-- a disk is too small: it is as it was handed in, and nothing was put
pub record RanShort {D M : Type 0} (small : Option Small) (old new : Running D M) (taken now_taken : Option (List ℕ)) (need have : ℕ) : Type 0 where
  pub side : Side
  pub is : small ≡ Some (record { side = side; need = need; have = have })
  pub puts : Keeps taken now_taken
  pub untouched : disk_of new side ≡ disk_of old side

abbrev pub RanPuts : {D M : Type 0} → (told : Type 0) → RunMachines M → Reading → M → Option Small → List Numbered → Did → Volumes → Running D M → Running D M
    → Option (List ℕ) → Option (List ℕ) → Ran → Type 0
RanPuts told m read mech small events did last old new taken now_taken ran.Whole =
    (small ≡ None) × (told → (all : RunsTo m read mech events did Whole last taken now_taken) × (all.records ≡ length new.log))
RanPuts told m read mech small events did last old new taken now_taken (ran.OverLimit line) = told → RunsTo m read mech events did (TooLargeAt line) last taken now_taken
RanPuts told m read mech small events did last old new taken now_taken (ran.Mistaken mistake) = told → RunsTo m read mech events did (MistakenBy mistake) last taken now_taken
RanPuts told m read mech small events did last old new taken now_taken ran.WriteFault = told → RunsFront m read mech events did taken now_taken
RanPuts told m read mech small events did last old new taken now_taken (ran.Unmade unmade.DiskFailed) = Keeps taken now_taken
RanPuts told m read mech small events did last old new taken now_taken (ran.Unmade (unmade.TooSmall need have)) = RanShort small old new taken now_taken need have
RanPuts told m read mech small events did last old new taken now_taken (ran.Unmade (unmade.NotVolume block at)) = (told → ⊥) × Keeps taken now_taken
RanPuts told m read mech small events did last old new taken now_taken (ran.Lost cause) =
    CanLose told cause × (stops_in events ≡ true) × (lines : List ℕ) × Appends taken now_taken lines × (told → IsBefore m read mech events lines)

-- A write fault comes only where the sink's count rose, and a failure to make a volume only where a disk's did.
abbrev pub RanHasCause : {D M : Type 0} → (faults : D → ℕ) → Running D M → Running D M → (before now : ℕ) → Ran → Type 0
RanHasCause faults old new before now ran.WriteFault = Rose before now
RanHasCause faults old new before now (ran.Unmade unmade.DiskFailed) =
    Rose (faults_in faults old.source) (faults_in faults new.source) ⊎ Rose (faults_in faults old.dest) (faults_in faults new.dest)
RanHasCause faults old new before now (ran.Lost unmade.DiskFailed) =
    Rose (faults_in faults old.source) (faults_in faults new.source) ⊎ Rose (faults_in faults old.dest) (faults_in faults new.dest)
RanHasCause faults old new before now result = Unit {0}

-- How a run ended, with its own choices. Of any disks, each small step in which a call failed is one at a disk, and as often as a call
-- failed at a disk its count of faults rose.
pub record RanIs {D M : Type 0} (told : Type 0) (m : RunMachines M) (read : Reading) (faults size : D → ℕ) (mech : M) (events : List Numbered) (old new : Running D M)
    (taken now_taken : Option (List ℕ)) (result : Ran) : Type 0 where
  pub did : Did
  pub last : Volumes
  pub holds : told → result ≡ ran.Whole → (side : Side) → asks_for side events ≡ true → shown_at new.source_state new.dest_state side ≡ Some (volume_in last side)
  pub choices : new.choices ≡ did.choices
  pub asked : stops_in events ≡ false → list_any (λ (choice : Choice). is_stop choice) did.choices ≡ false
  pub blamed : failed_steps did.choices ≤ did.failed Source + did.failed Dest
  pub source : Later faults size (did.failed Source) old.source new.source
  pub dest : Later faults size (did.failed Dest) old.dest new.dest
  pub puts : RanPuts told m read mech (first_small (size_in size old.source) (size_in size old.dest) events) events did last old new taken now_taken result

-- Memory ran out in a run: a front of what is due was put.
pub record RanOut {M : Type 0} (told : Type 0) (m : RunMachines M) (read : Reading) (mech : M) (events : List Numbered) (old new : Option (List ℕ)) : Type 0 where
  pub did : Did
  pub puts : told → RunsFront m read mech events did old new
