-- What contracts see of a system that runs a schedule, and what one event leaves of it.
use Rattle.std.specs.Prelude.{◌≡◌, ◌⊎◌, ◌≤◌, ◌+◌, ◌||◌, ℕ, Bool, true, false, List, [], ◌++◌, length, map, count_by, Option, Some, None, is_some}
use Rattle.std.specs.String.{string_bytes}
use Rattle.client_core.specs.State.{ClientState, new_client}
use Rattle.nfs_base.specs.declared.side.Side.{Side}
use Rattle.nfs_base.specs.declared.side.Side.TheVariants.{Source, Dest}
use Rattle.outcome.specs.Causes.{Rose, RoseBy}
use Rattle.wire_lines.specs.LineText.{lines_text}
use Rattle.wire_machine.specs.Check.{Reading}
use Rattle.wire_machine.specs.declared.choice.Choice.{Choice}
use Rattle.wire_machine.specs.declared.choice.Choice.TheVariants.{Failed}
use Rattle.wire_machine.specs.Lines.{lines_of}
use Rattle.wire_machine.specs.Runs.{EventGoes, Fault, Goes, Mistaken, TooLarge}
use Rattle.wire_machine.specs.Steps.{NeverStops, Step, after_steps, any_failed, same_side, small_steps}
use Rattle.wire_machine.specs.World.{Posted, World}
use Rattle.wire_run.specs.Asked.{StopsAreAsked, fuses_behind}
use Rattle.wire_run.specs.declared.system.Stepped.{Stepped}
use Rattle.wire_run.specs.declared.system.Stepped.TheVariants as stepped
use Rattle.dest_core.specs.Stepping.{DestState}
use Rattle.run_ends.specs.Ends.{RunMachines, RunStep, RunWorld, SourceState}
use Rattle.run_ends.specs.First.{IsFreshDest, IsFreshSource, Shape}
use Rattle.wire_run.specs.Fresh.{event_small}
use Rattle.run_ends.specs.Setting.{dest_place, source_place, user}
use Rattle.wire_run.specs.Watching.{crashes_in, sets_in}
use Rattle.wire_run.specs.declared.fresh.Unmade.{Unmade}
use Rattle.wire_run.specs.declared.fresh.Unmade.TheVariants as unmade
use Rattle.wire_schedule.specs.Admission.{after, at_start}
use Rattle.wire_schedule.specs.declared.context.Context.{Context}
use Rattle.wire_schedule.specs.declared.event.Event.{Event}
use Rattle.wire_schedule.specs.declared.event.Event.TheVariants as kinds

-- What the events so far leave open; the two disks, on their own or under a server; both servers, from their lines on; whether a
-- fuse is set at the disk of each; the client, the draws, the clock, all records, and what the disks did in each small step.
pub record Running (D M : Type 0) : Type 0 where
  pub context : Context
  pub source : Option D
  pub dest : Option D
  pub source_state : Option (SourceState M)
  pub dest_state : Option (DestState M)
  pub source_armed : Bool
  pub dest_armed : Bool
  pub client : ClientState M
  pub draws : ℕ
  pub clock : ℕ
  pub log : List Posted
  pub choices : List Choice

-- the world, once both servers are there
abbrev pub world_of : {M : Type 0} → SourceState M → DestState M → ClientState M → (draws clock : ℕ) → List Posted → List Choice → RunWorld M
world_of source dest client draws clock log choices = record {
  source = source;
  dest = dest;
  client = client;
  draws = draws;
  clock = clock;
  steps = length choices;
  log = log;
}

abbrev pub world_by : {D M : Type 0} → Option (SourceState M) → Option (DestState M) → Running D M → Option (RunWorld M)
world_by (Some source) (Some dest) r = Some (world_of source dest r.client r.draws r.clock r.log r.choices)
world_by source dest r = None

abbrev pub world_in : {D M : Type 0} → Running D M → Option (RunWorld M)
world_in r = world_by r.source_state r.dest_state r

-- before the first event, with these disks
abbrev pub at_rest : {D M : Type 0} → M → Option D → Option D → Running D M
at_rest mech source dest = record {
  context = at_start;
  source = source;
  dest = dest;
  source_state = None;
  dest_state = None;
  source_armed = false;
  dest_armed = false;
  client = new_client (record { mech = mech; me = user; source = source_place; dest = dest_place });
  draws = 0;
  clock = 0;
  log = [];
  choices = [];
}

-- a server's disk
abbrev pub disk_of : {D M : Type 0} → Running D M → Side → Option D
disk_of r Source = r.source
disk_of r Dest = r.dest

-- a fuse is set at it
abbrev pub armed_of : {D M : Type 0} → Running D M → Side → Bool
armed_of r Source = r.source_armed
armed_of r Dest = r.dest_armed

-- a server is there
abbrev pub is_there : {D M : Type 0} → Running D M → Side → Bool
is_there r Source = is_some r.source_state
is_there r Dest = is_some r.dest_state

-- the mechanism is the client's
abbrev pub mech_of : {D M : Type 0} → Running D M → M
mech_of r = r.client.setting.mech

-- both disks are there, on their own or under a server
pub record HasDisks {D M : Type 0} (r : Running D M) : Type 0 where
  pub source_there : is_some r.source ≡ true
  pub dest_there : is_some r.dest ≡ true

-- ---- how often calls failed on a server's disk

abbrev pub failed_at : {M : Type 0} → Side → RunStep M → Bool
failed_at Source s = any_failed s.parts.source.out.used
failed_at Dest s = any_failed s.parts.dest.out.used

-- a peek that fails is one call more
abbrev pub peek_failed : Side → Event → Choice → Bool
peek_failed side (kinds.Peek at file off len) Failed = same_side side at
peek_failed side event choice = false

abbrev pub either : Bool → Bool → Bool
either true other = true
either false other = other

abbrev pub has_failed_at : {M : Type 0} → Side → RunStep M → Bool
has_failed_at side s = either (failed_at side s) (peek_failed side s.event s.choice)

abbrev pub failed_calls : {M : Type 0} → Side → List (RunStep M) → ℕ
failed_calls {M} side steps = count_by (λ (s : RunStep M). has_failed_at side s) steps

-- in how many small steps a call failed
abbrev pub is_failed : Choice → Bool
is_failed Failed = true
is_failed choice = false

abbrev pub failed_steps : List Choice → ℕ
failed_steps choices = count_by (λ (choice : Choice). is_failed choice) choices

-- each small step in which a call failed is one at a server's disk
abbrev pub AreBlamed : {M : Type 0} → List (RunStep M) → Type 0
AreBlamed {M} steps = failed_steps (map (λ (s : RunStep M). s.choice) steps) ≤ failed_calls Source steps + failed_calls Dest steps

-- a disk that was there is there, as large, and its count of faults rose by at least so many
abbrev pub faults_in : {D : Type 0} → (D → ℕ) → Option D → ℕ
faults_in faults None = 0
faults_in faults (Some d) = faults d

-- how many blocks it has
abbrev pub size_in : {D : Type 0} → (D → ℕ) → Option D → ℕ
size_in size None = 0
size_in size (Some d) = size d

pub record Later {D : Type 0} (faults size : D → ℕ) (n : ℕ) (old new : Option D) : Type 0 where
  pub there : is_some new ≡ is_some old
  pub rose : RoseBy n (faults_in faults old) (faults_in faults new)
  pub as_large : size_in size new ≡ size_in size old

-- ---- what an event leaves

abbrev pub fault_in : Stepped → Option Fault
fault_in (stepped.Went text) = None
fault_in (stepped.OverLimit text) = Some TooLarge
fault_in (stepped.Mistaken text mistake) = Some (Mistaken mistake)
fault_in (stepped.Unmade cause) = None
fault_in (stepped.Lost side cause) = None

abbrev pub text_in : Stepped → List ℕ
text_in (stepped.Went text) = string_bytes text
text_in (stepped.OverLimit text) = string_bytes text
text_in (stepped.Mistaken text mistake) = string_bytes text
text_in (stepped.Unmade cause) = []
text_in (stepped.Lost side cause) = []

-- no server is made in it, and none is lost
abbrev pub MakesNone : Stepped → Type 0
MakesNone (stepped.Unmade cause) = ⊥
MakesNone (stepped.Lost side cause) = ⊥
MakesNone result = Unit {0}

-- a server may stop in an event: its fuse is set, or the event is its crash
abbrev pub is_asked : {D M : Type 0} → Running D M → Side → Event → Bool
is_asked r side event = armed_of r side || crashes_in event side

-- An event of two servers that are there was carried out, up to its end or to a fault: these small steps were done. They are
-- those of the machines and have these lines, where the disks tell what they hold. Of any disks, each in which a call failed is one at
-- a disk, and as often as a call failed at a disk its count of faults rose. After a fault nothing is said of the world.
pub record IsCarriedOut {D M : Type 0} (told : Type 0) (m : RunMachines M) (read : Reading) (faults size : D → ℕ) (old new : Running D M) (before : RunWorld M)
    (event : Event) (result : Stepped) : Type 0 where
  pub made : MakesNone result
  pub steps : List (RunStep M)
  pub goes : told → EventGoes m read before event steps (fault_in result)
  pub world : fault_in result ≡ None → world_in new ≡ Some (after_steps before steps)
  pub lines : told → text_in result ≡ lines_text (lines_of m before steps)
  pub choices : new.choices ≡ old.choices ++ map (λ (s : RunStep M). s.choice) steps
  pub asked : (side : Side) → is_asked old side event ≡ false → NeverStops side before steps
  pub stops : (fuses : Side → Bool) → ((side : Side) → armed_of old side ≡ true → fuses side ≡ true) → StopsAreAsked fuses before steps
  pub sets : fault_in result ≡ None → (fuses : Side → Bool) (side : Side) → sets_in event side ≡ true → fuses_behind fuses steps side ≡ true
  pub blamed : AreBlamed steps
  pub source_later : Later faults size (failed_calls Source steps) old.source new.source
  pub dest_later : Later faults size (failed_calls Dest steps) old.dest new.dest

-- Or a server stopped in it that couldn't be opened anew, and isn't there any more: these small steps were done before. Of a disk that
-- tells what it holds, only a failure of it brings that.
abbrev pub LostFor : {D : Type 0} → (told : Type 0) → (D → ℕ) → (old new : Option D) → Unmade → Type 0
LostFor told faults old new unmade.DiskFailed = Rose (faults_in faults old) (faults_in faults new)
LostFor told faults old new (unmade.TooSmall need have) = ⊥
LostFor told faults old new (unmade.NotVolume block at) = told → ⊥

pub record IsLost {D M : Type 0} (told : Type 0) (m : RunMachines M) (read : Reading) (faults size : D → ℕ) (old new : Running D M) (before : RunWorld M)
    (event : Event) (side : Side) (cause : Unmade) : Type 0 where
  pub why : LostFor told faults (disk_of old side) (disk_of new side) cause
  pub gone : is_there new side ≡ false
  pub done : List Event
  pub rest : List Event
  pub are : small_steps before event ≡ done ++ rest
  pub steps : List (RunStep M)
  pub goes : told → Goes m read before done steps None
  pub choices : new.choices ≡ old.choices ++ map (λ (s : RunStep M). s.choice) steps
  pub asked : is_asked old side event ≡ true
  pub never : (other : Side) → is_asked old other event ≡ false → NeverStops other before steps
  pub blamed : AreBlamed steps
  pub source_later : Later faults size (failed_calls Source steps) old.source new.source
  pub dest_later : Later faults size (failed_calls Dest steps) old.dest new.dest

abbrev pub Became : {D M : Type 0} → (told : Type 0) → RunMachines M → Reading → (faults size : D → ℕ) → (old new : Running D M) → (before : RunWorld M) → Event
    → Stepped → Type 0
Became told m read faults size old new before event (stepped.Lost side cause) = IsLost told m read faults size old new before event side cause
Became told m read faults size old new before event result = IsCarriedOut told m read faults size old new before event result

-- No fuse is set but by its line.
abbrev pub ArmsRight : {D M : Type 0} → (old new : Running D M) → Event → Type 0
ArmsRight old new event = (side : Side) → armed_of new side ≡ true → (armed_of old side || sets_in event side) ≡ true

-- ---- an event that makes a server

-- the server is there, and was just opened on a volume that was just formatted
abbrev pub IsMadeAt : {D M : Type 0} → (told : Type 0) → M → Shape → Side → Running D M → Type 0
IsMadeAt {M = M} told mech shape Source r = (s : SourceState M) × (r.source_state ≡ Some s) × (told → IsFreshSource mech shape s)
IsMadeAt {M = M} told mech shape Dest r = (s : DestState M) × (r.dest_state ≡ Some s) × (told → IsFreshDest mech shape s)

-- the rest is as it was
abbrev pub KeepsAt : {D M : Type 0} → Side → Running D M → Running D M → Type 0
KeepsAt Source old new = new ≡ record old { context = new.context; source = new.source; source_state = new.source_state }
KeepsAt Dest old new = new ≡ record old { context = new.context; dest = new.dest; dest_state = new.dest_state }

-- its disk is too small, and nothing was done
pub record LacksRoom {D M : Type 0} (size : D → ℕ) (old new : Running D M) (event : Event) (need have : ℕ) : Type 0 where
  pub side : Side
  pub small : event_small (size_in size old.source) (size_in size old.dest) event ≡ Some (record { side = side; need = need; have = have })
  pub untouched : new ≡ old

-- why a server isn't made
abbrev pub UnmadeFor : {D M : Type 0} → (told : Type 0) → (faults size : D → ℕ) → Running D M → Running D M → Event → Unmade → Type 0
UnmadeFor told faults size old new event unmade.DiskFailed =
    Rose (faults_in faults old.source) (faults_in faults new.source) ⊎ Rose (faults_in faults old.dest) (faults_in faults new.dest)
UnmadeFor told faults size old new event (unmade.TooSmall need have) = LacksRoom size old new event need have
UnmadeFor told faults size old new event (unmade.NotVolume block at) = told → ⊥

abbrev pub VolumeIs : {D M : Type 0} → (told : Type 0) → (faults size : D → ℕ) → M → Side → Shape → Running D M → Running D M → Event → Stepped → Type 0
VolumeIs told faults size mech side shape old new event (stepped.Went text) =
    (string_bytes text ≡ []) × KeepsAt side old new × (event_small (size_in size old.source) (size_in size old.dest) event ≡ None)
    × IsMadeAt told mech shape side new × Later faults size 0 old.source new.source × Later faults size 0 old.dest new.dest
VolumeIs told faults size mech side shape old new event (stepped.Unmade cause) =
    UnmadeFor told faults size old new event cause × Later faults size 0 old.source new.source × Later faults size 0 old.dest new.dest
    × (new.choices ≡ old.choices)
VolumeIs told faults size mech side shape old new event result = ⊥

-- What became of an event, by what it is.
abbrev pub StepIs : {D M : Type 0} → (told : Type 0) → RunMachines M → Reading → (faults size : D → ℕ) → M → Running D M → Running D M → Event → Stepped → Type 0
StepIs told m read faults size mech old new (kinds.Volume side files blocks) result =
    VolumeIs told faults size mech side (record { files = files; blocks = blocks }) old new (kinds.Volume side files blocks) result
StepIs {M = M} told m read faults size mech old new event result =
    (before : RunWorld M) → world_in old ≡ Some before → Became told m read faults size old new before event result

-- a server isn't there any more
abbrev pub without : Side → Context → Context
without Source context = record context { source = None }
without Dest context = record context { dest = None }

-- the events so far, with this one as the last; a server that wasn't made is none of them
abbrev pub context_after : Context → Event → Stepped → Context
context_after context event (stepped.Unmade cause) = context
context_after context event (stepped.Lost side cause) = without side (after context event)
context_after context event result = after context event
