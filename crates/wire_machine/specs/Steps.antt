-- The small steps of a run: one delivery, one worker's step, one look at the clock, one command of the client, one peek, one stop of
-- a server.
-- Own definitions.
use Rattle.std.specs.Prelude.{◌≡◌, ℕ, ◌+◌, ◌||◌, Bool, true, false, List, [], ◌∷◌, Option, Some, None, map, if◌then◌else◌}
use Rattle.std.specs.List.{list_any}
use Rattle.nfs_base.specs.declared.side.Side.{Side}
use Rattle.nfs_base.specs.declared.side.Side.TheVariants as sides
use Rattle.outbox.specs.declared.outgoing.Outbox.{Outbox}
use Rattle.server_volume.specs.declared.used.CallAnswer.{CallAnswer}
use Rattle.server_volume.specs.declared.used.CallAnswer.TheVariants as answers
use Rattle.server_volume.specs.declared.used.Used.{Used}
use Rattle.volume_stops.specs.declared.kept.Kept.{Kept}
use Rattle.wire_lines.specs.declared.letters.Speaker.{Speaker}
use Rattle.wire_lines.specs.declared.letters.Speaker.TheVariants as speakers
use Rattle.wire_schedule.specs.declared.event.Event.{Event}
use Rattle.wire_schedule.specs.declared.event.Event.TheVariants as events
use Rattle.wire_machine.specs.declared.choice.Choice.{Choice}
use Rattle.wire_machine.specs.declared.choice.Choice.TheVariants.{Went, Failed, Stopped}
use Rattle.wire_machine.specs.declared.port.Port.{Port}
use Rattle.wire_machine.specs.declared.port.Port.TheVariants as ports
use Rattle.wire_machine.specs.Ends.{ClientAct, DestAct, Machines, SourceAct}
use Rattle.wire_machine.specs.Ends as acts
use Rattle.wire_machine.specs.World.{Parts, Posted, World, all_idle, marked, posted_at, waiting, with_parts}

-- ---- which small steps an event is: a flow is fixed when it begins. A volume's line is none.

abbrev pub small_steps : {S T C W : Type 0} → World S T C W → Event → List Event
small_steps w events.Flow = map events.Deliver (waiting w.log)
small_steps w (events.Volume side files blocks) = []
small_steps w event = event ∷ []

-- ---- what the disks did in a small step

abbrev pub has_failed : CallAnswer → Bool
has_failed answers.Done = false
has_failed answers.DiskFailed = true
has_failed answers.Refused = false

abbrev pub any_failed : List Used → Bool
any_failed calls = list_any (λ (used : Used). has_failed used.answer) calls

abbrev pub choice_of : Parts → Choice
choice_of parts = if any_failed parts.source.out.used || any_failed parts.dest.out.used then Failed else Went

-- ---- which commands there are for the client

abbrev pub command_of : Event → Option ClientAct
command_of (events.Write side file off bytes) = Some (acts.Writes side file off bytes)
command_of (events.Commit side file) = Some (acts.Commits side file)
command_of (events.Copy copy spec) = Some (acts.Begins copy spec)
command_of (events.Status copy) = Some (acts.Asks copy)
command_of (events.Cancel copy) = Some (acts.Cancels copy)
command_of events.Retry = Some acts.Retries
command_of event = None

-- ---- one end acts, and the others rest

abbrev pub source_part : Option (List ℕ) → Outbox → Parts
source_part took out = record all_idle { source = record { took = took; speaker = speakers.Source; out = out } }

abbrev pub dest_part : Speaker → Option (List ℕ) → Outbox → Parts
dest_part speaker took out = record all_idle { dest = record { took = took; speaker = speaker; out = out } }

abbrev pub client_part : Option (List ℕ) → Outbox → Parts
client_part took out = record all_idle { client = record { took = took; speaker = speakers.Client; out = out } }

module _ {S T C W : Type 0} (m : Machines S T C W) where
  pub record SourceDoes (act : SourceAct) (took : Option (List ℕ)) (before : World S T C W) (parts : Parts) (after : World S T C W) : Type 0 where
    pub source : S
    pub draws : W
    pub out : Outbox
    pub acts : m.source act before.clock before.source before.draws source draws out
    pub parts_are : parts ≡ source_part took out
    pub after_is : after ≡ with_parts m parts (record before { source = source; draws = draws })

  pub record DestDoes (act : DestAct) (speaker : Speaker) (took : Option (List ℕ)) (before : World S T C W) (parts : Parts) (after : World S T C W) : Type 0 where
    pub dest : T
    pub draws : W
    pub out : Outbox
    pub acts : m.dest act before.clock before.dest before.draws dest draws out
    pub parts_are : parts ≡ dest_part speaker took out
    pub after_is : after ≡ with_parts m parts (record before { dest = dest; draws = draws })

  pub record ClientDoes (act : ClientAct) (took : Option (List ℕ)) (before : World S T C W) (parts : Parts) (after : World S T C W) : Type 0 where
    pub client : C
    pub draws : W
    pub out : Outbox
    pub acts : m.client act before.clock before.client before.draws client draws out
    pub parts_are : parts ≡ client_part took out
    pub after_is : after ≡ with_parts m parts (record before { client = client; draws = draws })

  -- A server stops in an act, and is opened anew: it took what it took and drew what it drew.
  pub record SourceStops (act : SourceAct) (took : Option (List ℕ)) (kept : Kept) (before : World S T C W) (parts : Parts) (after : World S T C W) : Type 0 where
    pub source : S
    pub draws : W
    pub out : Outbox
    pub stops : m.source_stops act before.clock before.source before.draws source draws out kept
    pub parts_are : parts ≡ source_part took out
    pub after_is : after ≡ with_parts m parts (record before { source = source; draws = draws })

  pub record DestStops (act : DestAct) (speaker : Speaker) (took : Option (List ℕ)) (kept : Kept) (before : World S T C W) (parts : Parts) (after : World S T C W) : Type 0 where
    pub dest : T
    pub draws : W
    pub out : Outbox
    pub stops : m.dest_stops act before.clock before.dest before.draws dest draws out kept
    pub parts_are : parts ≡ dest_part speaker took out
    pub after_is : after ≡ with_parts m parts (record before { dest = dest; draws = draws })

  -- or between two acts
  pub record SourceCrashes (kept : Kept) (before : World S T C W) (parts : Parts) (after : World S T C W) : Type 0 where
    pub source : S
    pub crashes : m.source_crashes before.source source kept
    pub parts_are : parts ≡ all_idle
    pub after_is : after ≡ with_parts m parts (record before { source = source })

  pub record DestCrashes (kept : Kept) (before : World S T C W) (parts : Parts) (after : World S T C W) : Type 0 where
    pub dest : T
    pub crashes : m.dest_crashes before.dest dest kept
    pub parts_are : parts ≡ all_idle
    pub after_is : after ≡ with_parts m parts (record before { dest = dest })

  abbrev pub CrashesAt : Side → Kept → World S T C W → Parts → World S T C W → Type 0
  CrashesAt sides.Source kept before parts after = SourceCrashes kept before parts after
  CrashesAt sides.Dest kept before parts after = DestCrashes kept before parts after

  -- nobody does anything
  abbrev pub AllRest : World S T C W → Parts → World S T C W → Type 0
  AllRest before parts after = (parts ≡ all_idle) × (after ≡ with_parts m parts before)

  -- ---- a record is delivered; a number under which none was sent is delivered to nobody

  abbrev pub Arrives : Option Port → List ℕ → World S T C W → Parts → World S T C W → Type 0
  Arrives None bytes before parts after = AllRest before parts after
  Arrives (Some (ports.Source conn)) bytes before parts after = SourceDoes (acts.SourceTakes conn bytes) (Some bytes) before parts after
  Arrives (Some ports.Dest) bytes before parts after = DestDoes (acts.DestTakes 0 bytes) speakers.Dest (Some bytes) before parts after
  Arrives (Some (ports.Worker worker)) bytes before parts after = DestDoes (acts.Hears worker bytes) speakers.Worker (Some bytes) before parts after
  Arrives (Some (ports.Client from)) bytes before parts after = ClientDoes (acts.ClientTakes from bytes) (Some bytes) before parts after

  abbrev pub IsDelivered : (number : ℕ) → Option Posted → World S T C W → Parts → World S T C W → Type 0
  IsDelivered number None before parts after = AllRest before parts after
  IsDelivered number (Some r) before parts after = Arrives r.port r.bytes (record before { log = marked number before.log }) parts after

  -- the server to which it is delivered stops in taking it
  abbrev pub StopsTaking : Option Port → List ℕ → Kept → World S T C W → Parts → World S T C W → Type 0
  StopsTaking None bytes kept before parts after = ⊥
  StopsTaking (Some (ports.Source conn)) bytes kept before parts after = SourceStops (acts.SourceTakes conn bytes) (Some bytes) kept before parts after
  StopsTaking (Some ports.Dest) bytes kept before parts after = DestStops (acts.DestTakes 0 bytes) speakers.Dest (Some bytes) kept before parts after
  StopsTaking (Some (ports.Worker worker)) bytes kept before parts after = DestStops (acts.Hears worker bytes) speakers.Worker (Some bytes) kept before parts after
  StopsTaking (Some (ports.Client from)) bytes kept before parts after = ⊥

  abbrev pub StopsDelivered : (number : ℕ) → Option Posted → Kept → World S T C W → Parts → World S T C W → Type 0
  StopsDelivered number None kept before parts after = ⊥
  StopsDelivered number (Some r) kept before parts after = StopsTaking r.port r.bytes kept (record before { log = marked number before.log }) parts after

  -- ---- the clock moves on, and each end looks at it; no end draws then

  abbrev pub tick_parts : (source dest client : Outbox) → Parts
  tick_parts source dest client = record {
    source = record { took = None; speaker = speakers.Source; out = source };
    dest = record { took = None; speaker = speakers.Dest; out = dest };
    client = record { took = None; speaker = speakers.Client; out = client };
  }

  pub record AllTick (seconds : ℕ) (before : World S T C W) (parts : Parts) (after : World S T C W) : Type 0 where
    pub source : S
    pub dest : T
    pub client : C
    pub source_out : Outbox
    pub dest_out : Outbox
    pub client_out : Outbox
    pub source_ticks : m.source acts.SourceTicks (before.clock + seconds) before.source before.draws source before.draws source_out
    pub dest_ticks : m.dest acts.DestTicks (before.clock + seconds) before.dest before.draws dest before.draws dest_out
    pub client_ticks : m.client acts.ClientTicks (before.clock + seconds) before.client before.draws client before.draws client_out
    pub parts_are : parts ≡ tick_parts source_out dest_out client_out
    pub after_is : after ≡ with_parts m parts (record before { source = source; dest = dest; client = client; clock = before.clock + seconds })

  -- ---- a small step. A command is the client's.

  abbrev pub IsCommanded : Option ClientAct → World S T C W → Parts → World S T C W → Type 0
  IsCommanded None before parts after = ⊥
  IsCommanded (Some act) before parts after = ClientDoes act None before parts after

  abbrev pub IsSmall : Event → World S T C W → Parts → World S T C W → Type 0
  IsSmall (events.Deliver number) before parts after = IsDelivered number (posted_at number before.log) before parts after
  IsSmall (events.Work worker) before parts after = DestDoes (acts.Works worker) speakers.Dest None before parts after
  IsSmall (events.Tick seconds) before parts after = AllTick seconds before parts after
  IsSmall (events.Peek side file off len) before parts after = AllRest before parts after
  IsSmall (events.CrashAfter side calls pick) before parts after = AllRest before parts after
  IsSmall event before parts after = IsCommanded (command_of event) before parts after

  -- A small step in which a server stops. No look at the clock, no peek and no command makes a call that a stop could meet.
  abbrev pub IsCut : Event → Kept → World S T C W → Parts → World S T C W → Type 0
  IsCut (events.Deliver number) kept before parts after = StopsDelivered number (posted_at number before.log) kept before parts after
  IsCut (events.Work worker) kept before parts after = DestStops (acts.Works worker) speakers.Dest None kept before parts after
  IsCut (events.Crash side pick) kept before parts after = CrashesAt side kept before parts after
  IsCut event kept before parts after = ⊥

  -- a small step, by what the disks did in it
  abbrev pub IsMade : Choice → Event → World S T C W → Parts → World S T C W → Type 0
  IsMade Went event before parts after = IsSmall event before parts after
  IsMade Failed event before parts after = IsSmall event before parts after
  IsMade (Stopped kept) event before parts after = IsCut event kept before parts after

  -- what the disks may do in it: a peek makes a call of its own, which may fail
  abbrev pub IsChoice : Event → Parts → Choice → Type 0
  IsChoice event parts (Stopped kept) = Unit {0}
  IsChoice (events.Peek side file off len) parts choice = Unit {0}
  IsChoice event parts choice = choice ≡ choice_of parts

-- A small step as it was made: which it was, what the disks did in it, what each end did, and what there was afterwards.
pub record Step (S T C W : Type 0) : Type 0 where
  pub event : Event
  pub choice : Choice
  pub parts : Parts
  pub after : World S T C W

pub record IsStep {S T C W : Type 0} (m : Machines S T C W) (before : World S T C W) (s : Step S T C W) : Type 0 where
  pub small : IsMade m s.choice s.event before s.parts s.after
  pub choice : IsChoice m s.event s.parts s.choice

-- ---- which server stops in a step, if one does: the one that takes the record, and else the destination, whose worker works, or the
-- one that is named

abbrev pub side_at : Option Port → Side
side_at (Some (ports.Source conn)) = sides.Source
side_at port = sides.Dest

abbrev pub port_in : Option Posted → Option Port
port_in None = None
port_in (Some r) = r.port

abbrev pub stops_at : Event → List Posted → Side
stops_at (events.Crash side pick) log = side
stops_at (events.Deliver number) log = side_at (port_in (posted_at number log))
stops_at event log = sides.Dest

abbrev pub same_side : Side → Side → Bool
same_side sides.Source sides.Source = true
same_side sides.Dest sides.Dest = true
same_side _ _ = false

-- what was kept where that server is this one
abbrev pub kept_if : Bool → Kept → Option Kept
kept_if true kept = Some kept
kept_if false kept = None

abbrev pub cut_by : (side at : Side) → Choice → Option Kept
cut_by side at Went = None
cut_by side at Failed = None
cut_by side at (Stopped kept) = kept_if (same_side side at) kept

abbrev pub cut_of : {S T C W : Type 0} → Side → World S T C W → Step S T C W → Option Kept
cut_of side before s = cut_by side (stops_at s.event before.log) s.choice

-- small steps one after the other
abbrev pub AreSteps : {S T C W : Type 0} → Machines S T C W → World S T C W → List (Step S T C W) → Type 0
AreSteps m before [] = Unit {0}
AreSteps m before (s ∷ steps) = IsStep m before s × AreSteps m s.after steps

-- what they leave
abbrev pub after_steps : {S T C W : Type 0} → World S T C W → List (Step S T C W) → World S T C W
after_steps before [] = before
after_steps before (s ∷ steps) = after_steps s.after steps

-- a server never stops in them
abbrev pub NeverStops : {S T C W : Type 0} → Side → World S T C W → List (Step S T C W) → Type 0
NeverStops side before [] = Unit {0}
NeverStops side before (s ∷ steps) = (cut_of side before s ≡ None) × NeverStops side s.after steps
