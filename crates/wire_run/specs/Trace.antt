-- What a run does event by event: what became of each, and what was put of its lines. Own definitions.
use Rattle.std.specs.Prelude.{◌≡◌, ◌⊎◌, ◌≤◌, ℕ, Bool, true, false, List, [], ◌∷◌, ◌++◌, map, Option, Some, None}
use Rattle.std.specs.Io.KnownBytes.{Appends}
use Rattle.outcome.specs.Causes.{Rose}
use Rattle.streams.specs.Sink.{AppendsFront}
use Rattle.streams.specs.Stream.{Taking}
use Rattle.wire_machine.specs.Check.{Reading}
use Rattle.wire_machine.specs.Runs.{Numbered, Whole, last_line}
use Rattle.wire_run.specs.Running.{ArmsRight, HasDisks, Running, StepIs, context_after, mech_of, text_in}
use Rattle.run_ends.specs.Ends.{RunMachines}
use Rattle.wire_run.specs.declared.run.Ran.{Ran}
use Rattle.wire_run.specs.declared.run.Ran.TheVariants as ran
use Rattle.wire_run.specs.declared.system.Stepped.{Stepped}
use Rattle.wire_run.specs.declared.system.Stepped.TheVariants as stepped
use Rattle.wire_schedule.specs.Expansion.{one_round}
use Rattle.wire_schedule.specs.declared.event.Event.{Event}
use Rattle.wire_schedule.specs.declared.event.Event.TheVariants as kinds

-- a turn of a line that gives its events many times: what was sent before is delivered, and then a worker works or not
abbrev pub turn_of : (works : Bool) → List Event
turn_of true = one_round
turn_of false = kinds.Flow ∷ []

-- the events of numbered ones
abbrev pub events_at : List Numbered → List Event
events_at events = map (λ (e : Numbered). e.event) events

-- ---- bytes are put: all of them, and this follows, or a front, where the sink fails

pub record Puts (bytes : List ℕ) (next : Option Ran) (before now : Taking) (result : Option Ran) : Type 0 where
  pub later : before.faults ≤ now.faults
  pub put : (Appends before.taken now.taken bytes × (result ≡ next))
      ⊎ (AppendsFront before.taken now.taken bytes × Rose before.faults now.faults × (result ≡ Some ran.WriteFault))

-- how the run ends with an event of a line, if it does
abbrev pub ended_by : (line : ℕ) → Stepped → Option Ran
ended_by line (stepped.Went text) = None
ended_by line (stepped.OverLimit text) = Some (ran.OverLimit line)
ended_by line (stepped.Mistaken text mistake) = Some (ran.Mistaken mistake)
ended_by line (stepped.Unmade cause) = Some (ran.Unmade cause)
ended_by line (stepped.Lost side cause) = Some (ran.Lost cause)

-- The lines of an event are put. Where a server wasn't made, or is lost, there are none.
abbrev pub PutsLines : (line : ℕ) → Stepped → (before now : Taking) → Option Ran → Type 0
PutsLines line (stepped.Unmade cause) before now result = (now ≡ before) × (result ≡ Some (ran.Unmade cause))
PutsLines line (stepped.Lost side cause) before now result = (now ≡ before) × (result ≡ Some (ran.Lost cause))
PutsLines line s before now result = Puts (text_in s) (ended_by line s) before now result

-- the last line is put behind so many records
abbrev pub EndPuts : (records : ℕ) → (before now : Taking) → Ran → Type 0
EndPuts records before now ran.Whole = Appends before.taken now.taken (last_line records Whole)
EndPuts records before now ran.WriteFault = AppendsFront before.taken now.taken (last_line records Whole) × Rose before.faults now.faults
EndPuts records before now result = ⊥

module _ {D M : Type 0} (told : Type 0) (m : RunMachines M) (read : Reading) (faults size : D → ℕ) where
  -- an event happens, and its lines are put
  pub record Happens (e : Numbered) (old new : Running D M) (before now : Taking) (result : Option Ran) : Type 0 where
    pub became : Stepped
    pub is : StepIs told m read faults size (mech_of old) old new e.event became
    pub context : new.context ≡ context_after old.context e.event became
    pub disks : HasDisks new
    pub arms : ArmsRight old new e.event
    pub puts : PutsLines e.line became before now result

  -- the events go on after one, unless the run ends with it
  abbrev pub GoesOn : Option Ran → Type 0 → (middle new : Running D M) → (put now : Taking) → (result : Option Ran) → Type 0
  GoesOn None others middle new put now result = others
  GoesOn (Some end) others middle new put now result = (new ≡ middle) × (now ≡ put) × (result ≡ Some end)

  -- Events happen, one after the other, up to their end or to that of the run.
  abbrev pub Happen : List Numbered → (old new : Running D M) → (before now : Taking) → (result : Option Ran) → Type 0
  Happen [] old new before now result = (new ≡ old) × (now ≡ before) × (result ≡ None)
  Happen (e ∷ events) old new before now result =
      (middle : Running D M) × (put : Taking) × (first : Option Ran) × Happens e old middle before put first
      × GoesOn first (Happen events middle new put now result) middle new put now result

  -- Memory runs out among events: so many of them happened before.
  pub record IsCut (events : List Numbered) (old : Running D M) (before now : Taking) : Type 0 where
    pub done : List Numbered
    pub rest : List Numbered
    pub are : events ≡ done ++ rest
    pub new : Running D M
    pub happened : Happen done old new before now None
