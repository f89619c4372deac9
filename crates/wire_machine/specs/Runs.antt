-- How an event goes, and a whole schedule: small step by small step, until all are done, a record is taken by mistake, or the
-- records have too many bytes. Own definitions.
use Rattle.std.specs.Prelude.{◌≡◌, ℕ, Bool, true, false, nat_lt, List, [], ◌∷◌, ◌++◌, length, Option, Some, None, codes, decimal}
use Rattle.wire_lines.specs.LineText.{lines_text}
use Rattle.wire_lines.specs.declared.line.Line.TheVariants as lines
use Rattle.wire_schedule.specs.Expansion.{events_of}
use Rattle.wire_schedule.specs.declared.directive.Entry.{Entry}
use Rattle.wire_schedule.specs.declared.event.Event.{Event}
use Rattle.wire_machine.specs.declared.mistake.Mistake.{Mistake}
use Rattle.wire_machine.specs.Check.{Reading, mistake}
use Rattle.wire_machine.specs.Ends.{Machines}
use Rattle.wire_machine.specs.Lines.{lines_of}
use Rattle.wire_machine.specs.Steps.{IsStep, Step, after_steps, small_steps}
use Rattle.wire_machine.specs.World.{World, bytes_of}

-- how many bytes all records of a run may have
abbrev pub most_bytes : ℕ
most_bytes = 268435456

-- Why a run ends before its schedule does. A mistake comes before a list that is too large.
pub data Fault : Type 0 where
  Mistaken : (mistake : Mistake) → Fault
  TooLarge : Fault

abbrev pub size_fault : Bool → Option Fault
size_fault true = Some TooLarge
size_fault false = None

abbrev pub fault_by : Option Mistake → (bytes : ℕ) → Option Fault
fault_by (Some mistake) bytes = Some (Mistaken mistake)
fault_by None bytes = size_fault (nat_lt most_bytes bytes)

-- how a run ends: its schedule was carried out, the records have too many bytes at a line, or a record was taken by mistake
pub data End : Type 0 where
  Whole : End
  TooLargeAt : (line : ℕ) → End
  MistakenBy : (mistake : Mistake) → End

abbrev pub end_by : Fault → (line : ℕ) → End
end_by (Mistaken mistake) line = MistakenBy mistake
end_by TooLarge line = TooLargeAt line

-- an event, and the line of the schedule from which it comes
pub record Numbered : Type 0 where
  pub line : ℕ
  pub event : Event

abbrev pub numbered : (line : ℕ) → List Event → List Numbered
numbered line [] = []
numbered line (event ∷ events) = record { line = line; event = event } ∷ numbered line events

abbrev pub events_in : List Entry → List Numbered
events_in [] = []
events_in (entry ∷ entries) = numbered entry.line (events_of entry.directive) ++ events_in entries

module _ {S T C W : Type 0} (m : Machines S T C W) (read : Reading) where
  abbrev pub fault_of : World S T C W → Step S T C W → Option Fault
  fault_of before s = fault_by (mistake m read before s.parts) (bytes_of s.after.log)

  -- a small step without a fault is done, and the others go on; one with a fault is the last, and nothing is told of it
  abbrev pub GoesBy : Option Fault → Step S T C W → (List (Step S T C W) → Type 0) → List (Step S T C W) → Option Fault → Type 0
  GoesBy None s go_on steps end = (rest : List (Step S T C W)) × (steps ≡ s ∷ rest) × go_on rest
  GoesBy (Some fault) s go_on steps end = (steps ≡ []) × (end ≡ Some fault)

  -- Small steps, one after the other: those that are done, and the fault that ended them.
  abbrev pub Goes : World S T C W → List Event → List (Step S T C W) → Option Fault → Type 0
  Goes before [] steps end = (steps ≡ []) × (end ≡ None)
  Goes before (small ∷ smalls) steps end =
      (s : Step S T C W) × (s.event ≡ small) × IsStep m before s × GoesBy (fault_of before s) s (λ rest. Goes s.after smalls rest end) steps end

  -- an event is its small steps
  abbrev pub EventGoes : World S T C W → Event → List (Step S T C W) → Option Fault → Type 0
  EventGoes before event steps end = Goes before (small_steps before event) steps end

  abbrev pub RunsBy : Option Fault → (line : ℕ) → List (Step S T C W) → (List (Step S T C W) → Type 0) → List (Step S T C W) → End → Type 0
  RunsBy None line first go_on steps end = (rest : List (Step S T C W)) × (steps ≡ first ++ rest) × go_on rest
  RunsBy (Some fault) line first go_on steps end = (steps ≡ first) × (end ≡ end_by fault line)

  -- The events of a schedule, one after the other: the small steps that are done, and how it ends.
  abbrev pub Runs : World S T C W → List Numbered → List (Step S T C W) → End → Type 0
  Runs before [] steps end = (steps ≡ []) × (end ≡ Whole)
  Runs before (e ∷ events) steps end =
      (first : List (Step S T C W)) × (fault : Option Fault) × EventGoes before e.event first fault
      × RunsBy fault e.line first (λ rest. Runs (after_steps before first) events rest end) steps end

-- ---- what is printed

-- the last line
abbrev pub last_line : (records : ℕ) → End → List ℕ
last_line records Whole = lines_text (lines.End records ∷ [])
last_line records (TooLargeAt line) = codes "bad line " ++ decimal line ++ 10 ∷ []
last_line records (MistakenBy mistake) = lines_text (lines.Mistaken mistake.accepted mistake.sealed ∷ [])

-- The transcript of a run: the lines of the small steps that are done, and the last line.
abbrev pub transcript : {S T C W : Type 0} → Machines S T C W → World S T C W → List (Step S T C W) → End → List ℕ
transcript m before steps end = lines_text (lines_of m before steps) ++ last_line (length (after_steps before steps).log) end
