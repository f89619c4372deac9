-- What the input of `run` asks for. Own definitions.
use Rattle.std.specs.Prelude.{ℕ, Option, None, Some, Result, Ok, Err, List, length, nat_lt, if◌then◌else◌}
use Rattle.nfs_base.specs.declared.limits.TheConstants.{INPUT_LIMIT}
use Rattle.wire_machine.specs.Runs.{Numbered, events_in}
use Rattle.wire_schedule.specs.ScheduleText.{schedule_of}
use Rattle.wire_schedule.specs.declared.directive.Entry.{Entry}
use Rattle.nfscopy.specs.Notice.{too_much_text, bad_line_text}

-- the most bytes that a schedule may have
abbrev pub most_bytes : ℕ
most_bytes = INPUT_LIMIT

-- The events of a schedule with the lines from which they come, or the one line that is owed to an input that is none.
abbrev pub Input : Type 0
Input = Result (List Numbered) (List ℕ)

-- what was read as a schedule, or has a line that can't stand in one
abbrev pub parsed : Result (List Entry) ℕ → Input
parsed (Ok entries) = Ok (events_in entries)
parsed (Err line) = Err (bad_line_text line)

-- a text that passes the limit isn't read as a schedule
abbrev pub asked : List ℕ → Input
asked text = if nat_lt most_bytes (length text) then Err too_much_text else parsed (schedule_of text)

-- of an input that is told: it is a schedule, and this holds of its events
abbrev pub IfSchedule : Option Input → (List Numbered → Type 0) → Type 0
IfSchedule None P = Unit {0}
IfSchedule (Some (Ok events)) P = P events
IfSchedule (Some (Err line)) P = ⊥

-- of an input that is told: it is none, and this holds of the line that it is owed
abbrev pub IfRefused : Option Input → (List ℕ → Type 0) → Type 0
IfRefused None P = Unit {0}
IfRefused (Some (Ok events)) P = ⊥
IfRefused (Some (Err line)) P = P line
