-- How each line of a schedule is spelled. Own format.
use Rattle.std.specs.Prelude.{ℕ, ◌+◌, ◌++◌, ◌^◌, ◌<◌, Bool, true, false, List, [], ◌∷◌, codes, decimal, All}
use Rattle.std.specs.List.{join_with_byte, flat_map}
use Rattle.nfs_base.specs.Text.{side_text}
use Rattle.nfs_base.specs.declared.copy_spec.CopySpec.{CopySpec}
use Rattle.wire_schedule.specs.declared.event.Event.{Event}
use Rattle.wire_schedule.specs.declared.event.Event.TheVariants.{Volume, Write, Commit, Copy, Status, Cancel, Retry, Deliver, Flow, Work, Tick, Peek, Crash, CrashAfter}
use Rattle.wire_schedule.specs.declared.directive.Directive.{Directive}
use Rattle.wire_schedule.specs.declared.directive.Directive.TheVariants.{Once, Flows, Rounds}
use Rattle.wire_schedule.specs.declared.directive.Entry.{Entry}
use Rattle.wire_schedule.specs.Numerals.{hex_text}
use Rattle.wire_schedule.specs.ScheduleText.{entry}

-- `c` for a copy that has to be consecutive, else `n`
abbrev pub consecutive_text : Bool → List ℕ
consecutive_text true = codes "c"
consecutive_text false = codes "n"

-- the words of the line that spells an event
abbrev pub words_for : Event → List (List ℕ)
words_for (Volume side files blocks) = codes "volume" ∷ side_text side ∷ decimal files ∷ decimal blocks ∷ []
words_for (Write side file off bytes) = codes "write" ∷ side_text side ∷ decimal file ∷ decimal off ∷ hex_text bytes ∷ []
words_for (Commit side file) = codes "commit" ∷ side_text side ∷ decimal file ∷ []
words_for (Copy copy spec) =
    codes "copy" ∷ decimal copy ∷ decimal spec.src_file ∷ decimal spec.src_off ∷ decimal spec.dst_file ∷ decimal spec.dst_off ∷ decimal spec.count
    ∷ consecutive_text spec.consecutive ∷ []
words_for (Status copy) = codes "status" ∷ decimal copy ∷ []
words_for (Cancel copy) = codes "cancel" ∷ decimal copy ∷ []
words_for Retry = codes "retry" ∷ []
words_for (Deliver number) = codes "deliver" ∷ decimal number ∷ []
words_for Flow = codes "flow" ∷ []
words_for (Work worker) = codes "work" ∷ decimal worker ∷ []
words_for (Tick seconds) = codes "tick" ∷ decimal seconds ∷ []
words_for (Peek side file off len) = codes "peek" ∷ side_text side ∷ decimal file ∷ decimal off ∷ decimal len ∷ []
words_for (Crash side pick) = codes "crash" ∷ side_text side ∷ decimal pick ∷ []
words_for (CrashAfter side calls pick) = codes "crash" ∷ side_text side ∷ codes "after" ∷ decimal calls ∷ decimal pick ∷ []

-- the words of the line that gives this
abbrev pub line_words : Directive → List (List ℕ)
line_words (Once event) = words_for event
line_words (Flows times) = codes "flow" ∷ decimal times ∷ []
line_words (Rounds times) = codes "rounds" ∷ decimal times ∷ []

-- the line that gives this, without its newline
abbrev pub spelling : Directive → List ℕ
spelling directive = join_with_byte 32 (line_words directive)

-- the numbers of a copy fit their types
pub record FitsSpec (spec : CopySpec) : Type 0 where
  pub src_file : spec.src_file < 2 ^ 32
  pub src_off : spec.src_off < 2 ^ 64
  pub dst_file : spec.dst_file < 2 ^ 32
  pub dst_off : spec.dst_off < 2 ^ 64
  pub count : spec.count < 2 ^ 64

-- the numbers of an event fit their types, and its bytes are bytes
abbrev pub EventFits : Event → Type 0
EventFits (Volume side files blocks) = (files < 2 ^ 32) × (blocks < 2 ^ 32)
EventFits (Write side file off bytes) = (file < 2 ^ 32) × (off < 2 ^ 64) × All (λ b. b < 256) bytes
EventFits (Commit side file) = file < 2 ^ 32
EventFits (Copy copy spec) = (copy < 2 ^ 8) × FitsSpec spec
EventFits (Status copy) = copy < 2 ^ 8
EventFits (Cancel copy) = copy < 2 ^ 8
EventFits Retry = Unit {0}
EventFits (Deliver number) = number < 2 ^ 64
EventFits Flow = Unit {0}
EventFits (Work worker) = worker < 2 ^ 8
EventFits (Tick seconds) = seconds < 2 ^ 32
EventFits (Peek side file off len) = (file < 2 ^ 32) × (off < 2 ^ 64) × (len < 2 ^ 8)
EventFits (Crash side pick) = pick < 2 ^ 8
EventFits (CrashAfter side calls pick) = (calls < 2 ^ 64) × (pick < 2 ^ 8)

-- the same of a line
abbrev pub FitsFields : Directive → Type 0
FitsFields (Once event) = EventFits event
FitsFields (Flows times) = times < 2 ^ 32
FitsFields (Rounds times) = times < 2 ^ 32

-- a text of these lines
abbrev pub text_of : List Directive → List ℕ
text_of directives = flat_map (λ directive. spelling directive ++ 10 ∷ []) directives

-- lines of a text that has no other, counted on from a number
abbrev pub entries_from : ℕ → List Directive → List Entry
entries_from number [] = []
entries_from number (directive ∷ directives) = entry number directive ∷ entries_from (number + 1) directives
