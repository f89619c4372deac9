-- A schedule's text as what its lines give. Own format.
use Rattle.std.specs.Prelude.{◌≡◌, ℕ, ◌+◌, ◌<◌, Bool, true, ◌==◌, Option, None, Some, Result, Ok, Err, IsOk, List, [], ◌∷◌, length, take, if◌then◌else◌}
use Rattle.wire_schedule.specs.declared.directive.Directive.{Directive}
use Rattle.wire_schedule.specs.declared.directive.Entry.{Entry}
use Rattle.wire_schedule.specs.declared.context.Context.{Context}
use Rattle.wire_schedule.specs.declared.schedule.Meaning.{Meaning}
use Rattle.wire_schedule.specs.declared.schedule.Meaning.TheVariants.{Passed, Gives, Bad}
use Rattle.wire_schedule.specs.declared.schedule.BadLine.{BadLine}
use Rattle.wire_schedule.specs.Admission.{at_start}
use Rattle.wire_schedule.specs.Expansion.{after_directive, fits}
use Rattle.wire_schedule.specs.Words.{words_of, lines_of}
use Rattle.wire_schedule.specs.Grammar.{directive_of}

-- whether a line is passed over: it is empty, or begins with `#`
abbrev pub is_passed : List ℕ → Bool
is_passed [] = true
is_passed (b ∷ bs) = b == 35

-- what a line means that gives this, or nothing
abbrev pub meaning_of_directive : Context → Option Directive → Meaning
meaning_of_directive context None = Bad
meaning_of_directive context (Some directive) = if fits context directive then Gives directive else Bad

-- what a line means after the lines that left this context
unfoldable pub meaning_of : Context → List ℕ → Meaning
meaning_of context line = if is_passed line then Passed else meaning_of_directive context (directive_of (words_of line))

-- the context after a line
abbrev pub after_line : Context → Meaning → Context
after_line context Passed = context
after_line context (Gives directive) = after_directive context directive
after_line context Bad = context

-- the line of a number, that gives this
abbrev pub entry : ℕ → Directive → Entry
entry number directive = record { line = number; directive = directive }

-- a line's entry before those of the lines after it; a bad line ends the text
abbrev pub joined : ℕ → Meaning → Result (List Entry) ℕ → Result (List Entry) ℕ
joined number Passed others = others
joined number Bad others = Err number
joined number (Gives directive) (Ok entries) = Ok (entry number directive ∷ entries)
joined number (Gives directive) (Err bad) = Err bad

-- the entries of lines that are counted on from this number
abbrev pub scan : Context → ℕ → List (List ℕ) → Result (List Entry) ℕ
scan context number [] = Ok []
scan context number (line ∷ lines) =
    joined number (meaning_of context line) (scan (after_line context (meaning_of context line)) (number + 1) lines)

-- The entries of a schedule, in order, or the number of the first bad line, counted from 1.
unfoldable pub schedule_of : List ℕ → Result (List Entry) ℕ
schedule_of text = scan at_start 1 (lines_of text)

-- what was read is what the text spells
abbrev pub Reads : Result (List Entry) BadLine → Result (List Entry) ℕ → Type 0
Reads (Ok entries) spelled = spelled ≡ Ok entries
Reads (Err bad) spelled = spelled ≡ Err bad.line

-- The first bad line, where the lines are counted on from a number: those before it are good, and with it they are not.
pub record FirstBad (context : Context) (from : ℕ) (lines : List (List ℕ)) (bad : ℕ) : Type 0 where
  pub before : ℕ
  pub number : bad ≡ from + before
  pub inside : before < length lines
  pub good : IsOk (scan context from (take before lines))
  pub refused : scan context from (take (before + 1) lines) ≡ Err bad
