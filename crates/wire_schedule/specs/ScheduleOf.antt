-- What it is to be a schedule's text, without reading it line by line. Own format.
use Rattle.std.specs.Prelude.{◌≡◌, ℕ, ◌+◌, not, List, [], ◌∷◌, All, IsTrue, filter, map}
use Rattle.wire_schedule.specs.declared.directive.Entry.{Entry}
use Rattle.wire_schedule.specs.Admission.{at_start}
use Rattle.wire_schedule.specs.Expansion.{are_admitted, events_of_all, keeps_limits}
use Rattle.wire_schedule.specs.Words.{lines_of}
use Rattle.wire_schedule.specs.Spelling.{spelling, FitsFields}
use Rattle.wire_schedule.specs.ScheduleText.{is_passed}

-- a line with its number
pub record Numbered : Type 0 where
  pub number : ℕ
  pub text : List ℕ

abbrev pub numbered_line : ℕ → List ℕ → Numbered
numbered_line number text = record { number = number; text = text }

-- lines, counted on from a number
abbrev pub numbered : ℕ → List (List ℕ) → List Numbered
numbered number [] = []
numbered number (line ∷ lines) = numbered_line number line ∷ numbered (number + 1) lines

-- the lines that aren't passed over
abbrev pub counting : List Numbered → List Numbered
counting lines = filter (λ line. not (is_passed line.text)) lines

-- the line that spells what it gives
abbrev pub spelled_line : Entry → Numbered
spelled_line entry = numbered_line entry.line (spelling entry.directive)

-- The lines that aren't passed over spell what these entries give, each at its number; each is within its own limit, and
-- each event of theirs may come after those before it.
pub record IsScheduleOf (text : List ℕ) (entries : List Entry) : Type 0 where
  pub lines : counting (numbered 1 (lines_of text)) ≡ map spelled_line entries
  pub fields : All (λ entry. FitsFields entry.directive) entries
  pub limits : All (λ entry. IsTrue (keeps_limits entry.directive)) entries
  pub admitted : IsTrue (are_admitted at_start (events_of_all entries))
