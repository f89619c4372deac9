-- Each list of events that may come one after the other is a text's schedule.
use Rattle.std.proofs.Common.{◌≡◌, ℕ, ◌+◌, ◌==◌, List, [], ◌∷◌, Ok, true, false, All, refl, ap, ◌∙◌, append_assoc, IsTrue, arith}
use Rattle.std.specs.List.{slice_split, join_with_byte}
use Rattle.std.proofs.lemmas.Bool.{and_from, and_parts}
use Rattle.std.proofs.lemmas.List.Elements.{All-nil, All-cons, All-head, All-tail, All-append}
use Rattle.std.proofs.lemmas.List.Splits.{slice_split_at}
use Rattle.wire_schedule.specs.declared.event.Event.{Event}
use Rattle.wire_schedule.specs.declared.event.Event.TheVariants.{Volume, Write, Commit, Copy, Status, Cancel, Retry, Deliver, Flow, Work, Tick, Peek, Crash, CrashAfter}
use Rattle.wire_schedule.specs.declared.directive.Directive.{Directive}
use Rattle.wire_schedule.specs.declared.directive.Directive.TheVariants.{Once, Flows, Rounds}
use Rattle.wire_schedule.specs.declared.context.Context.{Context}
use Rattle.wire_schedule.specs.declared.schedule.Meaning.TheVariants.{Gives}
use Rattle.wire_schedule.specs.Admission.{at_start}
use Rattle.wire_schedule.specs.Expansion.{after_directive, are_admitted, events_of, events_of_all, fits, keeps_limits}
use Rattle.wire_schedule.specs.Words.{lines_of}
use Rattle.wire_schedule.specs.Spelling.{entries_from, line_words, spelling, text_of, FitsFields}
use Rattle.wire_schedule.specs.ScheduleText.{is_passed, meaning_of, scan, schedule_of}
use Rattle.wire_schedule.proofs.WordsLemmas.{lines-more}
use Rattle.wire_schedule.proofs.ExpansionLemmas.{are_parts}
use Rattle.wire_schedule.proofs.SpellingLemmas.{are_plain, is_plain, lacks, plain_words, reads_back}

abbrev LacksNewline : List ℕ → Type 0
LacksNewline text = All (λ b. (b == 10) ≡ false) text

one_line : (words : List (List ℕ)) → are_plain words ≡ true → LacksNewline (join_with_byte 32 words)
one_line [] plain = All-nil (λ b. (b == 10) ≡ false)
one_line (first ∷ []) plain = lacks 10 (omega arith) first (and_parts (is_plain first) true plain).0
one_line (first ∷ next ∷ rest) plain =
    let tests = and_parts (is_plain first) (are_plain (next ∷ rest)) plain in
    All-append (λ b. (b == 10) ≡ false) first (32 ∷ join_with_byte 32 (next ∷ rest)) (lacks 10 (omega arith) first tests.0)
    (All-cons (λ b. (b == 10) ≡ false) 32 (join_with_byte 32 (next ∷ rest)) refl (one_line (next ∷ rest) tests.1))

first_of_text : (directive : Directive) (directives : List Directive) → FitsFields directive → lines_of (text_of (directive ∷ directives)) ≡ spelling directive ∷ lines_of (text_of directives)
first_of_text directive directives fields =
    lines-more (text_of (directive ∷ directives)) (spelling directive) (text_of directives)
    (ap (slice_split (λ b. b == 10)) (append_assoc (spelling directive) (10 ∷ []) (text_of directives))
    ∙ slice_split_at (λ b. b == 10) (spelling directive) 10 (text_of directives) (one_line (line_words directive) (plain_words directive fields)) refl)

event_not_passed : (event : Event) → is_passed (spelling (Once event)) ≡ false
event_not_passed (Volume side files blocks) = refl
event_not_passed (Write side file off bytes) = refl
event_not_passed (Commit side file) = refl
event_not_passed (Copy copy spec) = refl
event_not_passed (Status copy) = refl
event_not_passed (Cancel copy) = refl
event_not_passed Retry = refl
event_not_passed (Deliver number) = refl
event_not_passed Flow = refl
event_not_passed (Work worker) = refl
event_not_passed (Tick seconds) = refl
event_not_passed (Peek side file off len) = refl
event_not_passed (Crash side pick) = refl
event_not_passed (CrashAfter side calls pick) = refl

not_passed : (directive : Directive) → is_passed (spelling directive) ≡ false
not_passed (Once event) = event_not_passed event
not_passed (Flows times) = refl
not_passed (Rounds times) = refl

-- the line that spells what may come next gives it
pub spelling_gives : (context : Context) (directive : Directive) → FitsFields directive → IsTrue (keeps_limits directive) → IsTrue (are_admitted context (events_of directive)) → meaning_of context (spelling directive) ≡ Gives directive
unfolding meaning_of
spelling_gives context directive fields limits may =
    let next : fits context directive ≡ true = and_from (keeps_limits directive) (are_admitted context (events_of directive)) limits may in
    rw (not_passed directive, reads_back directive fields limits, next) refl

scans : (context : Context) (number : ℕ) (directives : List Directive) → All FitsFields directives → All (λ directive. IsTrue (keeps_limits directive)) directives → IsTrue (are_admitted context (events_of_all (entries_from number directives))) → scan context number (lines_of (text_of directives)) ≡ Ok (entries_from number directives)
unfolding lines_of
scans context number [] fields limits may = refl
scans context number (directive ∷ directives) fields limits may =
    let first = All-head FitsFields directive directives fields in
    let parts = are_parts context (events_of directive) (events_of_all (entries_from (number + 1) directives)) may in
    let gives = spelling_gives context directive first (All-head (λ d. IsTrue (keeps_limits d)) directive directives limits) parts.0 in
    rw (first_of_text directive directives first, gives, scans (after_directive context directive) (number + 1) directives (All-tail FitsFields directive directives fields) (All-tail (λ d. IsTrue (keeps_limits d)) directive directives limits) parts.1) refl

pub text_reads_back : (directives : List Directive) → All FitsFields directives → All (λ directive. IsTrue (keeps_limits directive)) directives → IsTrue (are_admitted at_start (events_of_all (entries_from 1 directives))) → schedule_of (text_of directives) ≡ Ok (entries_from 1 directives)
unfolding schedule_of
text_reads_back directives fields limits may = scans at_start 1 directives fields limits may
