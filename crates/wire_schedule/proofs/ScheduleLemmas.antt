-- A text is the schedule of just what its lines spell.
use Rattle.std.proofs.Common.{◌≡◌, ℕ, ◌+◌, List, [], ◌∷◌, Option, None, Some, Ok, Bool, true, false, cond, All, IsTrue, map, refl, ap, ap₂, inl, inr}
use Rattle.std.proofs.lemmas.Bool.{and_parts, cases_Bool}
use Rattle.std.proofs.lemmas.List.Elements.{All-nil, All-cons, All-head, All-tail}
use Rattle.wire_schedule.specs.declared.directive.Directive.{Directive}
use Rattle.wire_schedule.specs.declared.directive.Entry.{Entry}
use Rattle.wire_schedule.specs.declared.context.Context.{Context}
use Rattle.wire_schedule.specs.declared.schedule.Meaning.{Meaning}
use Rattle.wire_schedule.specs.declared.schedule.Meaning.TheVariants.{Passed, Gives, Bad}
use Rattle.wire_schedule.specs.Admission.{at_start}
use Rattle.wire_schedule.specs.Expansion.{after_directive, are_admitted, events_of, events_of_all, fits, keeps_limits}
use Rattle.wire_schedule.specs.Words.{words_of, lines_of}
use Rattle.wire_schedule.specs.Grammar.{directive_of}
use Rattle.wire_schedule.specs.Spelling.{spelling, FitsFields}
use Rattle.wire_schedule.specs.ScheduleText.{is_passed, meaning_of, meaning_of_directive, scan, schedule_of}
use Rattle.wire_schedule.specs.ScheduleOf.{counting, numbered, numbered_line, spelled_line, IsScheduleOf, Numbered}
use Rattle.wire_schedule.proofs.ExpansionLemmas.{are_parts}
use Rattle.wire_schedule.proofs.ScanLemmas.{rest_of, admitted_next, line_gives, schedule_admitted}
use Rattle.wire_schedule.proofs.SpellingLemmas.{line_spells}
use Rattle.wire_schedule.proofs.TextLemmas.{spelling_gives}

-- the lines that count
abbrev counted : ℕ → List (List ℕ) → List Numbered
counted number lines = counting (numbered number lines)

abbrev HasFields : Entry → Type 0
HasFields entry = FitsFields entry.directive

abbrev HasLimits : Entry → Type 0
HasLimits entry = IsTrue (keeps_limits entry.directive)

no_pass : (context : Context) (found : Option Directive) → meaning_of_directive context found ≡ Passed → ⊥
no_pass context None is = cc is
no_pass context (Some directive) is =
    let by_test : (test : Bool) → cond test (Gives directive) Bad ≡ Passed → ⊥ =
    λ test. elim test as (λ b. cond b (Gives directive) Bad ≡ Passed → ⊥) [ true ↦ λ given. cc given | false ↦ λ given. cc given ] in
    by_test (fits context directive) is

passed_is : (context : Context) (line : List ℕ) → meaning_of context line ≡ Passed → is_passed line ≡ true
unfolding meaning_of
passed_is context line is =
    elim (cases_Bool (is_passed line)) [
      | inl yes' ↦ yes'
      | inr no' ↦ absurd (no_pass context (directive_of (words_of line)) (rw no' at is))
    ]

gives_is : (context : Context) (line : List ℕ) (directive : Directive) → meaning_of context line ≡ Gives directive → is_passed line ≡ false
unfolding meaning_of
gives_is context line directive is =
    elim (cases_Bool (is_passed line)) [
      | inl yes' ↦ let given : Passed ≡ Gives directive = rw yes' at is in absurd (cc given)
      | inr no' ↦ no'
    ]

passed_means : (context : Context) (line : List ℕ) → is_passed line ≡ true → meaning_of context line ≡ Passed
unfolding meaning_of
passed_means context line passed = rw passed refl

-- what these lines spell is within its limits
record Spelled (number : ℕ) (lines : List (List ℕ)) (entries : List Entry) : Type 0 where
  lines_are : counted number lines ≡ map spelled_line entries
  fields : All HasFields entries
  limits : All HasLimits entries

lines_spell : (context : Context) (number : ℕ) (lines : List (List ℕ)) (entries : List Entry) → scan context number lines ≡ Ok entries → Spelled number lines entries
lines_spell context number [] [] is = record { lines_are = refl; fields = All-nil HasFields; limits = All-nil HasLimits }
lines_spell context number [] (one ∷ entries) is = absurd (cc is)
lines_spell context number (line ∷ lines) entries is =
    let by_meaning : (meaning : Meaning) → meaning_of context line ≡ meaning → rest_of number meaning context lines ≡ Ok entries → Spelled number (line ∷ lines) entries =
    λ meaning. elim meaning as (λ m. meaning_of context line ≡ m → rest_of number m context lines ≡ Ok entries → Spelled number (line ∷ lines) entries) [
      | Passed ↦ λ means reads.
          let more = lines_spell context (number + 1) lines entries reads in
          record { lines_are = rw (passed_is context line means) more.lines_are; fields = more.fields; limits = more.limits }
      | Gives directive ↦ λ means reads.
          let next = admitted_next number directive (scan (after_directive context directive) (number + 1) lines) entries reads in
          let more = lines_spell (after_directive context directive) (number + 1) lines next.0 next.1 in
          let gives = line_gives context line directive means in
          let spelled = line_spells line directive gives.0 in
          let limits = (and_parts (keeps_limits directive) (are_admitted context (events_of directive)) gives.1).0 in
          rw next.2 (record {
            lines_are = rw (gives_is context line directive means) (ap₂ (λ text others. numbered_line number text ∷ others) spelled.0 more.lines_are);
            fields = All-cons HasFields _ next.0 spelled.1 more.fields;
            limits = All-cons HasLimits _ next.0 limits more.limits;
          })
      | Bad ↦ λ means reads. absurd (cc reads)
    ] in
    by_meaning (meaning_of context line) refl is

-- the entries of a text are what its lines spell
pub schedule_spells : (text : List ℕ) (entries : List Entry) → schedule_of text ≡ Ok entries → IsScheduleOf text entries
unfolding schedule_of
schedule_spells text entries is =
    let spelled = lines_spell at_start 1 (lines_of text) entries is in
    record { lines = spelled.lines_are; fields = spelled.fields; limits = spelled.limits; admitted = schedule_admitted text entries is }

spelled_read : (context : Context) (number : ℕ) (lines : List (List ℕ)) (entries : List Entry) → counted number lines ≡ map spelled_line entries → All HasFields entries → All HasLimits entries → IsTrue (are_admitted context (events_of_all entries)) → scan context number lines ≡ Ok entries
spelled_read context number [] [] lines_are fields limits may = refl
spelled_read context number [] (one ∷ entries) lines_are fields limits may = absurd (cc lines_are)
spelled_read context number (line ∷ lines) entries lines_are fields limits may =
    elim (cases_Bool (is_passed line)) [
      | inl passed ↦
          let others : counted (number + 1) lines ≡ map spelled_line entries = rw passed at lines_are in
          rw (passed_means context line passed) (spelled_read context (number + 1) lines entries others fields limits may)
      | inr counts ↦
          let one : numbered_line number line ∷ counted (number + 1) lines ≡ map spelled_line entries = rw counts at lines_are in
          let by_entries : (all : List Entry) → numbered_line number line ∷ counted (number + 1) lines ≡ map spelled_line all → All HasFields all → All HasLimits all → IsTrue (are_admitted context (events_of_all all)) → scan context number (line ∷ lines) ≡ Ok all =
          λ all. elim all as (λ es. numbered_line number line ∷ counted (number + 1) lines ≡ map spelled_line es → All HasFields es → All HasLimits es → IsTrue (are_admitted context (events_of_all es)) → scan context number (line ∷ lines) ≡ Ok es) [
            | [] ↦ λ are _ _ _. absurd (cc are)
            | entry ∷ rest ↦ λ are each keep next.
                let first_is : numbered_line number line ≡ spelled_line entry = cc are in
                let rest_are : counted (number + 1) lines ≡ map spelled_line rest = cc are in
                let number_is : number ≡ entry.line = ap (λ (n : Numbered). n.number) first_is in
                let line_is : line ≡ spelling entry.directive = ap (λ (n : Numbered). n.text) first_is in
                let parts = are_parts context (events_of entry.directive) (events_of_all rest) next in
                let gives = spelling_gives context entry.directive (All-head HasFields entry rest each) (All-head HasLimits entry rest keep) parts.0 in
                let later = spelled_read (after_directive context entry.directive) (number + 1) lines rest rest_are (All-tail HasFields entry rest each) (All-tail HasLimits entry rest keep) parts.1 in
                rw (line_is, gives, later, number_is) refl
          ] in
          by_entries entries one fields limits may
    ]

-- a text whose lines spell what may come one after the other is their schedule
pub spelled_schedule : (text : List ℕ) (entries : List Entry) → IsScheduleOf text entries → schedule_of text ≡ Ok entries
unfolding schedule_of
spelled_schedule text entries is = spelled_read at_start 1 (lines_of text) entries is.lines is.fields is.limits is.admitted
