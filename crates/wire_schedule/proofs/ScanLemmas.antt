-- The entries of a schedule's lines, one after the other.
use Rattle.std.proofs.Common.{◌≡◌, ℕ, ◌+◌, ◌<◌, ◌≤◌, List, [], ◌∷◌, ◌++◌, length, Option, None, Some, Result, Ok, Err, Bool, true, false, cond, IsTrue, refl, sym, ap, ◌∙◌, append_assoc, append-nil, arith}
use Rattle.std.proofs.lemmas.Bool.{and_parts}
use Rattle.wire_schedule.specs.declared.directive.Directive.{Directive}
use Rattle.wire_schedule.specs.declared.directive.Entry.{Entry}
use Rattle.wire_schedule.specs.declared.context.Context.{Context}
use Rattle.wire_schedule.specs.declared.schedule.Meaning.{Meaning}
use Rattle.wire_schedule.specs.declared.schedule.Meaning.TheVariants.{Passed, Gives, Bad}
use Rattle.wire_schedule.specs.Admission.{at_start}
use Rattle.wire_schedule.specs.Expansion.{after_directive, are_admitted, events_of, events_of_all, fits, keeps_limits}
use Rattle.wire_schedule.specs.Words.{words_of, lines_of}
use Rattle.wire_schedule.specs.Grammar.{directive_of}
use Rattle.wire_schedule.specs.ScheduleText.{entry, is_passed, meaning_of, meaning_of_directive, after_line, joined, scan, schedule_of}
use Rattle.wire_schedule.proofs.ExpansionLemmas.{are_joined}

-- the entries of the lines so far before those of the lines to come
abbrev pub with_front : List Entry → Result (List Entry) ℕ → Result (List Entry) ℕ
with_front front (Ok entries) = Ok (front ++ entries)
with_front front (Err bad) = Err bad

-- What was read, with what is still to come, is what the text spells; no more lines than bytes were read.
pub record HasRead (text rest : List ℕ) (entries : List Entry) (context : Context) (number : ℕ) : Type 0 where
  pub so_far : with_front entries (scan context (number + 1) (lines_of rest)) ≡ schedule_of text
  pub counted : number + length rest ≤ length text

pub starts : (text : List ℕ) → HasRead text text [] at_start 0
unfolding schedule_of
starts text = record {
  so_far = elim (scan at_start 1 (lines_of text)) as (λ read. with_front [] read ≡ read) [ Ok entries ↦ refl | Err bad ↦ refl ];
  counted = omega arith;
}

event_gives : (context : Context) (found : Option Directive) (directive : Directive) → meaning_of_directive context found ≡ Gives directive → (found ≡ Some directive) × IsTrue (fits context directive)
event_gives context None directive is = absurd (cc is)
event_gives context (Some found) directive is =
    let by_test : (answer : Bool) → fits context found ≡ answer → cond answer (Gives found) Bad ≡ Gives directive → (◌≡◌ {A = Option Directive} (Some found) (Some directive)) × IsTrue (fits context directive) =
    λ answer. elim answer as (λ b. fits context found ≡ b → cond b (Gives found) Bad ≡ Gives directive → (◌≡◌ {A = Option Directive} (Some found) (Some directive)) × IsTrue (fits context directive)) [
      | true ↦ λ yes' given. (let same : found ≡ directive = cc given in (ap (λ e. Some e) same, rw (sym same) yes'))
      | false ↦ λ no' given. absurd (cc given)
    ] in
    by_test (fits context found) refl is

-- a line that gives an directive spells it, and the directive may come next
pub line_gives : (context : Context) (line : List ℕ) (directive : Directive) → meaning_of context line ≡ Gives directive → (directive_of (words_of line) ≡ Some directive) × IsTrue (fits context directive)
unfolding meaning_of
line_gives context line directive is =
    let by_test : (passed : Bool) → cond passed Passed (meaning_of_directive context (directive_of (words_of line))) ≡ Gives directive → (directive_of (words_of line) ≡ Some directive) × IsTrue (fits context directive) =
    λ passed. elim passed as (λ b. cond b Passed (meaning_of_directive context (directive_of (words_of line))) ≡ Gives directive → (directive_of (words_of line) ≡ Some directive) × IsTrue (fits context directive)) [
      | true ↦ λ given. absurd (cc given)
      | false ↦ λ given. event_gives context (directive_of (words_of line)) directive given
    ] in
    by_test (is_passed line) is

-- the entries of the lines to come, after a line of this meaning
abbrev pub rest_of : ℕ → Meaning → Context → List (List ℕ) → Result (List Entry) ℕ
rest_of number meaning context lines = joined number meaning (scan (after_line context meaning) (number + 1) lines)

pub admitted_next : (number : ℕ) (directive : Directive) (others : Result (List Entry) ℕ) (entries : List Entry) → joined number (Gives directive) others ≡ Ok entries → (more : List Entry) × (others ≡ Ok more) × (entries ≡ entry number directive ∷ more)
admitted_next number directive (Ok more) entries is = (more, refl, cc is)
admitted_next number directive (Err bad) entries is = absurd (cc is)

-- the entries of good lines may come one after the other
pub scan_admitted : (context : Context) (number : ℕ) (lines : List (List ℕ)) (entries : List Entry) → scan context number lines ≡ Ok entries → IsTrue (are_admitted context (events_of_all entries))
scan_admitted context number [] [] is = refl
scan_admitted context number [] (one ∷ entries) is = absurd (cc is)
scan_admitted context number (line ∷ lines) entries is =
    let by_meaning : (meaning : Meaning) → meaning_of context line ≡ meaning → rest_of number meaning context lines ≡ Ok entries → IsTrue (are_admitted context (events_of_all entries)) =
    λ meaning. elim meaning as (λ m. meaning_of context line ≡ m → rest_of number m context lines ≡ Ok entries → IsTrue (are_admitted context (events_of_all entries))) [
      | Passed ↦ λ means reads. scan_admitted context (number + 1) lines entries reads
      | Gives directive ↦ λ means reads.
          let next = admitted_next number directive (scan (after_directive context directive) (number + 1) lines) entries reads in
          let may = and_parts (keeps_limits directive) (are_admitted context (events_of directive)) (line_gives context line directive means).1 in
          rw next.2 (are_joined context (events_of directive) (events_of_all next.0) may.1 (scan_admitted (after_directive context directive) (number + 1) lines next.0 next.1))
      | Bad ↦ λ means reads. absurd (cc reads)
    ] in
    by_meaning (meaning_of context line) refl is

front_more : (number : ℕ) (front : List Entry) (directive : Directive) (others : Result (List Entry) ℕ) → with_front (front ++ entry number directive ∷ []) others ≡ with_front front (joined number (Gives directive) others)
front_more number front directive (Ok entries) = ap (λ all. Ok all) (append_assoc front (entry number directive ∷ []) entries)
front_more number front directive (Err bad) = refl

-- One line more. The number of the line is that of the lines before it and one.
module _ (text rest line more : List ℕ) (entries : List Entry) (context : Context) (number : ℕ) (read : HasRead text rest entries context number) (first : lines_of rest ≡ line ∷ lines_of more) where
  joined_next : (meaning : Meaning) → meaning_of context line ≡ meaning → with_front entries (rest_of (number + 1) meaning context (lines_of more)) ≡ schedule_of text
  joined_next meaning means = rw (first, means) at read.so_far

  -- that is passed over
  pub reads_passed : length more < length rest → meaning_of context line ≡ Passed → HasRead text more entries context (number + 1)
  reads_passed shorter means = record { so_far = joined_next Passed means; counted = omega (arith, read.counted) }

  -- that gives an directive
  pub reads_event : length more < length rest → (directive : Directive) → meaning_of context line ≡ Gives directive → HasRead text more (entries ++ entry (number + 1) directive ∷ []) (after_directive context directive) (number + 1)
  reads_event shorter directive means = record {
    so_far = front_more (number + 1) entries directive (scan (after_directive context directive) (number + 1 + 1) (lines_of more)) ∙ joined_next (Gives directive) means;
    counted = omega (arith, read.counted);
  }

  -- that is bad
  pub reads_bad : meaning_of context line ≡ Bad → schedule_of text ≡ Err (number + 1)
  reads_bad means = sym (joined_next Bad means)

-- no line more
pub reads_all : (text rest : List ℕ) (entries : List Entry) (context : Context) (number : ℕ) → HasRead text rest entries context number → length rest ≡ 0 → schedule_of text ≡ Ok entries
unfolding lines_of
reads_all text [] entries context number read none = sym read.so_far ∙ ap (λ all. Ok all) (append-nil entries)
reads_all text (b ∷ rest) entries context number read none = absurd (omega arith)

-- the entries of a schedule's text may come one after the other
pub schedule_admitted : (text : List ℕ) (entries : List Entry) → schedule_of text ≡ Ok entries → IsTrue (are_admitted at_start (events_of_all entries))
unfolding schedule_of
schedule_admitted text entries is = scan_admitted at_start 1 (lines_of text) entries is
