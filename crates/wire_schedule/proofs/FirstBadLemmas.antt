-- The first bad line decides, whatever follows it.
use Rattle.std.proofs.Common.{◌≡◌, ℕ, ◌+◌, suc, List, [], ◌∷◌, ◌++◌, take, Result, Ok, Err, IsOk, refl, add-one, arith, drop, take-append-drop}
use Rattle.wire_schedule.specs.declared.directive.Directive.{Directive}
use Rattle.wire_schedule.specs.declared.directive.Entry.{Entry}
use Rattle.wire_schedule.specs.declared.context.Context.{Context}
use Rattle.wire_schedule.specs.declared.schedule.Meaning.{Meaning}
use Rattle.wire_schedule.specs.declared.schedule.Meaning.TheVariants.{Passed, Gives, Bad}
use Rattle.wire_schedule.specs.Expansion.{after_directive}
use Rattle.wire_schedule.specs.ScheduleText.{meaning_of, after_line, joined, scan, FirstBad}

-- what is read of the lines from one on, where it has this meaning
abbrev rest_of : ℕ → Meaning → Context → List (List ℕ) → Result (List Entry) ℕ
rest_of number meaning context lines = joined number meaning (scan (after_line context meaning) (number + 1) lines)

bad_later : (number : ℕ) (directive : Directive) (others : Result (List Entry) ℕ) (bad : ℕ) → joined number (Gives directive) others ≡ Err bad → others ≡ Err bad
bad_later number directive (Ok entries) bad is = absurd (cc is)
bad_later number directive (Err other) bad is = cc is

-- no line after the first bad one matters
pub bad_stays : (context : Context) (number : ℕ) (lines more : List (List ℕ)) (bad : ℕ) → scan context number lines ≡ Err bad → scan context number (lines ++ more) ≡ Err bad
bad_stays context number [] more bad is = absurd (cc is)
bad_stays context number (line ∷ lines) more bad is =
    let by_meaning : (meaning : Meaning) → rest_of number meaning context lines ≡ Err bad → rest_of number meaning context (lines ++ more) ≡ Err bad =
    λ meaning. elim meaning as (λ m. rest_of number m context lines ≡ Err bad → rest_of number m context (lines ++ more) ≡ Err bad) [
      | Passed ↦ λ reads. bad_stays context (number + 1) lines more bad reads
      | Gives directive ↦ λ reads.
          rw (bad_stays (after_directive context directive) (number + 1) lines more bad (bad_later number directive (scan (after_directive context directive) (number + 1) lines) bad reads)) refl
      | Bad ↦ λ reads. reads
    ] in
    by_meaning (meaning_of context line) is

good_next : (number : ℕ) (directive : Directive) (others : Result (List Entry) ℕ) → IsOk others → IsOk (joined number (Gives directive) others)
good_next number directive (Ok entries) good = refl
good_next number directive (Err bad) good = absurd (cc good)

-- the lines before the first bad one, and it
pub first_bad : (context : Context) (number : ℕ) (lines : List (List ℕ)) (bad : ℕ) → scan context number lines ≡ Err bad → FirstBad context number lines bad
first_bad context number [] bad is = absurd (cc is)
first_bad context number (line ∷ lines) bad is =
    let by_meaning : (meaning : Meaning) → meaning_of context line ≡ meaning → rest_of number meaning context lines ≡ Err bad → FirstBad context number (line ∷ lines) bad =
    λ meaning. elim meaning as (λ m. meaning_of context line ≡ m → rest_of number m context lines ≡ Err bad → FirstBad context number (line ∷ lines) bad) [
      | Passed ↦ λ means reads.
          let later = first_bad context (number + 1) lines bad reads in record {
            before = suc later.before;
            number = omega (arith, later.number);
            inside = omega (arith, later.inside);
            good = rw means later.good;
            refused = rw (add-one (suc later.before), means) (rw (add-one later.before) at later.refused);
          }
      | Gives directive ↦ λ means reads.
          let later = first_bad (after_directive context directive) (number + 1) lines bad (bad_later number directive (scan (after_directive context directive) (number + 1) lines) bad reads) in record {
            before = suc later.before;
            number = omega (arith, later.number);
            inside = omega (arith, later.inside);
            good = rw means (good_next number directive (scan (after_directive context directive) (number + 1) (take later.before lines)) later.good);
            refused = rw (add-one (suc later.before), means) (rw (rw (add-one later.before) at later.refused) refl);
          }
      | Bad ↦ λ means reads. record {
        before = 0;
        number = omega (arith, let same : number ≡ bad = cc reads in same);
        inside = omega arith;
        good = refl;
        refused = rw means reads;
      }
    ] in
    by_meaning (meaning_of context line) refl is

-- and where there is a first bad line, the whole text is bad there
pub bad_first : (context : Context) (number : ℕ) (lines : List (List ℕ)) (bad : ℕ) → FirstBad context number lines bad → scan context number lines ≡ Err bad
bad_first context number lines bad first =
    rw (take-append-drop (first.before + 1) lines) at (bad_stays context number (take (first.before + 1) lines) (drop (first.before + 1) lines) bad first.refused)
