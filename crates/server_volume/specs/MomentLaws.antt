-- Calls one after the other: what they leave, how they are noted, and what a crash inside them may leave.
use Rattle.std.proofs.Common.{◌≡◌, List, [], ◌∷◌, ◌++◌, ◌+◌, refl, sym, ap, subst, ◌∙◌, append_assoc, append-nil, inl, inr, arith}
use Rattle.disk_model.specs.Disk.{Image}
use Rattle.disk_model.specs.Passes.{passes_none, passes_on}
use Rattle.server_volume.specs.declared.used.Used.{Used}
use Rattle.server_volume.specs.Calls.{left_by, call_of}
use Rattle.server_volume.specs.Store.{Store, Seat}
use Rattle.server_volume.specs.Moments.{Counted, Made, Ran, after_calls, failed_in, failures_in, stores_within, uses_of, AreTaken, NowLeft, LeftBy}

-- no call
pub ran_none : (seat : Seat) (used : List Used) → Ran seat seat used used
ran_none seat used = record {
  calls = [];
  noted = sym (append-nil used);
  taken = tt;
  store = refl;
  moments = λ stores now covered. passes_none (LeftBy stores) seat.fuse seat.timeline now;
}

after_both : (s : Store) (first second : List Made) → after_calls s (first ++ second) ≡ after_calls (after_calls s first) second
after_both s [] second = refl
after_both s (m ∷ ms) second = after_both (left_by m.asked m.answer s) ms second

uses_both : (s : Store) (first second : List Made) → uses_of s (first ++ second) ≡ uses_of s first ++ uses_of (after_calls s first) second
uses_both s [] second = refl
uses_both s (m ∷ ms) second =
    ap (λ (us : List Used). record { call = call_of m.asked s; answer = m.answer } ∷ us) (uses_both (left_by m.asked m.answer s) ms second)

taken_both : (s : Store) (first second : List Made) → AreTaken s first → AreTaken (after_calls s first) second → AreTaken s (first ++ second)
taken_both s [] second before after = after
taken_both s (m ∷ ms) second before after = (before.0, taken_both (left_by m.asked m.answer s) ms second before.1 after)

-- what a crash inside the calls of one part may leave, one inside all of them may
covered_first : (s : Store) (first second : List Made) (image : Image) → LeftBy (stores_within s first) image → LeftBy (stores_within s (first ++ second)) image
covered_first s [] second image left = elim left [ ]
covered_first s (m ∷ ms) second image left =
    elim left [ inl here ↦ inl here | inr later ↦ inr (covered_first (left_by m.asked m.answer s) ms second image later) ]

covered_second : (s : Store) (first second : List Made) (image : Image)
    → LeftBy (stores_within (after_calls s first) second) image → LeftBy (stores_within s (first ++ second)) image
covered_second s [] second image left = left
covered_second s (m ∷ ms) second image left = inr (covered_second (left_by m.asked m.answer s) ms second image left)

-- two parts
pub ran_on : (old middle new : Seat) (used some more : List Used) → Ran old middle used some → Ran middle new some more → Ran old new used more
ran_on old middle new used some more before after =
    let stores_are : middle.store ≡ after_calls old.store before.calls = before.store in
    record {
      calls = before.calls ++ after.calls;
      noted =
          after.noted ∙ ap (λ (us : List Used). us ++ uses_of middle.store after.calls) before.noted
          ∙ append_assoc used (uses_of old.store before.calls) (uses_of middle.store after.calls)
          ∙ ap (λ (s : Store). used ++ (uses_of old.store before.calls ++ uses_of s after.calls)) stores_are
          ∙ ap (λ (us : List Used). used ++ us) (sym (uses_both old.store before.calls after.calls));
      taken = taken_both old.store before.calls after.calls before.taken (subst (λ (s : Store). AreTaken s after.calls) stores_are after.taken);
      store =
          after.store ∙ ap (λ (s : Store). after_calls s after.calls) stores_are
          ∙ sym (after_both old.store before.calls after.calls);
      moments = λ stores now covered.
          let first = before.moments stores now (λ image left. covered image (covered_first old.store before.calls after.calls image left)) in
          let present_left : NowLeft middle.timeline stores = λ image left. first.each middle.timeline.latest first.time.later (omega arith) image left in
          let second = after.moments stores present_left
          (λ image left. covered image (covered_second old.store before.calls after.calls image
          (subst (λ (s : Store). LeftBy (stores_within s after.calls) image) stores_are left))) in
          passes_on (LeftBy stores) old.fuse middle.fuse new.fuse old.timeline middle.timeline new.timeline first second;
    }

-- ---- of any disk

failures_both : (first second : List Used) → failures_in (first ++ second) ≡ failures_in first + failures_in second
failures_both [] second = omega arith
failures_both (u ∷ us) second = omega (arith, failures_both us second)

pub counted_none : (told : Type 0) (seat : Seat) (used : List Used) → Counted told seat seat used used
counted_none told seat used = record {
  added = [];
  noted = sym (append-nil used);
  as_large = refl;
  rose = omega arith;
  ran = λ t. ran_none seat used;
}

pub counted_on : (told : Type 0) (old middle new : Seat) (used some more : List Used) → Counted told old middle used some → Counted told middle new some more
    → Counted told old new used more
counted_on told old middle new used some more before after = record {
  added = before.added ++ after.added;
  noted =
      after.noted ∙ ap (λ (us : List Used). us ++ after.added) before.noted
      ∙ append_assoc used before.added after.added;
  as_large = after.as_large ∙ before.as_large;
  rose = omega (arith, before.rose, after.rose, failures_both before.added after.added);
  ran = λ t. ran_on old middle new used some more (before.ran t) (after.ran t);
}
