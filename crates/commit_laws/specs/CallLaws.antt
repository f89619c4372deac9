-- No call, and calls in two parts.
use Rattle.std.proofs.Common.{◌≡◌, List, [], ◌∷◌, ◌++◌, refl, sym, ap, subst, ◌∙◌, append_assoc, append-nil}
use Rattle.server_volume.specs.declared.used.Used.{Used}
use Rattle.server_volume.specs.Calls.{left_by, call_of}
use Rattle.server_volume.specs.Moments.{Made, AreTaken, after_calls, uses_of}
use Rattle.server_volume.specs.Store.{Store}
use Rattle.commit_laws.specs.Calling.{CameByCalls}

-- a store that stays came by no call
pub by_none : (old new : Store) (used more : List Used) → new ≡ old → more ≡ used → CameByCalls old new used more
by_none old new used more same none =
    record { calls = []; noted = none ∙ sym (append-nil used); taken = tt; store = same }

after_both : (s : Store) (first second : List Made) → after_calls s (first ++ second) ≡ after_calls (after_calls s first) second
after_both s [] second = refl
after_both s (m ∷ ms) second = after_both (left_by m.asked m.answer s) ms second

uses_both : (s : Store) (first second : List Made) → uses_of s (first ++ second) ≡ uses_of s first ++ uses_of (after_calls s first) second
uses_both s [] second = refl
uses_both s (m ∷ ms) second =
    ap (λ (us : List Used). record { call = call_of m.asked s; answer = m.answer } ∷ us) (uses_both (left_by m.asked m.answer s) ms second)

taken_both : (s : Store) (first second : List Made) → AreTaken s first → AreTaken (after_calls s first) second → AreTaken s (first ++ second)
taken_both s [] second before after = after
taken_both s (m ∷ ms) second before after = (before.0, taken_both (left_by m.asked m.answer s) ms second before.1 after)

-- one part behind another
pub by_both : (old middle new : Store) (used some more : List Used) → CameByCalls old middle used some → CameByCalls middle new some more
    → CameByCalls old new used more
by_both old middle new used some more first second =
    let from : middle ≡ after_calls old first.calls = first.store in
    record {
      calls = first.calls ++ second.calls;
      noted =
          second.noted ∙ ap (λ (us : List Used). us ++ uses_of middle second.calls) first.noted
          ∙ append_assoc used (uses_of old first.calls) (uses_of middle second.calls)
          ∙ ap (λ (s : Store). used ++ (uses_of old first.calls ++ uses_of s second.calls)) from
          ∙ ap (λ (us : List Used). used ++ us) (sym (uses_both old first.calls second.calls));
      taken = taken_both old first.calls second.calls first.taken (subst (λ (s : Store). AreTaken s second.calls) from second.taken);
      store = second.store ∙ ap (λ (s : Store). after_calls s second.calls) from ∙ sym (after_both old first.calls second.calls);
    }
