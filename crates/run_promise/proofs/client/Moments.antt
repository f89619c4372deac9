-- The client at each moment of the run of accepted events.
use Rattle.std.proofs.Common.{◌≡◌, ℕ, zero, suc, ◌<◌, Bool, true, false, List, [], ◌∷◌, Option, Some, None, refl, sym, subst, arith}
use Rattle.std.proofs.lemmas.List.{get_or-replicate}
use Rattle.std.specs.Prelude.{drop, nat_lt, slice_get}
use Rattle.client_copies.specs.declared.table.TheConstants.{MOST_COPIES}
use Rattle.client_core.specs.State.{new_client}
use Rattle.client_core.specs.Telling.{copy_if}
use Rattle.client_steps.specs.declared.setting.Setting.{Setting}
use Rattle.run_ends.specs.Ends.{RunStep, RunWorld, Words, machines}
use Rattle.run_promise.proofs.client.Along.{AllMay, IsWithin}
use Rattle.run_promise.specs.Client.Along.{MayAct, MayGo, act_by, client_at, codes_of, run_at, second_by}
use Rattle.run_promise.specs.System.Moments.{made_at}
use Rattle.run_promise.specs.System.System.{telling}
use Rattle.wire_machine.specs.Ends.{ClientAct}
use Rattle.wire_machine.specs.Steps.{AreSteps}
use Rattle.wire_model.specs.Meaning.{Meaning}
use Rattle.wire_model.specs.Spelling.{Spelling}
use Rattle.wire_schedule.specs.Admission.{at_start}

-- ---- a new client

no_copy : (b : Bool) (j : ℕ) (M : Type 0) (s : Setting M) → nat_lt j MOST_COPIES ≡ b → copy_if b j (new_client s) ≡ None
no_copy true j M s is =
    let small : j < MOST_COPIES = grind (arith, is) in
    get_or-replicate MOST_COPIES j None None small
no_copy false j M s is = refl

pub begins_within : {M : Type 0} (s : Setting M) → IsWithin at_start.begun (new_client s)
begins_within {M} s = record { size = refl; none = λ j new. no_copy (nat_lt j MOST_COPIES) j M s refl; few = omega arith }

-- ---- a list behind its first few

drop_one : {X : Type 0} (xs : List X) (k : ℕ) (x : X) → slice_get xs k ≡ Some x → drop k xs ≡ x ∷ drop (suc k) xs
drop_one [] k x is = absurd (cc)
drop_one (y ∷ xs) zero x is = cc
drop_one (y ∷ xs) (suc k) x is = drop_one xs k x is

drop_past : {X : Type 0} (xs : List X) (k : ℕ) → slice_get xs k ≡ None → drop (suc k) xs ≡ []
drop_past [] k is = refl
drop_past (y ∷ xs) zero is = absurd (cc)
drop_past (y ∷ xs) (suc k) is = drop_past xs k is

module _ {M : Type 0} (words : Words M ℕ) (spell : Spelling) (meaning : Meaning) (first : RunWorld M) (steps : List (RunStep M))
    (are : AreSteps (machines words) first steps) (all : AllMay first steps) where
  rest_next : (k : ℕ) (o : Option (RunStep M)) → slice_get steps k ≡ o → AllMay (run_at words spell meaning first steps k) (drop k steps)
      → AllMay (run_at words spell meaning first steps (suc k)) (drop (suc k) steps)
  rest_next k None is here =
      subst (λ (xs : List (RunStep M)). AllMay (run_at words spell meaning first steps (suc k)) xs) (sym (drop_past steps k is)) tt
  rest_next k (Some s) is here =
      let both : AllMay (run_at words spell meaning first steps k) (s ∷ drop (suc k) steps) =
      subst (λ (xs : List (RunStep M)). AllMay (run_at words spell meaning first steps k) xs) (drop_one steps k s is) here in
      subst (λ (w : RunWorld M). AllMay w (drop (suc k) steps))
      (sym (made_at (machines words) (telling (codes_of words)) spell meaning first steps k s are is).after) both.1

  rest_at : (k : ℕ) → AllMay (run_at words spell meaning first steps k) (drop k steps)
  rest_at zero = all
  rest_at (suc k) = rest_next k (slice_get steps k) refl (rest_at k)

  may_by : (k : ℕ) (o : Option (RunStep M)) (act : ClientAct) → slice_get steps k ≡ o → act_by o (run_at words spell meaning first steps k) ≡ Some act
      → MayAct act (second_by o (run_at words spell meaning first steps k)) (client_at words spell meaning first steps k)
      (client_at words spell meaning first steps (suc k))
  may_by k None act is acts = absurd (cc)
  may_by k (Some s) act is acts =
      let both : AllMay (run_at words spell meaning first steps k) (s ∷ drop (suc k) steps) =
      subst (λ (xs : List (RunStep M)). AllMay (run_at words spell meaning first steps k) xs) (drop_one steps k s is) (rest_at k) in
      subst (λ (w : RunWorld M). MayAct act (second_by (Some s) (run_at words spell meaning first steps k))
      (client_at words spell meaning first steps k) w.client)
      (sym (made_at (machines words) (telling (codes_of words)) spell meaning first steps k s are is).after) (both.0 act acts)

  pub may_go : MayGo words spell meaning first steps
  may_go k act acts = may_by k (slice_get steps k) act refl acts
