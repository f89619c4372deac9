-- What one call does to a volume, as the promise speaks of it. Own laws.
use Rattle.std.proofs.Common.{◌≡◌, ℕ, ◌+◌, ◌-◌, ◌<◌, ◌≤◌, ◌^◌, Bool, true, false, Option, Some, None, List, [], ◌∷◌, ◌++◌, length, refl, ap, subst, ◌∙◌, arith, ◌==◌}
use Rattle.std.specs.Prelude.{nat_lt, if◌then◌else◌}
use Rattle.std.proofs.lemmas.Bool.{eqb-false}
use Rattle.std.proofs.lemmas.List.{length-append}
use Rattle.copy_model.specs.Effect.{Effect, Rests, Writes, Commits, WriteFails, CommitFails, IsAllowed, IsCrashOf, after}
use Rattle.copy_model.specs.Volume.{Volume}
use Rattle.block_file.specs.Opened.{refusal_of}
use Rattle.block_file.specs.declared.faults.WriteFault.{WriteFault}
use Rattle.block_file.specs.declared.faults.WriteFault.TheVariants as fault
use Rattle.server_volume.specs.declared.used.CallAnswer.{CallAnswer}
use Rattle.server_volume.specs.declared.used.CallAnswer.TheVariants.{Done, DiskFailed, Refused}
use Rattle.server_volume.specs.declared.used.Used.{Used}
use Rattle.server_volume.specs.Store.{Store, Seat}
use Rattle.server_volume.specs.Calls as calls
use Rattle.server_volume.specs.Calls.{Asked, left_by}
use Rattle.server_volume.specs.Moments.{Made, Ran, IsTaken, AreTaken, after_calls, uses_of}

-- What was done to a volume was one effect that is allowed, and no crash.
pub record HasEffect (before now : Volume) : Type 0 where
  pub effect : Effect
  pub allowed : IsAllowed before effect
  pub is : now ≡ after before effect
  pub no_crash : IsCrashOf effect → ⊥

nothing_done : (v : Volume) → HasEffect v v
nothing_done v = record { effect = Rests; allowed = tt; is = refl; no_crash = λ h. h }

-- a write that is taken still has a number
numbered_test : (far worn : Bool) → (if far then Some fault.TooFar else (if worn then Some fault.Worn else None)) ≡ None → worn ≡ false
numbered_test true worn e = absurd cc
numbered_test false true e = absurd cc
numbered_test false false e = refl

numbered : (broken : Bool) (writes capacity off len : ℕ) → refusal_of broken writes capacity off len ≡ None → (writes == 4294967295) ≡ false
numbered true writes capacity off len e = absurd cc
numbered false writes capacity off len e = numbered_test (nat_lt capacity (off + len)) (writes == 4294967295) e

below : (n : ℕ) → n < 2 ^ 32 → (n == 4294967295) ≡ false → n < 2 ^ 32 - 1
below n few e =
    let other : n ≡ 4294967295 → ⊥ = eqb-false n 4294967295 e in
    omega (arith, other)

one_effect : (asked : Asked) (answer : CallAnswer) (s : Store) → s.volume.writes < 2 ^ 32 → IsTaken answer s asked
    → HasEffect s.volume (left_by asked answer s).volume
one_effect asked Refused s few taken = nothing_done s.volume
one_effect (calls.Reads file off len) Done s few taken = nothing_done s.volume
one_effect (calls.Reads file off len) DiskFailed s few taken = nothing_done s.volume
one_effect (calls.Writes file off bytes) Done s few taken =
    let v = s.volume in
    let fresh = numbered v.broken v.writes v.capacity off (length bytes) taken.1 in
    record {
      effect = Writes file off bytes;
      allowed = ((taken.0.whole, taken.0.there), below v.writes few fresh);
      is = refl;
      no_crash = λ h. h;
    }
one_effect (calls.Writes file off bytes) DiskFailed s few taken =
    record { effect = WriteFails; allowed = taken.0.whole; is = refl; no_crash = λ h. h }
one_effect (calls.Commits file) Done s few taken =
    record { effect = Commits file; allowed = (taken.whole, taken.there); is = refl; no_crash = λ h. h }
one_effect (calls.Commits file) DiskFailed s few taken =
    record { effect = CommitFails file; allowed = (taken.whole, taken.there); is = refl; no_crash = λ h. h }

-- the volume now is one that the effect leaves
along : (before left now : Volume) → now ≡ left → HasEffect before left → HasEffect before now
along before left now same done = record { effect = done.effect; allowed = done.allowed; is = same ∙ done.is; no_crash = done.no_crash }

two_calls : (used rest : List Used) (first second : Used) → length (used ++ first ∷ second ∷ rest) ≤ length used + 1 → ⊥
two_calls used rest first second few = omega (arith, length-append used (first ∷ second ∷ rest))

effect_by : (s : Store) (ms : List Made) (now : Store) (used more : List Used) → s.volume.writes < 2 ^ 32 → AreTaken s ms → now ≡ after_calls s ms
    → more ≡ used ++ uses_of s ms → length more ≤ length used + 1 → HasEffect s.volume now.volume
effect_by s [] now used more few taken is noted one = along s.volume s.volume now.volume (ap (λ (x : Store). x.volume) is) (nothing_done s.volume)
effect_by s (m ∷ []) now used more few taken is noted one =
    along s.volume (left_by m.asked m.answer s).volume now.volume (ap (λ (x : Store). x.volume) is) (one_effect m.asked m.answer s few taken.0)
effect_by s (m ∷ n ∷ ms) now used more few taken is noted one =
    absurd (two_calls used _ _ _ (subst (λ (us : List Used). length us ≤ length used + 1) noted one))

pub effect_of_one : (old new : Seat) (used more : List Used) → Ran old new used more → length more ≤ length used + 1
    → old.store.volume.writes < 2 ^ 32 → HasEffect old.store.volume new.store.volume
effect_of_one old new used more ran one few = effect_by old.store ran.calls new.store used more few ran.taken ran.store ran.noted one
