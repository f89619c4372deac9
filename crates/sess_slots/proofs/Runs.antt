-- What a run of calls on a slot executes.
use Rattle.std.proofs.Common.{◌≡◌, ℕ, zero, suc, ◌+◌, ◌<◌, ◌≤◌, ◌%◌, ◌^◌, Bool, true, false, List, [], ◌∷◌, length, Option, Some, None, refl, ap, sym, ◌∙◌, subst, add-zero, add-one, arith}
use Rattle.std.specs.Prelude.{◌==◌, if◌then◌else◌, slice_index}
use Rattle.std.proofs.lemmas.Bool.{eqb-true}
use Rattle.sess_slots.specs.declared.answers.Begin.TheVariants.{New, Replay, FalseRetry, Misordered}
use Rattle.sess_slots.specs.declared.answers.Place.{Place}
use Rattle.sess_slots.specs.declared.slot.Slot.{Slot}
use Rattle.sess_slots.specs.declared.slot.Kept.{Kept}
use Rattle.sess_slots.specs.Slots.{next_number, retry_at, after_reply}
use Rattle.sess_slots.specs.Runs.{SlotCall, is_new, runs_call, after_call, executed}

retry_not_new : (kept : Option Kept) (root : ℕ) (place : Place) → is_new (retry_at kept root place) ≡ false
retry_not_new None root place = refl
retry_not_new (Some kept) root place =
    elim (kept.root == root) as (λ b. is_new (if b then Replay place else FalseRetry) ≡ false) [ true ↦ refl | false ↦ refl ]

-- a call is executed exactly where its number is the slot's next one
runs_next : (place : Place) (slot : Slot) (call : SlotCall) → runs_call place slot call ≡ (call.number == next_number slot.last)
runs_next place slot call =
    elim (call.number == next_number slot.last) as (λ b. is_new (if b then New place else (if call.number == slot.last then retry_at slot.kept call.root place else Misordered)) ≡ b) [
      | true ↦ refl
      | false ↦ elim (call.number == slot.last) as (λ b. is_new (if b then retry_at slot.kept call.root place else Misordered) ≡ false) [
        | true ↦ retry_not_new slot.kept call.root place
        | false ↦ refl
      ]
    ]

-- the place in the order moves on by one with each number that is executed
moved_on : (last k : ℕ) → (next_number last + 1 + k) % 2 ^ 32 ≡ (last + 1 + (k + 1)) % 2 ^ 32
moved_on last k = omega arith

-- one call more in front: where it is executed, the rest goes on from its number
in_order_at : (b : Bool) (number last : ℕ) (rest : List ℕ) (k : ℕ)
    → (b ≡ true → number ≡ next_number last)
    → (b ≡ true → (m : ℕ) → m < length rest → slice_index rest m ≡ (next_number last + 1 + m) % 2 ^ 32)
    → (b ≡ false → (m : ℕ) → m < length rest → slice_index rest m ≡ (last + 1 + m) % 2 ^ 32)
    → k < length (if b then number ∷ rest else rest)
    → slice_index (if b then number ∷ rest else rest) k ≡ (last + 1 + k) % 2 ^ 32
in_order_at true number last rest zero is runs stays h = is refl ∙ ap (λ n. n % 2 ^ 32) (sym (add-zero (last + 1)))
in_order_at true number last rest (suc k) is runs stays h =
    let within : k < length rest = omega arith in
    runs refl k within ∙ moved_on last k ∙ ap (λ n. (last + 1 + n) % 2 ^ 32) (add-one k)
in_order_at false number last rest k is runs stays h = stays refl k h

pub in_order : (place : Place) (slot : Slot) (calls : List SlotCall) (k : ℕ) → k < length (executed place slot calls) → slice_index (executed place slot calls) k ≡ (slot.last + 1 + k) % 2 ^ 32
in_order place slot [] k h = omega arith
in_order place slot (call ∷ calls) k h =
    let next = runs_next place slot call in
    let later = in_order place (after_call place slot call) calls in
    in_order_at (runs_call place slot call) call.number slot.last (executed place (after_call place slot call) calls) k
    (λ e. eqb-true call.number (next_number slot.last) (sym next ∙ e))
    (λ e. subst (λ n. (m : ℕ) → m < length (executed place (after_call place slot call) calls) → slice_index (executed place (after_call place slot call) calls) m ≡ (n + 1 + m) % 2 ^ 32) (ap (λ b. (if b then after_reply slot call.root call.reply else slot).last) e) later)
    (λ e. subst (λ n. (m : ℕ) → m < length (executed place (after_call place slot call) calls) → slice_index (executed place (after_call place slot call) calls) m ≡ (n + 1 + m) % 2 ^ 32) (ap (λ b. (if b then after_reply slot call.root call.reply else slot).last) e) later)
    h

-- two places of one number are 2^32 apart
pub apart : (a i j : ℕ) → i < j → (a + i) % 2 ^ 32 ≡ (a + j) % 2 ^ 32 → i + 2 ^ 32 ≤ j
apart a i j below same = omega arith

pub once : (place : Place) (slot : Slot) (calls : List SlotCall) (i j : ℕ) → i < j → j < length (executed place slot calls) → slice_index (executed place slot calls) i ≡ slice_index (executed place slot calls) j → i + 2 ^ 32 ≤ j
once place slot calls i j below there same =
    let first_there : i < length (executed place slot calls) = omega arith in
    apart (slot.last + 1) i j below (sym (in_order place slot calls i first_there) ∙ same ∙ in_order place slot calls j there)
