-- The numbers that one slot's calls have.
use Rattle.std.proofs.Common.{◌≡◌, ℕ, zero, suc, ◌+◌, ◌<◌, Bool, true, false, List, [], ◌∷◌, length, refl, ap, sym, ◌∙◌, subst, add-zero, arith}
use Rattle.std.specs.Prelude.{◌==◌, if◌then◌else◌, slice_index}
use Rattle.std.proofs.lemmas.Bool.{eqb-true, eqb-false}
use Rattle.std.proofs.lemmas.Grind.{get_or-set_at}
use Rattle.std.proofs.lemmas.List.{get_or-set_other, get_or-replicate, length-set}
use Rattle.nfs_base.specs.declared.limits.TheConstants.{SLOTS}
use Rattle.session_client.specs.Slots.{fresh_numbers, after_new, given_in}

-- one call more in front: where it is of the slot, the rest goes on from its number
one_more : (b : Bool) (number next : ℕ) (rest : List ℕ) (k : ℕ)
    → (b ≡ true → number ≡ next)
    → (b ≡ true → (m : ℕ) → m < length rest → slice_index rest m ≡ next + 1 + m)
    → (b ≡ false → (m : ℕ) → m < length rest → slice_index rest m ≡ next + m)
    → k < length (if b then number ∷ rest else rest)
    → slice_index (if b then number ∷ rest else rest) k ≡ next + k
one_more true number next rest zero is behind other h = is refl ∙ sym (add-zero next)
one_more true number next rest (suc k) is behind other h =
    let within : k < length rest = omega arith in
    let there = behind refl k within in
    omega (arith, there)
one_more false number next rest k is behind other h = other refl k h

pub count_up : (slot : ℕ) (numbers slots : List ℕ) (k : ℕ) → slot < length numbers → k < length (given_in slot numbers slots)
    → slice_index (given_in slot numbers slots) k ≡ slice_index numbers slot + k
count_up slot numbers [] k there h = absurd (omega arith)
count_up slot numbers (of ∷ slots) k there h =
    let later = λ (m : ℕ). count_up slot (after_new numbers of) slots m (subst (λ n. slot < n) (sym (length-set numbers of (slice_index numbers of + 1))) there) in
    one_more (of == slot) (slice_index numbers of) (slice_index numbers slot) (given_in slot (after_new numbers of) slots) k
    (λ e. ap (slice_index numbers) (eqb-true of slot e))
    (λ e m within.
    let same = eqb-true of slot e in
    later m within
    ∙ ap (λ n. n + m) (get_or-set_at numbers of slot (slice_index numbers of + 1) 0 (sym same) (subst (λ n. n < length numbers) (sym same) there) ∙ ap (λ n. slice_index numbers n + 1) same))
    (λ e m within. later m within ∙ ap (λ n. n + m) (get_or-set_other numbers of slot (slice_index numbers of + 1) 0 (λ x. eqb-false of slot e (sym x))))
    h

pub count_from_one : (slot k : ℕ) (slots : List ℕ) → slot < SLOTS → k < length (given_in slot fresh_numbers slots)
    → slice_index (given_in slot fresh_numbers slots) k ≡ 1 + k
count_from_one slot k slots there h =
    count_up slot fresh_numbers slots k there h ∙ ap (λ n. n + k) (get_or-replicate SLOTS slot 1 0 there)
