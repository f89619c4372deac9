-- Which flags are set once one more is, or one less.
use Rattle.std.proofs.Common.{◌≡◌, ⊎_elim, ◌⊎◌, inl, inr, ℕ, zero, suc, Bool, true, false, List, [], ◌∷◌, set, refl, ap, arith}
use Rattle.job_log.specs.Bits.{flag}

pub set_true : (xs : List Bool) (n j : ℕ) → flag (set xs n true) j ≡ true → (j ≡ n) ⊎ (flag xs j ≡ true)
set_true [] n j is = inr is
set_true (x ∷ xs) zero zero is = inl refl
set_true (x ∷ xs) zero (suc j) is = inr is
set_true (x ∷ xs) (suc n) zero is = inr is
set_true (x ∷ xs) (suc n) (suc j) is = ⊎_elim (λ (here : j ≡ n). inl (ap suc here)) (λ (there : flag xs j ≡ true). inr there) (set_true xs n j is)

pub set_false : (xs : List Bool) (n j : ℕ) → flag (set xs n false) j ≡ true → (n ≡ j → ⊥) × (flag xs j ≡ true)
set_false [] n j is = absurd (cc)
set_false (x ∷ xs) zero zero is = absurd (cc)
set_false (x ∷ xs) zero (suc j) is = ((λ (e : zero ≡ suc j). absurd (cc)), is)
set_false (x ∷ xs) (suc n) zero is = ((λ (e : suc n ≡ zero). absurd (cc)), is)
set_false (x ∷ xs) (suc n) (suc j) is = let rest = set_false xs n j is in ((λ (e : suc n ≡ suc j). rest.0 (omega arith)), rest.1)
