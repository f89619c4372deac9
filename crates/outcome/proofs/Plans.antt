-- What one more call does to the count of planned faults.
use Rattle.std.proofs.Common.{ℕ, ◌≡◌, ◌+◌, ◌≤◌, ◌==◌, ◌⊎◌, Bool, true, false, cond, List, [], ◌∷◌, inl, inr, arith, sym}
use Rattle.std.specs.List.{list_any}
use Rattle.std.specs.Bool.{OnTrue}
use Rattle.outcome.specs.Causes.{Rose}
use Rattle.std.proofs.lemmas.Bool.{or_cases}
use Rattle.std.proofs.lemmas.Bool.Decides.{nat_tests}
use Rattle.outcome.specs.Plan.{made_of, is_made}

-- a call that was made stays made
made-later : (calls n : ℕ) → cond (is_made calls n) 1 0 ≤ cond (is_made (calls + 1) n) 1 0
made-later calls n = grind (arith, nat_tests)

-- a call becomes made by being the next
made-due : (calls n : ℕ) → (n == calls + 1) ≡ true → cond (is_made calls n) 1 0 + 1 ≤ cond (is_made (calls + 1) n) 1 0
made-due calls n due = grind (arith, nat_tests)

pub made_of-later : (calls : ℕ) (failing : List ℕ) → made_of calls failing ≤ made_of (calls + 1) failing
made_of-later calls [] = omega arith
made_of-later calls (n ∷ others) = omega (arith, made-later calls n, made_of-later calls others)

pub made_of-due : (calls : ℕ) (failing : List ℕ) → list_any (λ n. n == calls + 1) failing ≡ true
    → made_of calls failing + 1 ≤ made_of (calls + 1) failing
made_of-due calls [] due = cc
made_of-due calls (n ∷ others) due =
    let split : ((n == calls + 1) ≡ true) ⊎ (list_any (λ m. m == calls + 1) others ≡ true) = or_cases _ _ due in
    elim split [
      | inl here ↦ omega (arith, made-due calls n here, made_of-later calls others)
      | inr there ↦ omega (arith, made-later calls n, made_of-due calls others there)
    ]

-- where the next call is listed, the count rises
pub made_of-rose : (calls : ℕ) (failing listed : List ℕ) (due : Bool) → listed ≡ failing
    → due ≡ list_any (λ n. n == calls + 1) listed
    → OnTrue due (Rose (made_of calls failing) (made_of (calls + 1) failing))
made_of-rose calls failing listed true same is =
    let rises = made_of-due calls failing (rw (← same) (sym is)) in
    omega (arith, rises)
made_of-rose calls failing listed false same is = tt
