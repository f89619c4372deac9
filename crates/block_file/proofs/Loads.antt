-- Lists as they are read, one item after the other.
use Rattle.std.proofs.Common.{◌≡◌, ℕ, zero, suc, ◌+◌, ◌-◌, ◌<◌, ◌≤◌, if◌then◌else◌, nat_lt, Bool, None, Some, List, ◌++◌, sym, ◌∙◌, ap, subst, arith, inl, inr, append-nil, append_assoc}
use Rattle.std.proofs.lemmas.Bool.{cases_eq, cases_lt, lt-ltb, le-ltb}
use Rattle.block_file.specs.Layout.{size_in}
use Rattle.block_file.specs.Lists.{joined}
use Rattle.block_file.specs.Stored.{first_oversized}

-- one list more
pub joined-push : (n : ℕ) (f : ℕ → List ℕ) → joined (suc n) f ≡ joined n f ++ f n
joined-push zero f = append-nil (f 0)
joined-push (suc n) f =
    ap (λ (l : List ℕ). f 0 ++ l) (joined-push n (λ j. f (suc j)))
    ∙ sym (append_assoc (f 0) (joined n (λ j. f (suc j))) (f (suc n)))

-- the first of the files from number j on that is too large
pub oversized_step : (capacity : ℕ) (tables : ℕ → List ℕ) (j n : ℕ) → j < n
    → first_oversized capacity tables j (n - j)
    ≡ (if nat_lt capacity (size_in (tables j)) then Some j else first_oversized capacity tables (j + 1) (n - (j + 1)))
oversized_step capacity tables j n lt =
    let e : n - j ≡ suc (n - (j + 1)) = omega arith in
    ap (λ (k : ℕ). first_oversized capacity tables j k) e

pub oversized_here : (capacity : ℕ) (tables : ℕ → List ℕ) (j n : ℕ) → j < n → capacity < size_in (tables j)
    → first_oversized capacity tables j (n - j) ≡ Some j
oversized_here capacity tables j n lt large =
    oversized_step capacity tables j n lt
    ∙ ap (λ (t : Bool). if t then Some j else first_oversized capacity tables (j + 1) (n - (j + 1))) (lt-ltb capacity (size_in (tables j)) large)

pub oversized_later : (capacity : ℕ) (tables : ℕ → List ℕ) (j n : ℕ) → j < n → size_in (tables j) ≤ capacity
    → first_oversized capacity tables j (n - j) ≡ first_oversized capacity tables (j + 1) (n - (j + 1))
oversized_later capacity tables j n lt small =
    oversized_step capacity tables j n lt
    ∙ ap (λ (t : Bool). if t then Some j else first_oversized capacity tables (j + 1) (n - (j + 1))) (le-ltb capacity (size_in (tables j)) small)

-- where none is too large, each fits
pub oversized_none : (capacity : ℕ) (tables : ℕ → List ℕ) (j n : ℕ) → first_oversized capacity tables j n ≡ None
    → (i : ℕ) → j ≤ i → i < j + n → size_in (tables i) ≤ capacity
oversized_none capacity tables j zero none i from to = absurd (omega arith)
oversized_none capacity tables j (suc n) none i from to = elim (cases_lt capacity (size_in (tables j))) [
  | inl large ↦
      let some : first_oversized capacity tables j (suc n) ≡ Some j =
      ap (λ (t : Bool). if t then Some j else first_oversized capacity tables (j + 1) n) (lt-ltb capacity (size_in (tables j)) large) in
      absurd (cc)
  | inr small ↦
      let later : first_oversized capacity tables (j + 1) n ≡ None =
      sym (ap (λ (t : Bool). if t then Some j else first_oversized capacity tables (j + 1) n) (le-ltb capacity (size_in (tables j)) small)) ∙ none in
      elim (cases_eq i j) [
        | inl e ↦ subst (λ (k : ℕ). size_in (tables k) ≤ capacity) (sym e) small
        | inr ne ↦ oversized_none capacity tables (j + 1) n later i (omega arith) (omega arith)
      ]
]
