-- Laws of a list of which one element is changed: where that is found by its place, and what stays true.
use Rattle.std.proofs.Common.{◌≡◌, ℕ, Bool, true, false, List, [], ◌∷◌, get_or, set, Option, Some, None, refl, ap, sym, ◌∙◌, arith}
use Rattle.std.specs.Prelude.{position, if◌then◌else◌, All}
use Rattle.std.proofs.lemmas.Grind.{common_steps}
use Rattle.std.proofs.lemmas.List.Elements.{All-nil, All-cons, All-head, All-tail, All-weaker}
use Rattle.nfs_base.specs.Changed.{changed}

changed_at : {X : Type 0} (test : X → Bool) (f : X → X) (xs : List X) (i : ℕ) (d : X) → position test xs ≡ Some i → changed test f xs ≡ set xs i (f (get_or xs i d))
changed_at test f [] i d h = cc
changed_at test f (x ∷ xs) i d h = grind (arith, common_steps, changed_at test f xs)

changed_none : {X : Type 0} (test : X → Bool) (f : X → X) (xs : List X) → position test xs ≡ None → changed test f xs ≡ xs
changed_none test f [] h = refl
changed_none test f (x ∷ xs) h = grind (arith, common_steps, changed_none test f xs)

-- the element at the place that `position` gives is changed
pub changed_by : {X : Type 0} (test : X → Bool) (f : X → X) (xs : List X) (r : Option ℕ) (i : ℕ) (x : X) → r ≡ position test xs → r ≡ Some i → x ≡ get_or xs i x → set xs i (f x) ≡ changed test f xs
changed_by test f xs r i x places is value = ap (λ y. set xs i (f y)) value ∙ sym (changed_at test f xs i x (sym places ∙ is))

-- where there is none, none is changed
pub unchanged_by : {X : Type 0} (test : X → Bool) (f : X → X) (xs : List X) (r : Option ℕ) → r ≡ position test xs → r ≡ None → xs ≡ changed test f xs
unchanged_by test f xs r places is = sym (changed_none test f xs (sym places ∙ is))

-- what holds of each element and is kept by the change holds of each afterwards
pub All-changed : {X : Type 0} (P Q : X → Type 0) (test : X → Bool) (f : X → X) (xs : List X) → ((x : X) → P x → Q x) → ((x : X) → P x → Q (f x)) → All P xs → All Q (changed test f xs)
All-changed P Q test f [] stays goes h = All-nil Q
All-changed {X} P Q test f (x ∷ xs) stays goes h =
    let first = All-head P x xs h in
    elim (test x) as (λ b. All Q (if b then f x ∷ xs else x ∷ changed test f xs)) [
      | true ↦ All-cons Q (f x) xs (goes x first) (All-weaker P Q stays xs (All-tail P x xs h))
      | false ↦ All-cons Q x (changed test f xs) (stays x first) (All-changed P Q test f xs stays goes (All-tail P x xs h))
    ]
