-- What holds of all of a list holds of all of it after a change.
use Rattle.std.proofs.Common.{◌≡◌, ℕ, zero, suc, Bool, true, false, cond, List, [], ◌∷◌, ◌++◌, get_or, map, replicate, set, Some, subst}
use Rattle.std.specs.Prelude.{filter, find, if◌then◌else◌}
use Rattle.std.specs.List.{AllByRecursion}
use Rattle.nfs_base.specs.Changed.{changed}

-- ---- by index

pub set_holds : {X : Type 0} (P : X → Type 0) (d : X) (xs : List X) (i : ℕ) (x : X) → ((j : ℕ) → P (get_or xs j d)) → P x → (j : ℕ) → P (get_or (set xs i x) j d)
set_holds P d [] i x h p j = h j
set_holds P d (y ∷ ys) zero x h p zero = p
set_holds P d (y ∷ ys) zero x h p (suc j) = h (suc j)
set_holds P d (y ∷ ys) (suc i) x h p zero = h 0
set_holds P d (y ∷ ys) (suc i) x h p (suc j) = set_holds P d ys i x (λ k. h (suc k)) p j

pub map_holds : {X Y : Type 0} (P : X → Type 0) (Q : Y → Type 0) (d : X) (e : Y) (f : X → Y) (xs : List X) → ((x : X) → P x → Q (f x)) → Q e
    → ((j : ℕ) → P (get_or xs j d)) → (j : ℕ) → Q (get_or (map f xs) j e)
map_holds P Q d e f [] each q h j = q
map_holds P Q d e f (x ∷ xs) each q h zero = each x (h 0)
map_holds P Q d e f (x ∷ xs) each q h (suc j) = map_holds P Q d e f xs each q (λ k. h (suc k)) j

pub same_holds : {X : Type 0} (P : X → Type 0) (d x : X) (n : ℕ) → P d → P x → (j : ℕ) → P (get_or (replicate n x) j d)
same_holds P d x zero p q j = p
same_holds P d x (suc n) p q zero = q
same_holds P d x (suc n) p q (suc j) = same_holds P d x n p q j

-- ---- by recursion

pub found_holds : {X : Type 0} (P : X → Type 0) (test : X → Bool) (xs : List X) (x : X) → AllByRecursion P xs → find test xs ≡ Some x → P x
found_holds P test [] x h is = absurd cc
found_holds {X} P test (y ∷ ys) x h is = by (test y) (λ there. found_holds P test ys x h.1 there) is
  where
    by : (b : Bool) → (find test ys ≡ Some x → P x) → cond b (Some y) (find test ys) ≡ Some x → P x
    by true more is = let same : y ≡ x = cc in subst P same h.0
    by false more is = more is

pub filter_holds : {X : Type 0} (P : X → Type 0) (test : X → Bool) (xs : List X) → AllByRecursion P xs → AllByRecursion P (filter test xs)
filter_holds P test [] h = tt
filter_holds P test (x ∷ xs) h = by (test x) (filter_holds P test xs h.1)
  where
    by : (b : Bool) → AllByRecursion P (filter test xs) → AllByRecursion P (cond b (x ∷ filter test xs) (filter test xs))
    by true more = (h.0, more)
    by false more = more

pub append_holds : {X : Type 0} (P : X → Type 0) (xs ys : List X) → AllByRecursion P xs → AllByRecursion P ys → AllByRecursion P (xs ++ ys)
append_holds P [] ys h k = k
append_holds P (x ∷ xs) ys h k = (h.0, append_holds P xs ys h.1 k)

pub changed_holds : {X : Type 0} (P : X → Type 0) (test : X → Bool) (f : X → X) (xs : List X) → ((x : X) → P x → P (f x)) → AllByRecursion P xs
    → AllByRecursion P (changed test f xs)
changed_holds P test f [] each h = tt
changed_holds P test f (x ∷ xs) each h = by (test x) (changed_holds P test f xs each h.1)
  where
    by : (b : Bool) → AllByRecursion P (changed test f xs) → AllByRecursion P (if b then f x ∷ xs else x ∷ changed test f xs)
    by true more = (each x h.0, h.1)
    by false more = (h.0, more)
