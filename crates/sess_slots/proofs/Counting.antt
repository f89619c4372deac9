-- How many elements of a list pass a test, once some are taken out, changed or added behind.
use Rattle.std.proofs.Common.{◌≡◌, ℕ, suc, ◌+◌, ◌≤◌, Bool, true, false, cond, List, [], ◌∷◌, ◌++◌, length, Some, None, refl, arith}
use Rattle.std.specs.Prelude.{filter, find, not}
use Rattle.std.proofs.lemmas.Grind.{common_steps}
use Rattle.nfs_base.specs.Changed.{changed}

abbrev pub many : {X : Type 0} → (X → Bool) → List X → ℕ
many test xs = length (filter test xs)

many_least : {X : Type 0} (test : X → Bool) (x : X) (xs : List X) → many test xs ≤ many test (x ∷ xs)
many_least test x xs = grind (arith, common_steps)

many_most : {X : Type 0} (test : X → Bool) (x : X) (xs : List X) → many test (x ∷ xs) ≤ suc (many test xs)
many_most test x xs = grind (arith, common_steps)

pub filter_most : {X : Type 0} (test : X → Bool) (xs : List X) → length (filter test xs) ≤ length xs
filter_most test [] = omega arith
filter_most {X} test (x ∷ xs) = grind (arith, common_steps, filter_most test xs)

pub changed_most : {X : Type 0} (test : X → Bool) (f : X → X) (xs : List X) → length (changed test f xs) ≡ length xs
changed_most test f [] = refl
changed_most {X} test f (x ∷ xs) = grind (arith, common_steps, changed_most test f xs)

pub many_filter : {X : Type 0} (test stays : X → Bool) (xs : List X) → many test (filter stays xs) ≤ many test xs
many_filter test stays [] = omega arith
many_filter {X} test stays (x ∷ xs) = grind (arith, common_steps, many_filter test stays xs)

-- those that don't pass are none
pub none_left : {X : Type 0} (test : X → Bool) (xs : List X) → many test (filter (λ x. not (test x)) xs) ≡ 0
none_left test [] = refl
none_left {X} test (x ∷ xs) = grind (arith, common_steps, none_left test xs)

pub many_append : {X : Type 0} (test : X → Bool) (xs : List X) (x : X) → many test (xs ++ x ∷ []) ≡ many test xs + cond (test x) 1 0
many_append test [] x = grind (arith, common_steps)
many_append {X} test (y ∷ ys) x = grind (arith, common_steps, many_append test ys x)

-- ---- the first that passes another test is changed

-- where what doesn't pass doesn't pass when it is changed, no more pass
pub many_changed : {X : Type 0} (test first : X → Bool) (f : X → X) (xs : List X) → ((x : X) → test (f x) ≡ true → test x ≡ true) → many test (changed first f xs) ≤ many test xs
many_changed test first f [] fewer = omega arith
many_changed {X} test first f (x ∷ xs) fewer = grind (arith, common_steps, many_changed test first f xs fewer, fewer x)

-- whatever is changed, one more may pass
pub one_changed : {X : Type 0} (test first : X → Bool) (f : X → X) (xs : List X) → many test (changed first f xs) ≤ suc (many test xs)
one_changed test first f [] = omega arith
one_changed {X} test first f (x ∷ xs) = grind (arith, common_steps, one_changed test first f xs)

-- the one that is changed is known, and passes no more for it
pub same_changed : {X : Type 0} (test first : X → Bool) (f : X → X) (xs : List X) (c : X) → find first xs ≡ Some c → test (f c) ≡ test c → many test (changed first f xs) ≤ many test xs
same_changed test first f [] c found same = cc
same_changed {X} test first f (x ∷ xs) c found same = grind (arith, common_steps, same_changed test first f xs c)

-- one that is taken out passed the test
pub one_fewer : {X : Type 0} (test stays : X → Bool) (xs : List X) (o : X) → find test xs ≡ Some o → stays o ≡ false → suc (many test (filter stays xs)) ≤ many test xs
one_fewer test stays [] o found out = cc
one_fewer {X} test stays (x ∷ xs) o found out = grind (arith, common_steps, many_filter test stays xs, one_fewer test stays xs o)

-- the one that is changed didn't pass, and one that did is taken out
pub one_for_one : {X : Type 0} (test first stays : X → Bool) (f : X → X) (xs : List X) (c o : X) → find first xs ≡ Some c → test c ≡ false → find test xs ≡ Some o → stays o ≡ false
    → many test (filter stays (changed first f xs)) ≤ many test xs
one_for_one test first stays f [] c o found failed passed out = cc
one_for_one {X} test first stays f (x ∷ xs) c o found failed passed out =
    grind (arith, common_steps, one_fewer test stays xs o, many_filter test stays (changed first f xs), one_changed test first f xs, one_for_one test first stays f xs c o)

-- where none passes, none is found
pub none_found : {X : Type 0} (test : X → Bool) (xs : List X) → find test xs ≡ None → many test xs ≡ 0
none_found test [] found = refl
none_found {X} test (x ∷ xs) found = grind (arith, common_steps, none_found test xs)
