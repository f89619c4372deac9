-- Lists without the elements that pass a test.
use Rattle.std.proofs.Common.{suc, ◌+◌, ◌≤◌, Bool, true, false, List, [], ◌∷◌, length, Some, arith}
use Rattle.std.specs.Prelude.{not, find, filter, IsSome, if◌then◌else◌}

kept_at : {X : Type 0} (test : X → Bool) (x : X) (xs : List X) (b : Bool) → length (filter test xs) ≤ length xs
    → length (if b then x ∷ filter test xs else filter test xs) ≤ suc (length xs)
kept_at test x xs true le = omega arith
kept_at test x xs false le = omega arith

kept : {X : Type 0} (test : X → Bool) (xs : List X) → length (filter test xs) ≤ length xs
kept test [] = omega arith
kept test (x ∷ xs) = kept_at test x xs (test x) (kept test xs)

fewer_at : {X : Type 0} (test : X → Bool) (x : X) (xs : List X) (b : Bool) → IsSome (if b then Some x else find test xs)
    → (IsSome (find test xs) → length (filter (λ y. not (test y)) xs) + 1 ≤ length xs)
    → length (if not b then x ∷ filter (λ y. not (test y)) xs else filter (λ y. not (test y)) xs) + 1 ≤ suc (length xs)
fewer_at test x xs true there rest = let le = kept (λ y. not (test y)) xs in omega arith
fewer_at test x xs false there rest = let le = rest there in omega arith

-- where one passes, there are fewer without those that do
pub fewer : {X : Type 0} (test : X → Bool) (xs : List X) → IsSome (find test xs) → length (filter (λ y. not (test y)) xs) + 1 ≤ length xs
fewer test [] there = absurd (cc)
fewer test (x ∷ xs) there = fewer_at test x xs (test x) there (λ h. fewer test xs h)
