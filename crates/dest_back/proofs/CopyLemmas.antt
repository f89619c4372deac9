-- Posts are copied one by one.
use Rattle.std.proofs.Common.{◌≡◌, ◌+◌, ◌<◌, ℕ, List, [], ◌∷◌, ◌++◌, length, take, drop, get_or, zero, suc, add-one, refl, ap, ◌∙◌, arith}
use Rattle.std.specs.Prelude.{slice_set}

copy_next : {X : Type 0} (i : ℕ) (xs ys : List X) (d : X) → i < length xs → length ys ≡ length xs
    → slice_set (take i xs ++ drop i ys) i (get_or xs i d) ≡ take (suc i) xs ++ drop (suc i) ys
copy_next i [] ys d h same = absurd (omega arith)
copy_next i (x ∷ xs) [] d h same = absurd (omega arith)
copy_next zero (x ∷ xs) (y ∷ ys) d h same = refl
copy_next (suc i) (x ∷ xs) (y ∷ ys) d h same = ap (λ (zs : List _). x ∷ zs) (copy_next i xs ys d (omega arith) (omega arith))

pub copy_one : {X : Type 0} (i : ℕ) (xs ys items : List X) (d v : X) → i < length xs → length ys ≡ length xs → items ≡ take i xs ++ drop i ys
    → v ≡ get_or xs i d → slice_set items i v ≡ take (i + 1) xs ++ drop (i + 1) ys
copy_one i xs ys items d v h same is value =
    ap (λ (w : _). slice_set items i w) value
    ∙ rw (is, add-one) (copy_next i xs ys d h same)
