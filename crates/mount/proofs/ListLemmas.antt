-- Lists that are changed element by element.
use Rattle.std.specs.Prelude.{◌≡◌, ◌+◌, ◌<◌, ℕ, List, [], ◌∷◌, ◌++◌, length, take, drop, slice_set, map, refl}
use Rattle.std.proofs.Common.{◌∙◌, ap, arith, add-one, get_or, zero, suc}

map_next : {X : Type 0} (f : X → X) (i : ℕ) (xs : List X) (d : X) → i < length xs
    → slice_set (map f (take i xs) ++ drop i xs) i (f (get_or (map f (take i xs) ++ drop i xs) i d)) ≡ map f (take (suc i) xs) ++ drop (suc i) xs
map_next f i [] d h = absurd (omega arith)
map_next f zero (x ∷ xs) d h = refl
map_next f (suc i) (x ∷ xs) d h = ap (λ (ys : List _). f x ∷ ys) (map_next f i xs d (omega arith))

pub map_one : {X : Type 0} (f : X → X) (i : ℕ) (xs items : List X) (d v : X) → i < length xs → items ≡ map f (take i xs) ++ drop i xs
    → v ≡ f (get_or items i d) → slice_set items i v ≡ map f (take (i + 1) xs) ++ drop (i + 1) xs
map_one f i xs items d v h is changed =
    ap (λ (w : _). slice_set items i w) changed
    ∙ rw (is, add-one) (map_next f i xs d h)
