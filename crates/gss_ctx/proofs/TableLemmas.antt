-- Facts of all contexts of a table, through what calls do to it.
use Rattle.std.specs.Prelude.{◌≡◌, ℕ, ◌+◌, ◌<◌, Bool, true, false, if◌then◌else◌, List, [], ◌∷◌, ◌++◌, length, take, drop, slice_set, filter, map, find, Option, Some, refl}
use Rattle.std.specs.List.{AllByRecursion}
use Rattle.std.proofs.Common.{◌∙◌, ap, subst, arith, add-one, get_or, zero, suc}
use Rattle.gss_ctx.specs.declared.context.Entry.{Entry}

pub all_map : {X : Type 0} (P Q : X → Type 0) (f : X → X) → ((x : X) → P x → Q (f x)) → (xs : List X) → AllByRecursion P xs → AllByRecursion Q (map f xs)
all_map P Q f step [] h = tt
all_map P Q f step (x ∷ xs) h = (step x h.0, all_map P Q f step xs h.1)

all_if : {X : Type 0} (P : X → Type 0) (b : Bool) (x : X) (xs : List X) → P x → AllByRecursion P xs → AllByRecursion P (if b then x ∷ xs else xs)
all_if P true x xs a h = (a, h)
all_if P false x xs a h = h

pub all_filter : {X : Type 0} (P : X → Type 0) (test : X → Bool) (xs : List X) → AllByRecursion P xs → AllByRecursion P (filter test xs)
all_filter P test [] h = tt
all_filter P test (x ∷ xs) h = all_if P (test x) x (filter test xs) h.0 (all_filter P test xs h.1)

pub all_more : {X : Type 0} (P : X → Type 0) (xs : List X) (x : X) → AllByRecursion P xs → P x → AllByRecursion P (xs ++ x ∷ [])
all_more P [] x h a = (a, tt)
all_more P (y ∷ xs) x h a = (h.0, all_more P xs x h.1 a)

pub all_weaker : {X : Type 0} (P Q : X → Type 0) → ((x : X) → P x → Q x) → (xs : List X) → AllByRecursion P xs → AllByRecursion Q xs
all_weaker P Q step [] h = tt
all_weaker P Q step (x ∷ xs) h = (step x h.0, all_weaker P Q step xs h.1)

found_if : {X : Type 0} (P : X → Type 0) (b : Bool) (x y : X) (rest : Option X) → P x → (rest ≡ Some y → P y) → (if b then Some x else rest) ≡ Some y → P y
found_if P true x y rest a h is = let same : x ≡ y = cc in subst P same a
found_if P false x y rest a h is = h is

pub all_found : {X : Type 0} (P : X → Type 0) (test : X → Bool) (xs : List X) (y : X) → AllByRecursion P xs → find test xs ≡ Some y → P y
all_found P test [] y h is = let wrong : ⊥ = cc in absurd wrong
all_found P test (x ∷ xs) y h is = found_if P (test x) x y (find test xs) h.0 (all_found P test xs y h.1) is

-- ---- a context keeps its number

noted_if : {P : Type 0} (Q : Entry P → Type 0) (b : Bool) (e f : Entry P) → Q e → Q f → Q (if b then f else e)
noted_if Q true e f a c = c
noted_if Q false e f a c = a

pub either : {P : Type 0} (Q : Entry P → Type 0) (b : Bool) (e f : Entry P) → Q e → Q f → Q (if b then f else e)
either = noted_if

-- ---- changing a list element by element

map_next : {X : Type 0} (f : X → X) (i : ℕ) (xs : List X) (d : X) → i < length xs
    → slice_set (map f (take i xs) ++ drop i xs) i (f (get_or (map f (take i xs) ++ drop i xs) i d)) ≡ map f (take (suc i) xs) ++ drop (suc i) xs
map_next f i [] d h = absurd (omega arith)
map_next f zero (x ∷ xs) d h = refl
map_next f (suc i) (x ∷ xs) d h = ap (λ (ys : List _). f x ∷ ys) (map_next f i xs d (omega arith))

pub map_one : {X : Type 0} (f : X → X) (i : ℕ) (xs items : List X) (d v : X) → i < length xs → items ≡ map f (take i xs) ++ drop i xs
    → v ≡ f (get_or items i d) → slice_set items i v ≡ map f (take (i + 1) xs) ++ drop (i + 1) xs
map_one f i xs items d v h is changed =
    ap (λ (w : _). slice_set items i w) changed
    ∙ rw (is, add-one) (map_next f i xs d h)
