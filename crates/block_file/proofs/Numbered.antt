-- Lists that are made by a number.
use Rattle.std.proofs.Common.{◌≡◌, ◌≢◌, ℕ, zero, suc, ◌+◌, ◌*◌, ◌<◌, ◌==◌, if◌then◌else◌, Bool, List, [], ◌∷◌, ◌++◌, length, map, get_or, set, take, drop, refl, sym, ◌∙◌, ap, arith, inl, inr, length-drop}
use Rattle.std.proofs.lemmas.Bool.{cases_eq, eq-eqb, ne_eqb}
use Rattle.std.proofs.lemmas.List.{get_or-set_same, get_or-set_other, drop-drop, take-append-drop}
use Rattle.block_file.specs.Lists.{numbered, joined}
use Rattle.block_file.specs.Blocks.{piece_of}

pub length-numbered : {A : Type 0} (n : ℕ) (f : ℕ → A) → length (numbered n f) ≡ n
length-numbered zero f = refl
length-numbered (suc n) f = ap suc (length-numbered n (λ j. f (suc j)))

pub numbered_same : {A : Type 0} (n : ℕ) (f g : ℕ → A) → ((j : ℕ) → j < n → f j ≡ g j) → numbered n f ≡ numbered n g
numbered_same zero f g same = refl
numbered_same (suc n) f g same =
    ap (λ x. x ∷ numbered n (λ j. f (suc j))) (same 0 (omega arith))
    ∙ ap (λ l. g 0 ∷ l) (numbered_same n (λ j. f (suc j)) (λ j. g (suc j)) (λ j lt. same (suc j) (omega arith)))

pub map-numbered : {A B : Type 0} (h : A → B) (n : ℕ) (f : ℕ → A) → map h (numbered n f) ≡ numbered n (λ j. h (f j))
map-numbered h zero f = refl
map-numbered h (suc n) f = ap (λ l. h (f 0) ∷ l) (map-numbered h n (λ j. f (suc j)))

pub get-numbered : {A : Type 0} (n : ℕ) (f : ℕ → A) (i : ℕ) (d : A) → i < n → get_or (numbered n f) i d ≡ f i
get-numbered zero f i d lt = absurd (omega arith)
get-numbered (suc n) f zero d lt = refl
get-numbered (suc n) f (suc i) d lt = get-numbered n (λ j. f (suc j)) i d (omega arith)

pub set_of : {A : Type 0} (n : ℕ) (f : ℕ → A) (i : ℕ) (x : A) (g : ℕ → A) → ((j : ℕ) → j < n → j ≡ i → g j ≡ x)
    → ((j : ℕ) → j < n → j ≢ i → g j ≡ f j) → set (numbered n f) i x ≡ numbered n g
set_of zero f i x g same other = refl
set_of (suc n) f zero x g same other =
    ap (λ y. y ∷ numbered n (λ j. f (suc j))) (sym (same 0 (omega arith) refl))
    ∙ ap (λ l. g 0 ∷ l) (numbered_same n (λ j. f (suc j)) (λ j. g (suc j)) (λ j lt. sym (other (suc j) (omega arith) (omega arith))))
set_of (suc n) f (suc i) x g same other =
    ap (λ y. y ∷ set (numbered n (λ j. f (suc j))) i x) (sym (other 0 (omega arith) (omega arith)))
    ∙ ap (λ l. g 0 ∷ l) (set_of n (λ j. f (suc j)) i x (λ j. g (suc j)) (λ j lt e. same (suc j) (omega arith) (ap suc e))
    (λ j lt ne. other (suc j) (omega arith) (λ e. ne (omega arith))))

pub set-numbered : {A : Type 0} (n : ℕ) (f : ℕ → A) (i : ℕ) (x : A) → set (numbered n f) i x ≡ numbered n (λ j. if j == i then x else f j)
set-numbered n f i x =
    set_of n f i x (λ j. if j == i then x else f j)
    (λ j lt e. ap (λ (t : Bool). if t then x else f j) (eq-eqb j i e))
    (λ j lt ne. ap (λ (t : Bool). if t then x else f j) (ne_eqb j i ne))

pub joined_same : (n : ℕ) (f g : ℕ → List ℕ) → ((j : ℕ) → j < n → f j ≡ g j) → joined n f ≡ joined n g
joined_same zero f g same = refl
joined_same (suc n) f g same =
    ap (λ (x : List ℕ). x ++ joined n (λ j. f (suc j))) (same 0 (omega arith))
    ∙ ap (λ (l : List ℕ). g 0 ++ l) (joined_same n (λ j. f (suc j)) (λ j. g (suc j)) (λ j lt. same (suc j) (omega arith)))

-- the pieces of a list are the list
pieces_from : (n : ℕ) (bytes : List ℕ) (f : ℕ → List ℕ) → ((j : ℕ) → f j ≡ take 4096 (drop (j * 4096) bytes))
    → length bytes ≡ n * 4096 → joined n f ≡ bytes
pieces_from zero [] f is len = refl
pieces_from zero (x ∷ xs) f is len = absurd (omega arith)
pieces_from (suc n) bytes f is len =
    let rest : (j : ℕ) → f (suc j) ≡ take 4096 (drop (j * 4096) (drop 4096 bytes)) =
    λ j. is (suc j) ∙ ap (λ (l : List ℕ). take 4096 l)
    (ap (λ (k : ℕ). drop k bytes) (let e : suc j * 4096 ≡ 4096 + j * 4096 = omega arith in e) ∙ sym (drop-drop (j * 4096) 4096 bytes)) in
    let short : length (drop 4096 bytes) ≡ n * 4096 = length-drop 4096 bytes ∙ (omega arith) in
    ap (λ (l : List ℕ). l ++ joined n (λ j. f (suc j))) (is 0)
    ∙ ap (λ (l : List ℕ). take 4096 bytes ++ l) (pieces_from n (drop 4096 bytes) (λ j. f (suc j)) rest short)
    ∙ take-append-drop 4096 bytes

pub pieces_whole : (n : ℕ) (bytes : List ℕ) → length bytes ≡ n * 4096 → joined n (piece_of bytes) ≡ bytes
pieces_whole n bytes len = pieces_from n bytes (piece_of bytes) (λ j. refl) len

-- a list with one item put in place of another, as a function of the place
pub set_by : {A : Type 0} (l : List A) (i : ℕ) (x d : A) (f : ℕ → A) → i < length l
    → ((j : ℕ) → j ≡ i → f j ≡ x) → ((j : ℕ) → j ≢ i → f j ≡ get_or l j d) → (j : ℕ) → get_or (set l i x) j d ≡ f j
set_by l i x d f lt same other j = elim (cases_eq j i) [
  | inl e ↦ ap (λ (k : ℕ). get_or (set l i x) k d) e ∙ get_or-set_same l i x d lt ∙ sym (same j e)
  | inr ne ↦ get_or-set_other l i j x d ne ∙ sym (other j ne)
]
