-- The bits of a window stand for the numbers seen, before and after one more is seen.
use Rattle.std.specs.Prelude.{◌≡◌, ◌≢◌, ◌⊎◌, ℕ, zero, suc, ◌+◌, ◌-◌, ◌*◌, ◌/◌, ◌%◌, ◌^◌, ◌<◌, ◌≤◌, ◌==◌, ◌||◌, ◌&&◌, Bool, true, false, nat_lt, nat_le, max, bit_or, List, ◌∷◌, slice_index_or, refl}
use Rattle.std.specs.Int.{bit_at, w128}
use Rattle.std.proofs.Common.{sym, ◌∙◌, ap, subst, inl, inr, arith}
use Rattle.std.proofs.lemmas.Nat.{pow_pos}
use Rattle.std.proofs.lemmas.Bool.{cases_eq, cases_lt, lt-ltb, le-ltb, lt-leb, le-leb, leb-true, eq-eqb, ne_eqb}
use Rattle.std.proofs.lemmas.Nat.Bits.{bit_at-zero, bit_at-pow_same, bit_at-pow_other, bit_at-lt, bit_at_or, bit_at_cat_low, bit_at_cat_high, bit_at_set_same, bit_at_set_other}
use Rattle.gss_ctx.specs.Window.{marks_of, window_of, has, none_seen, noted, seen_of}

below_ne : (k n : ℕ) → k ≤ n → (k ≡ n → ⊥) → 0 < n - k
below_ne k n le ne = omega (arith, ne)

add_zero_left : (n : ℕ) → 0 + n ≡ n
add_zero_left n = omega arith

test_suc_at : (j n : ℕ) → (j < n) ⊎ (n ≤ j) → nat_lt j n ≡ nat_lt (suc j) (suc n)
test_suc_at j n (inl lt) = lt-ltb j n lt ∙ sym (lt-ltb (suc j) (suc n) (omega arith))
test_suc_at j n (inr le) = le-ltb j n le ∙ sym (le-ltb (suc j) (suc n) (omega arith))

test_suc : (j n : ℕ) → nat_lt j n ≡ nat_lt (suc j) (suc n)
test_suc j n = test_suc_at j n (cases_lt j n)

-- ---- marks

mark_at : (f : ℕ → Bool) (i n j : ℕ) → slice_index_or (marks_of f i n) j false ≡ (nat_lt j n && f (i + j))
unfolding marks_of
mark_at f i zero j = let no : nat_lt j 0 ≡ false = le-ltb j 0 (omega arith) in rw no refl
mark_at f i (suc n) zero =
    let yes : nat_lt 0 (suc n) ≡ true = lt-ltb 0 (suc n) (omega arith) in
    let same : i + 0 ≡ i = omega arith in
    rw (yes, same) refl
mark_at f i (suc n) (suc j) =
    let step : nat_lt j n ≡ nat_lt (suc j) (suc n) = test_suc j n in
    let same : (i + 1) + j ≡ i + suc j = omega arith in
    mark_at f (i + 1) n j ∙ ap (λ (m : ℕ). nat_lt j n && f m) same ∙ ap (λ (b : Bool). b && f (i + suc j)) step

marks_same : (f g : ℕ → Bool) (i n : ℕ) → ((j : ℕ) → j < i + n → f j ≡ g j) → marks_of f i n ≡ marks_of g i n
unfolding marks_of
marks_same f g i zero h = refl
marks_same f g i (suc n) h =
    ap (λ (b : Bool). b ∷ marks_of f (i + 1) n) (h i (omega arith)) ∙ ap (λ (ms : List Bool). g i ∷ ms) (marks_same f g (i + 1) n (λ j lt. h j (omega arith)))

within_if : (b x y : Bool) → (b ≡ true → x ≡ y) → (b && x) ≡ (b && y)
within_if true x y h = h refl
within_if false x y h = refl

-- whether a window has a number, by the test that made it
pub has_window : (h : ℕ) (test : ℕ → Bool) (k : ℕ) → has (window_of h test) k ≡ (nat_le k h && (nat_lt (h - k) 128 && test k))
has_window h test k =
    within_if (nat_le k h) _ _ (λ yes.
    let le : k ≤ h = leb-true k h yes in
    let inside : nat_le (h - k) h ≡ true = le-leb (h - k) h (omega arith) in
    let back : h - (h - k) ≡ k = omega arith in
    mark_at (λ i. nat_le i h && test (h - i)) 0 128 (h - k)
    ∙ ap (λ (m : ℕ). nat_lt (h - k) 128 && (nat_le m h && test (h - m))) (add_zero_left (h - k))
    ∙ ap (λ (b : Bool). nat_lt (h - k) 128 && (b && test (h - (h - k)))) inside
    ∙ ap (λ (m : ℕ). nat_lt (h - k) 128 && test m) back)

pub has_bits : (g bits k : ℕ) → has (seen_of g bits) k ≡ (nat_le k g && (nat_lt (g - k) 128 && (bit_at bits (g - k) == 1)))
has_bits g bits k =
    within_if (nat_le k g) _ _ (λ yes.
    let inside : nat_le (g - k) g ≡ true = le-leb (g - k) g (omega arith) in
    mark_at (λ i. nat_le i g && (bit_at bits i == 1)) 0 128 (g - k)
    ∙ ap (λ (m : ℕ). nat_lt (g - k) 128 && (nat_le m g && (bit_at bits m == 1))) (add_zero_left (g - k))
    ∙ ap (λ (b : Bool). nat_lt (g - k) 128 && (b && (bit_at bits (g - k) == 1))) inside)

-- bits that agree with a test stand for its window
same_window : (h bits : ℕ) (test : ℕ → Bool) → ((k : ℕ) → k ≤ h → h < k + 128 → (bit_at bits (h - k) == 1) ≡ test k) → seen_of h bits ≡ window_of h test
same_window h bits test same =
    ap (λ (ms : List Bool). record { greatest = h; marks = ms }) (marks_same _ _ 0 128 (λ i lt.
    within_if (nat_le i h) _ _ (λ yes.
    let le : i ≤ h = leb-true i h yes in
    let back : h - (h - i) ≡ i = omega arith in
    subst (λ (m : ℕ). (bit_at bits m == 1) ≡ test (h - i)) back (same (h - i) (omega arith) (omega arith)))))

pub none_is : seen_of 0 0 ≡ none_seen
none_is = same_window 0 0 (λ n. false) (λ k le lt. rw (bit_at-zero (0 - k)) refl)

-- ---- a number of the window: x is its bit once n is seen, y before

abbrev WasSeen : ℕ → ℕ → ℕ → Bool
WasSeen g k y = nat_le k g && (nat_lt (g - k) 128 && (y == 1))

kept_test : (g n k x y : ℕ) → k ≢ n → k ≤ g → g < k + 128 → x ≡ y → (x == 1) ≡ ((k == n) || WasSeen g k y)
kept_test g n k x y ne le lt e =
    let a : (k == n) ≡ false = ne_eqb k n ne in
    let b : nat_le k g ≡ true = le-leb k g le in
    let c : nat_lt (g - k) 128 ≡ true = lt-ltb (g - k) 128 (omega arith) in
    rw (e, a, b, c) refl

own_test : (g n k x y : ℕ) → k ≡ n → x ≡ 1 → (x == 1) ≡ ((k == n) || WasSeen g k y)
own_test g n k x y is e =
    let a : (k == n) ≡ true = eq-eqb k n is in
    rw (e, a) refl

between_test : (g n k x y : ℕ) → k ≢ n → g < k → x ≡ 0 → (x == 1) ≡ ((k == n) || WasSeen g k y)
between_test g n k x y ne lt e =
    let a : (k == n) ≡ false = ne_eqb k n ne in
    let b : nat_le k g ≡ false = lt-leb k g lt in
    rw (e, a, b) refl

note_is : (g b n h c : ℕ) → h ≡ max g n
    → ((k : ℕ) → k ≤ h → h < k + 128 → (bit_at c (h - k) == 1) ≡ ((k == n) || WasSeen g k (bit_at b (g - k))))
    → seen_of h c ≡ noted n (seen_of g b)
unfolding noted
note_is g b n h c e same =
    same_window h c (λ k. (k == n) || has (seen_of g b) k) (λ k le lt. same k le lt ∙ ap (λ (t : Bool). (k == n) || t) (sym (has_bits g b k)))
    ∙ ap (λ (m : ℕ). window_of m (λ k. (k == n) || has (seen_of g b) k)) e

-- ---- the bits

one_bit : (i : ℕ) → 0 < i → bit_at 1 i ≡ 0
one_bit i h = bit_at-pow_other 0 i (λ is. omega arith)

kept_bit : (a i : ℕ) → i < 128 → bit_at (a % 2 ^ 128) i ≡ bit_at a i
kept_bit a i h =
    let parts : (a / 2 ^ 128) * 2 ^ 128 + a % 2 ^ 128 ≡ a = omega arith in
    sym (bit_at_cat_low (a / 2 ^ 128) 128 (a % 2 ^ 128) i h) ∙ ap (λ (m : ℕ). bit_at m i) parts

moved : ℕ → ℕ → ℕ
moved bits by = bit_or (bits * 2 ^ by % 2 ^ 128) 1

moved_first : (bits by : ℕ) → bit_at (moved bits by) 0 ≡ 1
unfolding moved
moved_first bits by =
    let one : bit_at 1 0 ≡ 1 = bit_at-pow_same 0 in
    let small : bit_at (bits * 2 ^ by % 2 ^ 128) 0 < 2 = bit_at-lt (bits * 2 ^ by % 2 ^ 128) 0 in
    bit_at_or (bits * 2 ^ by % 2 ^ 128) 1 0 ∙ rw one (omega arith)

moved_rest : (bits by i : ℕ) → 0 < i → bit_at (moved bits by) i ≡ bit_at (bits * 2 ^ by % 2 ^ 128) i
unfolding moved
moved_rest bits by i h =
    let none : bit_at 1 i ≡ 0 = one_bit i h in
    bit_at_or (bits * 2 ^ by % 2 ^ 128) 1 i ∙ rw none (omega arith)

moved_low : (bits by i : ℕ) → 0 < i → i < by → by < 128 → bit_at (moved bits by) i ≡ 0
moved_low bits by i pos low near =
    let plus : bits * 2 ^ by ≡ bits * 2 ^ by + 0 = omega arith in
    moved_rest bits by i pos ∙ kept_bit (bits * 2 ^ by) i (omega arith)
    ∙ ap (λ (m : ℕ). bit_at m i) plus ∙ bit_at_cat_low bits by 0 i low ∙ bit_at-zero i

moved_high : (bits by i : ℕ) → 0 < i → by ≤ i → i < 128 → bit_at (moved bits by) i ≡ bit_at bits (i - by)
moved_high bits by i pos high near =
    let plus : bits * 2 ^ by ≡ bits * 2 ^ by + 0 = omega arith in
    moved_rest bits by i pos ∙ kept_bit (bits * 2 ^ by) i near
    ∙ ap (λ (m : ℕ). bit_at m i) plus ∙ bit_at_cat_high bits by 0 i (pow_pos by) high

near_at : (g b n k : ℕ) → g < n → n < g + 128 → k ≤ n → n < k + 128 → (k ≡ n) ⊎ (k ≡ n → ⊥) → (g < k) ⊎ (k ≤ g)
    → (bit_at (moved b (n - g)) (n - k) == 1) ≡ ((k == n) || WasSeen g k (bit_at b (g - k)))
near_at g b n k lt near le young (inl is) _ =
    let z : n - k ≡ 0 = omega arith in
    own_test g n k (bit_at (moved b (n - g)) (n - k)) (bit_at b (g - k)) is (rw z (moved_first b (n - g)))
near_at g b n k lt near le young (inr ne) (inl above) =
    between_test g n k (bit_at (moved b (n - g)) (n - k)) (bit_at b (g - k)) ne above
    (moved_low b (n - g) (n - k) (below_ne k n le ne) (omega arith) (omega arith))
near_at g b n k lt near le young (inr ne) (inr seen) =
    let e : (n - k) - (n - g) ≡ g - k = omega arith in
    kept_test g n k (bit_at (moved b (n - g)) (n - k)) (bit_at b (g - k)) ne seen (omega arith)
    (moved_high b (n - g) (n - k) (omega arith) (omega arith) (omega arith) ∙ ap (λ (m : ℕ). bit_at b m) e)

pub note_near : (g b n : ℕ) → g < n → n < g + 128 → seen_of n (bit_or (b * 2 ^ (n - g) % 2 ^ 128) 1) ≡ noted n (seen_of g b)
unfolding moved
note_near g b n lt near =
    note_is g b n n (moved b (n - g)) (omega arith) (λ k le young. near_at g b n k lt near le young (cases_eq k n) (cases_lt g k))

far_at : (g b n k : ℕ) → g + 128 ≤ n → k ≤ n → n < k + 128 → (k ≡ n) ⊎ (k ≡ n → ⊥) → (bit_at 1 (n - k) == 1) ≡ ((k == n) || WasSeen g k (bit_at b (g - k)))
far_at g b n k far le young (inl is) =
    let z : n - k ≡ 0 = omega arith in
    own_test g n k (bit_at 1 (n - k)) (bit_at b (g - k)) is (rw z (bit_at-pow_same 0))
far_at g b n k far le young (inr ne) =
    between_test g n k (bit_at 1 (n - k)) (bit_at b (g - k)) ne (omega arith) (one_bit (n - k) (below_ne k n le ne))

pub note_far : (g b n : ℕ) → g + 128 ≤ n → seen_of n 1 ≡ noted n (seen_of g b)
note_far g b n far = note_is g b n n 1 (omega arith) (λ k le young. far_at g b n k far le young (cases_eq k n))

back_at : (g b n k : ℕ) → n ≤ g → g < n + 128 → k ≤ g → g < k + 128 → (k ≡ n) ⊎ (k ≡ n → ⊥)
    → (bit_at (bit_or b (1 * 2 ^ (g - n) % 2 ^ 128)) (g - k) == 1) ≡ ((k == n) || WasSeen g k (bit_at b (g - k)))
back_at g b n k le near inside young (inl is) =
    own_test g n k (bit_at (bit_or b (1 * 2 ^ (g - n) % 2 ^ 128)) (g - k)) (bit_at b (g - k)) is
    (subst (λ (m : ℕ). bit_at (bit_or b (1 * 2 ^ (g - n) % 2 ^ 128)) (g - m) ≡ 1) (sym is) (bit_at_set_same w128 b (g - n) (omega arith)))
back_at g b n k le near inside young (inr ne) =
    kept_test g n k (bit_at (bit_or b (1 * 2 ^ (g - n) % 2 ^ 128)) (g - k)) (bit_at b (g - k)) ne inside young
    (bit_at_set_other w128 b (g - n) (omega arith) (g - k) (λ is. ne (omega arith)))

pub note_back : (g b n : ℕ) → n ≤ g → g < n + 128 → seen_of g (bit_or b (1 * 2 ^ (g - n) % 2 ^ 128)) ≡ noted n (seen_of g b)
note_back g b n le near =
    note_is g b n g (bit_or b (1 * 2 ^ (g - n) % 2 ^ 128)) (omega arith) (λ k inside young. back_at g b n k le near inside young (cases_eq k n))

pub note_below : (g b n : ℕ) → n + 128 ≤ g → seen_of g b ≡ noted n (seen_of g b)
note_below g b n far =
    note_is g b n g b (omega arith) (λ k inside young. kept_test g n k (bit_at b (g - k)) (bit_at b (g - k)) (λ is. omega arith) inside young refl)

-- ---- whether the bits have a number

pub above_has : (g b k : ℕ) → g < k → false ≡ has (seen_of g b) k
above_has g b k lt = let a : nat_le k g ≡ false = lt-leb k g lt in rw a refl

old_has : (x y : Bool) → false ≡ (x && (false && y))
old_has true y = refl
old_has false y = refl

pub below_has : (g b k : ℕ) → k + 128 ≤ g → false ≡ has (seen_of g b) k
below_has g b k far =
    let a : nat_lt (g - k) 128 ≡ false = le-ltb (g - k) 128 (omega arith) in
    (rw a (old_has (nat_le k g) (bit_at b (g - k) == 1))) ∙ sym (has_bits g b k)

pub inside_has : (g b k : ℕ) → k ≤ g → g < k + 128 → (bit_at b (g - k) == 1) ≡ has (seen_of g b) k
inside_has g b k le near =
    let a : nat_le k g ≡ true = le-leb k g le in
    let c : nat_lt (g - k) 128 ≡ true = lt-ltb (g - k) 128 (omega arith) in
    (rw (a, c) refl) ∙ sym (has_bits g b k)
