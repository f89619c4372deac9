-- How many bytes spellings have. A form is bounded by n where no value of it has a longer spelling: words
-- have their own lengths, and what is made of smaller forms has the bound made of theirs.
use Rattle.std.proofs.Common.{◌≡◌, ℕ, ◌+◌, ◌-◌, ◌*◌, ◌<◌, ◌≤◌, ◌^◌, Bool, true, false, List, [], ◌∷◌, length, replicate, Some, None, refl, arith}
use Rattle.std.specs.Prelude.{ℤ, sum_by}
use Rattle.std.specs.List.{flat_map, AllByRecursion}
use Rattle.std.proofs.lemmas.List.{length-append, length-replicate}
use Rattle.std.proofs.lemmas.List.Sums.{sum_by-cons}
use Rattle.std.proofs.Math.Nat.{mul-le-mul_right, suc-mul}
use Rattle.wire_xdr.specs.Words.{padding, word_bytes, hyper_bytes, signed_bytes, flag_bytes, fixed_bytes, opaque_bytes}
use Rattle.wire_xdr.specs.Form.{Form}
use Rattle.wire_xdr.specs.Parts.{list_spell, option_spell}
use Rattle.wire_xdr.specs.Arms.{ArmOf, IsListed, IsPicked, Case, case_of, other_arm, body_spell, body_Fits}
use Rattle.wire_xdr.specs.Forms.{word, hyper, signed, flag, count, fixed, opaque, opaque_between, void, both, seen_as, such_that, list, option, chosen, union, union_or}

-- no spelling of the form has more bytes
abbrev pub IsBounded : {A : Type 0} → Form A → ℕ → Type 0
IsBounded {A} form n = (v : A) → form.Fits v → length (form.spell v) ≤ n

-- ---- words

pub word_length : (n : ℕ) → length (word_bytes n) ≡ 4
unfolding word_bytes
word_length n = refl

pub hyper_length : (n : ℕ) → length (hyper_bytes n) ≡ 8
unfolding hyper_bytes
hyper_length n = refl

pub signed_length : (z : ℤ) → length (signed_bytes z) ≡ 8
unfolding signed_bytes hyper_bytes
signed_length z = refl

pub flag_length : (b : Bool) → length (flag_bytes b) ≡ 4
unfolding flag_bytes word_bytes
flag_length true = refl
flag_length false = refl

pub padding_below : (n : ℕ) → padding n < 4
padding_below n = omega arith

pub fixed_length : (bytes : List ℕ) → length (fixed_bytes bytes) ≡ length bytes + padding (length bytes)
unfolding fixed_bytes
fixed_length bytes = omega (arith, length-append bytes (replicate (padding (length bytes)) 0), length-replicate {A = ℕ} (padding (length bytes)) 0)

pub opaque_length : (bytes : List ℕ) → length (opaque_bytes bytes) ≡ 4 + length bytes + padding (length bytes)
unfolding opaque_bytes
opaque_length bytes = omega (arith, length-append (word_bytes (length bytes)) (fixed_bytes bytes), word_length (length bytes), fixed_length bytes)

pub word_bounded : IsBounded word 4
word_bounded v fits = omega (arith, word_length v)

pub hyper_bounded : IsBounded hyper 8
hyper_bounded v fits = omega (arith, hyper_length v)

pub signed_bounded : IsBounded signed 8
signed_bounded v fits = omega (arith, signed_length v)

pub flag_bounded : IsBounded flag 4
flag_bounded v fits = omega (arith, flag_length v)

pub count_bounded : (max : ℕ) (small : max < 2 ^ 32) → IsBounded (count max small) 4
count_bounded max small v fits = omega (arith, word_length v)

pub fixed_bounded : (n : ℕ) → IsBounded (fixed n) (n + 3)
fixed_bounded n v fits = omega (arith, fixed_length v, padding_below (length v), fits)

pub opaque_bounded : (max : ℕ) (small : max < 2 ^ 32) → IsBounded (opaque max small) (max + 7)
opaque_bounded max small v fits = omega (arith, opaque_length v, padding_below (length v), fits)

pub opaque_between_bounded : (min max : ℕ) (small : max < 2 ^ 32) → IsBounded (opaque_between min max small) (max + 7)
opaque_between_bounded min max small v fits = omega (arith, opaque_length v, padding_below (length v), fits.1)

pub void_bounded : IsBounded void 0
void_bounded v fits = omega arith

-- ---- what is made of smaller forms

-- a bound is one for every greater number
pub bounded_by : {A : Type 0} (form : Form A) (n m : ℕ) → IsBounded form n → n ≤ m → IsBounded form m
bounded_by form n m bound le v fits = omega (arith, bound v fits, le)

pub both_length : {A B : Type 0} (a : Form A) (b : Form B) (v : A × B) → length ((both a b).spell v) ≡ length (a.spell v.0) + length (b.spell v.1)
both_length a b v = length-append (a.spell v.0) (b.spell v.1)

pub both_bounded : {A B : Type 0} (a : Form A) (b : Form B) (n m : ℕ) → IsBounded a n → IsBounded b m → IsBounded (both a b) (n + m)
both_bounded a b n m x y v fits = omega (arith, both_length a b v, x v.0 fits.0, y v.1 fits.1)

pub seen_as_bounded : {A B : Type 0} (to : A → B) (from : B → A) (to_from : (b : B) → to (from b) ≡ b) (from_to : (a : A) → from (to a) ≡ a) (a : Form A) (n : ℕ) → IsBounded a n → IsBounded (seen_as to from to_from from_to a) n
seen_as_bounded to from to_from from_to a n bound v fits = bound (from v) fits

pub such_that_bounded : {A : Type 0} (test : A → Bool) (a : Form A) (n : ℕ) → IsBounded a n → IsBounded (such_that test a) n
such_that_bounded test a n bound v fits = bound v fits.1

flat_length : {A : Type 0} (spell : A → List ℕ) (vs : List A) → length (flat_map spell vs) ≡ sum_by (λ v. length (spell v)) vs
flat_length spell [] = refl
flat_length spell (v ∷ vs) = omega (arith, length-append (spell v) (flat_map spell vs), flat_length spell vs, sum_by-cons (λ v. length (spell v)) v vs)

-- a count, and the lengths of the values
pub list_length : {A : Type 0} (a : Form A) (vs : List A) → length (list_spell a vs) ≡ 4 + sum_by (λ v. length (a.spell v)) vs
unfolding list_spell
list_length a vs = omega (arith, length-append (word_bytes (length vs)) (flat_map a.spell vs), word_length (length vs), flat_length a.spell vs)

-- so many values, each of at most n bytes
pub sum_bounded : {A : Type 0} (a : Form A) (n : ℕ) → IsBounded a n → (vs : List A) → AllByRecursion a.Fits vs → sum_by (λ v. length (a.spell v)) vs ≤ length vs * n
sum_bounded a n bound [] fits = omega arith
sum_bounded a n bound (v ∷ vs) fits =
    omega (arith, bound v fits.0, sum_bounded a n bound vs fits.1, sum_by-cons (λ v. length (a.spell v)) v vs, suc-mul (length vs) n)

pub list_bounded : {A : Type 0} (max : ℕ) (small : max < 2 ^ 32) (a : Form A) (n : ℕ) → IsBounded a n → IsBounded (list max small a) (4 + max * n)
list_bounded max small a n bound vs fits = omega (arith, list_length a vs, sum_bounded a n bound vs fits.1, mul-le-mul_right n fits.0)

pub option_bounded : {A : Type 0} (a : Form A) (n : ℕ) → IsBounded a n → IsBounded (option a) (4 + n)
unfolding option_spell
option_bounded a n bound None fits = omega (arith, flag_length false)
option_bounded a n bound (Some v) fits = omega (arith, length-append (flag_bytes true) (a.spell v), flag_length true, bound v fits)

-- what an arm holds has at most so many bytes, whichever arm it is
abbrev pub AreBounded : {V : Type 0} → (V → Case V) → ℕ → Type 0
AreBounded {V} case n = (v : V) → body_Fits case v → length (body_spell case v) ≤ n

pub chosen_bounded : {V : Type 0} {case : V → Case V} (arms : List (ArmOf case)) (law : (v : V) → IsListed arms v) (number n : ℕ) → AreBounded case n → IsBounded (chosen arms law number) n
chosen_bounded arms law number n bound v fits = bound v fits.1

pub union_bounded : {V : Type 0} {case : V → Case V} (arms : List (ArmOf case)) (law : (v : V) → IsListed arms v) (n : ℕ) → AreBounded case n → IsBounded (union arms law) (4 + n)
union_bounded {V} {case} arms law n bound v fits = omega (arith, length-append (word_bytes (case v).number) (case v).spell, word_length (case v).number, bound v fits.1)

pub union_or_bounded : {V B : Type 0} {case : V → Case V} (arms : List (ArmOf case)) (form : ℕ → Form B) (make : ℕ → B → V) (made : (n : ℕ) (body : B) → case (make n body) ≡ case_of false (other_arm form make n) body) (law : (v : V) → IsPicked arms (other_arm form make) v) (n : ℕ) → AreBounded case n → IsBounded (union_or arms form make made law) (4 + n)
union_or_bounded {V} {B} {case} arms form make made law n bound v fits = omega (arith, length-append (word_bytes (case v).number) (case v).spell, word_length (case v).number, bound v fits.2)

-- ---- by the parts of a value

-- no spelling has more bytes than is said of its value
abbrev pub IsSized : {A : Type 0} → Form A → (A → ℕ) → Type 0
IsSized {A} form size = (v : A) → form.Fits v → length (form.spell v) ≤ size v

-- nor what the arm of a value holds
abbrev pub AreSized : {V : Type 0} → (V → Case V) → (V → ℕ) → Type 0
AreSized {V} case size = (v : V) → body_Fits case v → length (body_spell case v) ≤ size v

sum_sized : {A : Type 0} (a : Form A) (size : A → ℕ) → IsSized a size → (vs : List A) → AllByRecursion a.Fits vs → sum_by (λ v. length (a.spell v)) vs ≤ sum_by size vs
sum_sized a size sized [] fits = omega arith
sum_sized a size sized (v ∷ vs) fits =
    omega (arith, sized v fits.0, sum_sized a size sized vs fits.1, sum_by-cons (λ v. length (a.spell v)) v vs, sum_by-cons size v vs)

-- a count, and the values
pub list_sized : {A : Type 0} (a : Form A) (size : A → ℕ) → IsSized a size → (vs : List A) → AllByRecursion a.Fits vs → length (list_spell a vs) ≤ 4 + sum_by size vs
list_sized a size sized vs fits = omega (arith, list_length a vs, sum_sized a size sized vs fits)

pub union_sized : {V : Type 0} {case : V → Case V} (arms : List (ArmOf case)) (law : (v : V) → IsListed arms v) (size : V → ℕ) → AreSized case size → IsSized (union arms law) (λ v. 4 + size v)
union_sized {V} {case} arms law size sized v fits = omega (arith, length-append (word_bytes (case v).number) (case v).spell, word_length (case v).number, sized v fits.1)

pub union_or_sized : {V B : Type 0} {case : V → Case V} (arms : List (ArmOf case)) (form : ℕ → Form B) (make : ℕ → B → V) (made : (n : ℕ) (body : B) → case (make n body) ≡ case_of false (other_arm form make n) body) (law : (v : V) → IsPicked arms (other_arm form make) v) (size : V → ℕ) → AreSized case size → IsSized (union_or arms form make made law) (λ v. 4 + size v)
union_or_sized {V} {B} {case} arms form make made law size sized v fits = omega (arith, length-append (word_bytes (case v).number) (case v).spell, word_length (case v).number, sized v fits.2)
