-- How the bits of words stand for flags, and what a write of one bit changes.
use Rattle.std.specs.Prelude.{◌≡◌, ◌≢◌, ◌⊎◌, ℕ, zero, suc, ◌+◌, ◌-◌, ◌*◌, ◌/◌, ◌%◌, ◌^◌, ◌<◌, ◌≤◌, ◌==◌, ◌||◌, Bool, true, false, List, [], ◌∷◌, ◌++◌, Option, None, Some, IfSome, IfNone, take, if◌then◌else◌, length, get_or, set, replicate, max, bit_or, bit_and, refl}
use Rattle.std.specs.Int.{bit_at, bit_not, w64}
use Rattle.std.proofs.lemmas.Nat.Bits.{shr_and_one, bit_at_or, bit_at_ones, bit_at-zero, bit_at_set_same, bit_at_set_other, bit_at_clear_same, bit_at_clear_other}
use Rattle.std.proofs.Common.{sym, ◌∙◌, ap, subst, inl, inr, arith, length-set}
use Rattle.std.proofs.lemmas.Bool.{cases_eq, cases_lt}
use Rattle.std.proofs.lemmas.List.{same_lists, get_or-set_same, get_or-set_other}
use Rattle.job_log.specs.Bits.{Flags, flag, bit, flags_by, flags_of, seen_flags, IsFirstFree, HasNoneFree, IsLowestClear}

pub length-flags_by : (test : ℕ → Bool) (i n : ℕ) → length (flags_by test i n) ≡ n
length-flags_by test i zero = refl
length-flags_by test i (suc n) = ap (λ (k : ℕ). suc k) (length-flags_by test (i + 1) n)

get-flags_by : (test : ℕ → Bool) (i n j : ℕ) (d : Bool) → j < n → get_or (flags_by test i n) j d ≡ test (i + j)
get-flags_by test i zero j d lt = absurd (omega arith)
get-flags_by test i (suc n) zero d lt = ap test (let e : i ≡ i + 0 = omega arith in e)
get-flags_by test i (suc n) (suc j) d lt =
    get-flags_by test (i + 1) n j d (omega arith) ∙ ap test (let e : (i + 1) + j ≡ i + suc j = omega arith in e)

-- a flag is its bit
pub flag-bit : (words : List ℕ) (n j : ℕ) (d : Bool) → j < n → get_or (flags_of words n) j d ≡ bit words j
flag-bit words n j d lt = get-flags_by (bit words) 0 n j d lt ∙ ap (bit words) (let e : 0 + j ≡ j = omega arith in e)

-- what a word that differs in one bit leaves
pub record DiffersAt (old new k : ℕ) (b : Bool) : Type 0 where
  pub here : (bit_at new k == 1) ≡ b
  pub others : (i : ℕ) → i < 64 → i ≢ k → bit_at new i ≡ bit_at old i

bit_here : (words : List ℕ) (at v : ℕ) (b : Bool) → at / 64 < length words
    → DiffersAt (get_or words (at / 64) 0) v (at % 64) b → bit (set words (at / 64) v) at ≡ b
bit_here words at v b lt d =
    ap (λ (w : ℕ). bit_at w (at % 64) == 1) (get_or-set_same words (at / 64) v 0 lt) ∙ d.here

bit_there : (words : List ℕ) (at v k : ℕ) (b : Bool) → at / 64 < length words
    → DiffersAt (get_or words (at / 64) 0) v (at % 64) b → k ≢ at → ((k / 64 ≡ at / 64) ⊎ (k / 64 ≢ at / 64))
    → bit (set words (at / 64) v) k ≡ bit words k
bit_there words at v k b lt d ne (inl same) =
    let other : k % 64 ≢ at % 64 = (λ e. ne (omega arith)) in
    let small : k % 64 < 64 = omega arith in
    let P : ℕ → Type 0 = λ q. (bit_at (get_or (set words (at / 64) v) q 0) (k % 64) == 1) ≡ (bit_at (get_or words q 0) (k % 64) == 1) in
    subst P (sym same)
    (ap (λ (w : ℕ). bit_at w (k % 64) == 1) (get_or-set_same words (at / 64) v 0 lt) ∙ ap (λ (x : ℕ). x == 1) (d.others (k % 64) small other))
bit_there words at v k b lt d ne (inr far) =
    ap (λ (w : ℕ). bit_at w (k % 64) == 1) (get_or-set_other words (at / 64) (k / 64) v 0 far)

flag_at : (words : List ℕ) (n at v k : ℕ) (b d : Bool) → n ≤ length words * 64 → at < n
    → DiffersAt (get_or words (at / 64) 0) v (at % 64) b → k < n → (k ≡ at) ⊎ (k ≢ at)
    → get_or (flags_of (set words (at / 64) v) n) k d ≡ get_or (set (flags_of words n) at b) k d
flag_at words n at v k b d fits lt w below (inl is) =
    let P : ℕ → Type 0 = λ q. get_or (flags_of (set words (at / 64) v) n) q d ≡ get_or (set (flags_of words n) at b) q d in
    let len = length-flags_by (bit words) 0 n in
    subst P (sym is)
    (flag-bit (set words (at / 64) v) n at d lt ∙ bit_here words at v b (omega arith) w
    ∙ sym (get_or-set_same (flags_of words n) at b d (omega arith)))
flag_at words n at v k b d fits lt w below (inr ne) =
    flag-bit (set words (at / 64) v) n k d below ∙ bit_there words at v k b (omega arith) w ne (cases_eq (k / 64) (at / 64))
    ∙ sym (flag-bit words n k d below) ∙ sym (get_or-set_other (flags_of words n) at k b d ne)

-- a write of one bit sets one flag
pub flags_of-set : (words : List ℕ) (n at v : ℕ) (b : Bool) → n ≤ length words * 64 → at < n
    → DiffersAt (get_or words (at / 64) 0) v (at % 64) b
    → flags_of (set words (at / 64) v) n ≡ set (flags_of words n) at b
flags_of-set words n at v b fits lt w =
    let first = length-flags_by (bit (set words (at / 64) v)) 0 n in
    let second = length-set (flags_of words n) at b in
    let third = length-flags_by (bit words) 0 n in
    same_lists _ _ (omega arith) (λ k d below. flag_at words n at v k b d fits lt w (omega arith) (cases_eq k at))

-- how many flags a view has
pub length_view : (words : List ℕ) (n room : ℕ) (f : Flags) → seen_flags words n room ≡ f → length f.flags ≡ n
length_view words n room f e = ap (λ (g : Flags). length g.flags) (sym e) ∙ length-flags_by (bit words) 0 n

any_default : (xs : List ℕ) (i r : ℕ) → i < length xs → r ≡ get_or xs i r → r ≡ get_or xs i 0
any_default [] i r lt e = absurd (omega arith)
any_default (x ∷ xs) zero r lt e = e
any_default (x ∷ xs) (suc i) r lt e = any_default xs i r (omega arith) e

-- what the test of a bit reads
pub read_flag : (words : List ℕ) (n room at r : ℕ) (f : Flags) → seen_flags words n room ≡ f
    → r ≡ get_or words (at / 64) r → n ≤ length words * 64 → at < length f.flags → (bit_and (r / 2 ^ (at % 64)) 1 == 1) ≡ flag f.flags at
read_flag words n room at r f e is fits lt =
    let len = length_view words n room f e in
    ap (λ (x : ℕ). x == 1) (shr_and_one r (at % 64))
    ∙ ap (λ (w : ℕ). bit_at w (at % 64) == 1) (any_default words (at / 64) r (omega arith) is)
    ∙ sym (flag-bit words n at false (omega arith)) ∙ ap (λ (g : Flags). flag g.flags at) e

abbrev with_flag : Flags → ℕ → Bool → Flags
with_flag f at b = record { flags = set f.flags at b; room = f.room }

written : (words : List ℕ) (n room at r v : ℕ) (b : Bool) (f : Flags) → seen_flags words n room ≡ f
    → r ≡ get_or words (at / 64) r → n ≤ length words * 64 → at < length f.flags → DiffersAt r v (at % 64) b
    → seen_flags (set words (at / 64) v) n room ≡ with_flag f at b
written words n room at r v b f e is fits lt d =
    let len = length_view words n room f e in
    let P : ℕ → Type 0 = λ x. DiffersAt x v (at % 64) b in
    let same = flags_of-set words n at v b fits (omega arith) (subst P (any_default words (at / 64) r (omega arith) is) d) in
    ap (λ (fs : List Bool). let v : Flags = record { flags = fs; room = room * 64 } in v) same
    ∙ ap (λ (g : Flags). with_flag g at b) e

pub set_flag : (words : List ℕ) (n room at r : ℕ) (f : Flags) → seen_flags words n room ≡ f
    → r ≡ get_or words (at / 64) r → n ≤ length words * 64 → at < length f.flags
    → seen_flags (set words (at / 64) (bit_or r (1 * 2 ^ (at % 64) % 2 ^ 64))) n room ≡ with_flag f at true
set_flag words n room at r f e is fits lt =
    let small : at % 64 < 64 = omega arith in
    written words n room at r _ true f e is fits lt
    (record {
      here = ap (λ (x : ℕ). x == 1) (bit_at_set_same w64 r (at % 64) small);
      others = λ i lt ne. bit_at_set_other w64 r (at % 64) small i ne;
    })

pub clear_flag : (words : List ℕ) (n room at r : ℕ) (f : Flags) → seen_flags words n room ≡ f
    → r ≡ get_or words (at / 64) r → n ≤ length words * 64 → at < length f.flags
    → seen_flags (set words (at / 64) (bit_and r (bit_not w64 (1 * 2 ^ (at % 64) % 2 ^ 64)))) n room ≡ with_flag f at false
clear_flag words n room at r f e is fits lt =
    let small : at % 64 < 64 = omega arith in
    written words n room at r _ false f e is fits lt
    (record {
      here = ap (λ (x : ℕ). x == 1) (bit_at_clear_same w64 r (at % 64) small);
      others = λ i lt ne. bit_at_clear_other w64 r (at % 64) small i lt ne;
    })

none_set : (words : List ℕ) (i n : ℕ) → ((k : ℕ) → get_or words k 0 ≡ 0) → flags_by (bit words) i n ≡ replicate n false
none_set words i zero z = refl
none_set words i (suc n) z =
    let here : bit words i ≡ false = ap (λ (w : ℕ). bit_at w (i % 64) == 1) (z (i / 64)) ∙ ap (λ (x : ℕ). x == 1) (bit_at-zero (i % 64)) in
    ap (λ (b : Bool). b ∷ flags_by (bit words) (i + 1) n) here ∙ ap (λ (fs : List Bool). false ∷ fs) (none_set words (i + 1) n z)

abbrev zeros : ℕ → List ℕ
zeros n = replicate n 0

get_zeros : (n k : ℕ) → get_or (zeros n) k 0 ≡ 0
get_zeros zero zero = refl
get_zeros zero (suc k) = refl
get_zeros (suc n) zero = refl
get_zeros (suc n) (suc k) = get_zeros n k

zero_at : (r : Bool) (q l k : ℕ) → get_or (if r then take q [] ++ zeros (q - l) else []) k 0 ≡ 0
zero_at true zero l k = get_zeros (0 - l) k
zero_at true (suc q) l k = get_zeros (suc q - l) k
zero_at false q l zero = refl
zero_at false q l (suc k) = refl

-- an empty row that was filled with zeros
pub zero_items : (r : Bool) (q l : ℕ) (items old : List ℕ) → items ≡ (if r then take q old ++ zeros (q - l) else old) → old ≡ []
    → (k : ℕ) → get_or items k 0 ≡ 0
zero_items r q l items old e none k =
    ap (λ (xs : List ℕ). get_or xs k 0) (e ∙ ap (λ (xs : List ℕ). if r then take q xs ++ zeros (q - l) else xs) none) ∙ zero_at r q l k

-- words of zeros have no flag set
pub no_flags : (words : List ℕ) (n : ℕ) → ((k : ℕ) → get_or words k 0 ≡ 0) → flags_of words n ≡ replicate n false
no_flags words n z = none_set words 0 n z

-- ---- a word at a time

or_of_max : (p q : ℕ) → max p q ≡ 1 → ((p == 1) || (q == 1)) ≡ true
or_of_max zero q e = let is : q ≡ 1 = omega arith in rw is refl
or_of_max (suc zero) q e = refl
or_of_max (suc (suc p)) q e = absurd (omega arith)

taken_bit : (x y i : ℕ) → bit_at (bit_or x y) i ≡ 1 → ((bit_at x i == 1) || (bit_at y i == 1)) ≡ true
taken_bit x y i e = or_of_max (bit_at x i) (bit_at y i) (sym (bit_at_or x y i) ∙ e)

zero_of_max : (p q : ℕ) → max p q ≡ 0 → ((p == 1) ≡ false) × ((q == 1) ≡ false)
zero_of_max zero zero e = (refl, refl)
zero_of_max zero (suc q) e = absurd (omega arith)
zero_of_max (suc p) q e = absurd (omega arith)

free_bit : (x y i : ℕ) → bit_at (bit_or x y) i ≡ 0 → ((bit_at x i == 1) ≡ false) × ((bit_at y i == 1) ≡ false)
free_bit x y i e = zero_of_max (bit_at x i) (bit_at y i) (sym (bit_at_or x y i) ∙ e)

-- the flags that a word has
abbrev pub Reads : Flags → ℕ → ℕ → Type 0
Reads f at r = (j : ℕ) → j / 64 ≡ at → j < length f.flags → flag f.flags j ≡ (bit_at r (j % 64) == 1)

pub reads : (words : List ℕ) (n room at r : ℕ) (f : Flags) → seen_flags words n room ≡ f
    → r ≡ get_or words at r → n ≤ length words * 64 → at < length words → Reads f at r
reads words n room at r f e is fits lt j here below =
    let len = length_view words n room f e in
    ap (λ (g : Flags). flag g.flags j) (sym e) ∙ flag-bit words n j false (omega arith)
    ∙ ap (λ (w : ℕ). bit_at (get_or words w 0) (j % 64) == 1) here
    ∙ ap (λ (w : ℕ). bit_at w (j % 64) == 1) (sym (any_default words at r lt is))

-- each flag from the word up to another is in one of the rows
abbrev pub TakenUpTo : Flags → Flags → ℕ → ℕ → Type 0
TakenUpTo f g word at = (j : ℕ) → word * 64 ≤ j → j < at * 64 → j < length f.flags → (flag f.flags j || flag g.flags j) ≡ true

both : (p q r s : Bool) → p ≡ r → q ≡ s → (r || s) ≡ true → (p || q) ≡ true
both p q r s e h t = ap (λ (x : Bool). x || q) e ∙ ap (λ (x : Bool). r || x) h ∙ t

taken_below : (f g : Flags) (word at t x y j : ℕ) → TakenUpTo f g word at → Reads f at x → Reads g at y
    → length f.flags ≡ length g.flags → t ≤ 64 → ((i : ℕ) → i < t → bit_at (bit_or x y) i ≡ 1)
    → word * 64 ≤ j → j < at * 64 + t → j < length f.flags → (j < at * 64) ⊎ (at * 64 ≤ j)
    → (flag f.flags j || flag g.flags j) ≡ true
taken_below f g word at t x y j up rf rg same small ones low high within (inl before) = up j low before within
taken_below f g word at t x y j up rf rg same small ones low high within (inr past) =
    let here : j / 64 ≡ at = omega arith in
    both _ _ _ _ (rf j here within) (rg j here (omega arith)) (taken_bit x y (j % 64) (ones (j % 64) (omega arith)))

-- a word of ones has all its flags in one of the rows
pub full_word : (f g : Flags) (word at x y : ℕ) → TakenUpTo f g word at → Reads f at x → Reads g at y
    → length f.flags ≡ length g.flags → bit_or x y ≡ 2 ^ 64 - 1 → TakenUpTo f g word (at + 1)
full_word f g word at x y up rf rg same full j low high within =
    taken_below f g word at 64 x y j up rf rg same (omega arith)
    (λ i lt. ap (λ (w : ℕ). bit_at w i) full ∙ bit_at_ones 64 i lt) low (omega arith) within (cases_lt j (at * 64))

-- the place of the lowest zero of another word is free
pub free_place : (f g : Flags) (word at x y t : ℕ) → word ≤ at → TakenUpTo f g word at → Reads f at x → Reads g at y
    → length f.flags ≡ length g.flags → IsLowestClear (bit_or x y) t
    → at * 64 + t < length f.flags → IsFirstFree f.flags g.flags (word * 64) (at * 64 + t)
free_place f g word at x y t le up rf rg same lowest within =
    let small = lowest.within in
    let here : (at * 64 + t) / 64 ≡ at = omega arith in
    let rest : (at * 64 + t) % 64 ≡ t = omega arith in
    let free = free_bit x y t lowest.is_clear in
    record {
      from = omega arith;
      within = within;
      not_first = rf (at * 64 + t) here within ∙ ap (λ (i : ℕ). bit_at x i == 1) rest ∙ free.0;
      not_second = rg (at * 64 + t) here (omega arith) ∙ ap (λ (i : ℕ). bit_at y i == 1) rest ∙ free.1;
      earlier = λ j low high.
          taken_below f g word at t x y j up rf rg same (omega arith) lowest.lower low high (omega arith) (cases_lt j (at * 64));
    }

-- where it lies past the end, no place is free
pub no_place : (f g : Flags) (word at x y t : ℕ) → TakenUpTo f g word at → Reads f at x → Reads g at y
    → length f.flags ≡ length g.flags → IsLowestClear (bit_or x y) t
    → length f.flags ≤ at * 64 + t → HasNoneFree f.flags g.flags (word * 64)
no_place f g word at x y t up rf rg same lowest past j low within =
    let small = lowest.within in
    taken_below f g word at t x y j up rf rg same (omega arith) lowest.lower low (omega arith) within (cases_lt j (at * 64))

pub free_answer : (f g : Flags) (word at x y t end : ℕ) (r : Option ℕ) → length f.flags ≡ end → word ≤ at → TakenUpTo f g word at → Reads f at x → Reads g at y
    → length f.flags ≡ length g.flags → IsLowestClear (bit_or x y) t
    → IfSome r (λ place. (place ≡ at * 64 + t) × (at * 64 + t < end))
    → IfSome r (λ place. IsFirstFree f.flags g.flags (word * 64) place)
free_answer f g word at x y t end None len le up rf rg same lowest h = tt
free_answer f g word at x y t end (Some place) len le up rf rg same lowest h =
    let P : ℕ → Type 0 = λ p. IsFirstFree f.flags g.flags (word * 64) p in
    subst P (sym h.0) (free_place f g word at x y t le up rf rg same lowest (let w = h.1 in omega arith))

pub none_answer : (f g : Flags) (word at x y t end : ℕ) (r : Option ℕ) → length f.flags ≡ end → TakenUpTo f g word at → Reads f at x → Reads g at y
    → length f.flags ≡ length g.flags → IsLowestClear (bit_or x y) t
    → IfNone r (end ≤ at * 64 + t) → IfNone r (HasNoneFree f.flags g.flags (word * 64))
none_answer f g word at x y t end None len up rf rg same lowest h = no_place f g word at x y t up rf rg same lowest (omega arith)
none_answer f g word at x y t end (Some place) len up rf rg same lowest h = tt
