-- How many chunks haven't landed: a landing lowers it by one, and where it is 0 the job is whole.
use Rattle.std.proofs.Common.{◌≡◌, ⊎_elim, ℕ, zero, suc, ◌+◌, ◌*◌, ◌<◌, ◌≤◌, Bool, true, false, List, [], ◌∷◌, ◌++◌, refl, sym, ap, subst, ◌∙◌, arith}
use Rattle.std.proofs.Math.Nat.{eq-or-lt_of_le}
use Rattle.std.proofs.lemmas.Bool.{eq-eqb, ne_eqb}
use Rattle.std.proofs.lemmas.List.Folds.{list_any-append}
use Rattle.std.specs.Prelude.{◌||◌, if◌then◌else◌, Option, Some, None, option_map, is_none}
use Rattle.copy_model.specs.Job.{Entry, Landed, chunk_size, chunks_of, has_ended, has_landed, is_landing, size_of, unlanded, unlanded_from}
use Rattle.job_log.specs.Bits.{flag}
use Rattle.job_log.specs.Log.{JobView, total, total_of}
use Rattle.job_book.specs.Working.{chunk_at, first_free, is_taken, is_whole_by, next_free, next_unless}
use Rattle.dest_tasks.specs.Completing.{left_of, one_unless}

-- ---- one more chunk has landed

landed_more : (es : List Entry) (at off len : ℕ) → has_landed (es ++ Landed off len ∷ []) at ≡ (has_landed es at || has_landed (Landed off len ∷ []) at)
landed_more es at off len = list_any-append (is_landing at) es (Landed off len ∷ [])

or_right : (a b : Bool) → b ≡ true → (a || b) ≡ true
or_right true b is = refl
or_right false b is = is

or_none : (a b : Bool) → b ≡ false → (a || b) ≡ a
or_none true b is = refl
or_none false b is = is

or_ends : (b c : Bool) → b ≡ c → (b || false) ≡ c
or_ends true c is = is
or_ends false c is = is

pub landed_here : (es : List Entry) (off len : ℕ) → has_landed (es ++ Landed off len ∷ []) off ≡ true
landed_here es off len =
    landed_more es off off len ∙ or_right (has_landed es off) _ (or_ends _ true (eq-eqb off off refl))

pub landed_else : (es : List Entry) (at off len : ℕ) → (off ≡ at → ⊥) → has_landed (es ++ Landed off len ∷ []) at ≡ has_landed es at
landed_else es at off len other =
    landed_more es at off len ∙ or_none (has_landed es at) _ (or_ends _ false (ne_eqb off at other))

apart : (m n off : ℕ) → off ≡ m * chunk_size → n < m → off ≡ n * chunk_size → ⊥
apart m n off is lt same = omega arith

-- those before it
left_before : (es : List Entry) (m off len n : ℕ) → off ≡ m * chunk_size → n ≤ m → left_of (es ++ Landed off len ∷ []) n ≡ left_of es n
unfolding left_of
left_before es m off len zero is le = refl
left_before es m off len (suc n) is le =
    let here : has_landed (es ++ Landed off len ∷ []) (n * chunk_size) ≡ has_landed es (n * chunk_size) =
    landed_else es (n * chunk_size) off len (apart m n off is (omega arith)) in
    let before : left_of (es ++ Landed off len ∷ []) n ≡ left_of es n = left_before es m off len n is (omega arith) in
    ap (λ (k : ℕ). k + one_unless (has_landed (es ++ Landed off len ∷ []) (n * chunk_size))) before
    ∙ ap (λ (b : Bool). left_of es n + one_unless b) here

counted : (b : Bool) → b ≡ true → one_unless b ≡ 0
counted b is = ap one_unless is

uncounted : (b : Bool) → b ≡ false → one_unless b ≡ 1
uncounted b is = ap one_unless is

pub left_lower : (es : List Entry) (m off len n : ℕ) → off ≡ m * chunk_size → m < n → has_landed es off ≡ false
    → left_of (es ++ Landed off len ∷ []) n + 1 ≡ left_of es n
unfolding left_of
left_lower es m off len zero is lt new = absurd (omega arith)
left_lower es m off len (suc n) is lt new = let le : m ≤ n = omega arith in ⊎_elim
    (λ (here : m ≡ n).
    let at : off ≡ n * chunk_size = is ∙ ap (λ (k : ℕ). k * chunk_size) here in
    let before : left_of (es ++ Landed off len ∷ []) n ≡ left_of es n = left_before es m off len n is (omega arith) in
    let now = counted (has_landed (es ++ Landed off len ∷ []) (n * chunk_size)) (subst (λ (o : ℕ). has_landed (es ++ Landed off len ∷ []) o ≡ true) at (landed_here es off len)) in
    let was = uncounted (has_landed es (n * chunk_size)) (subst (λ (o : ℕ). has_landed es o ≡ false) at new) in
    omega (arith, before, now, was))
    (λ (below : m < n).
    let less = left_lower es m off len n is below new in
    let same = ap one_unless (landed_else es (n * chunk_size) off len (λ at. apart n m (n * chunk_size) refl below (sym at ∙ is))) in
    omega (arith, less, same))
    (eq-or-lt_of_le le)

-- ---- none is left

is_counted : (b : Bool) → one_unless b ≡ 0 → b ≡ true
is_counted true is = refl
is_counted false is = absurd (omega arith)

pub none_left : (es : List Entry) (n k : ℕ) → left_of es n ≡ 0 → k < n → has_landed es (k * chunk_size) ≡ true
unfolding left_of
none_left es zero k is lt = absurd (omega arith)
none_left es (suc n) k is lt = let le : k ≤ n = omega arith in ⊎_elim
    (λ (here : k ≡ n). subst (λ (j : ℕ). has_landed es (j * chunk_size) ≡ true) (sym here) (is_counted (has_landed es (n * chunk_size)) (omega (arith, is))))
    (λ (below : k < n). none_left es n k (omega (arith, is)) below)
    (eq-or-lt_of_le le)

if_true : {X : Type 0} (b : Bool) (x y : X) → b ≡ true → (if b then x else y) ≡ x
if_true true x y is = refl
if_true false x y is = absurd (cc)

next_start : (k : ℕ) → k * chunk_size + chunk_size ≡ (k + 1) * chunk_size
next_start k = omega arith

none_unlanded : (es : List Entry) (n from : ℕ) → ((k : ℕ) → k < from + n → has_landed es (k * chunk_size) ≡ true) → unlanded_from es (from * chunk_size) n ≡ None
none_unlanded es zero from all = refl
none_unlanded es (suc n) from all =
    if_true (has_landed es (from * chunk_size)) _ _ (all from (omega arith))
    ∙ ap (λ (off : ℕ). unlanded_from es off n) (next_start from)
    ∙ none_unlanded es n (from + 1) (λ k lt. all k (omega arith))

pub is_whole_then : (es : List Entry) (len : ℕ) → size_of es ≡ Some len → left_of es (chunks_of len) ≡ 0 → is_whole_by es (size_of es) ≡ true
is_whole_then es len sized none =
    ap (λ (n : Option ℕ). is_whole_by es n) sized
    ∙ ap (λ (o : Option ℕ). is_none o) (none_unlanded es (chunks_of len) 0 (λ k lt. none_left es (chunks_of len) k none (omega arith)))

-- ---- a whole job has no next chunk

found_or : {P : Type 0} (b : Bool) (x : ℕ) (more : Option ℕ) → (if b then more else Some x) ≡ None → (b ≡ true → more ≡ None → P) → P
found_or true x more is goes = goes refl is
found_or false x more is goes = absurd (cc)

all_landed : (es : List Entry) (n from : ℕ) → unlanded_from es (from * chunk_size) n ≡ None
    → (k : ℕ) → from ≤ k → k < from + n → has_landed es (k * chunk_size) ≡ true
all_landed es zero from none k le lt = absurd (omega arith)
all_landed es (suc n) from none k le lt =
    found_or (has_landed es (from * chunk_size)) (from * chunk_size) (unlanded_from es (from * chunk_size + chunk_size) n) none
    (λ (here : has_landed es (from * chunk_size) ≡ true) (rest : unlanded_from es (from * chunk_size + chunk_size) n ≡ None). ⊎_elim
    (λ (same : from ≡ k). subst (λ (j : ℕ). has_landed es (j * chunk_size) ≡ true) same here)
    (λ (above : from < k). all_landed es n (from + 1) (ap (λ (off : ℕ). unlanded_from es off n) (sym (next_start from)) ∙ rest) k (omega arith) (omega arith))
    (eq-or-lt_of_le le))

none_free : (taken : ℕ → Bool) (left number : ℕ) → ((j : ℕ) → j < number + left → taken j ≡ true) → first_free taken left number ≡ None
none_free taken zero number all = refl
none_free taken (suc left) number all =
    if_true (taken number) _ _ (all number (omega arith)) ∙ none_free taken left (number + 1) (λ j lt. all j (omega arith))

never_next : (v : JobView) (ended : Bool) → next_free v ≡ None → next_unless ended v ≡ None
never_next v true none = refl
never_next v false none = none

is_none_so : (o : Option ℕ) → is_none o ≡ true → o ≡ None
is_none_so None is = refl
is_none_so (Some x) is = absurd (cc)

by_size : (v : JobView) (size : Option ℕ) → size_of v.entries ≡ size → is_whole_by v.entries size ≡ true
    → (k : ℕ) → k < chunks_of (total v.entries) → has_landed v.entries (k * chunk_size) ≡ true
by_size v None is whole k lt = absurd (cc)
by_size v (Some len) is whole k lt =
    let within : k < chunks_of len = subst (λ (n : Option ℕ). k < chunks_of (total_of n)) is lt in
    all_landed v.entries (chunks_of len) 0 (is_none_so (unlanded v.entries len) whole) k (omega arith) (omega arith)

pub whole_has_none : (v : JobView) → is_whole_by v.entries (size_of v.entries) ≡ true → next_unless (has_ended v.entries) v ≡ None
whole_has_none v whole =
    never_next v (has_ended v.entries)
    (ap (λ (n : Option ℕ). option_map (chunk_at v) n) (none_free (is_taken v) (chunks_of (total v.entries)) 0
    (λ j lt. or_right (flag v.claims j) (has_landed v.entries (j * chunk_size)) (by_size v (size_of v.entries) refl whole j (omega arith)))))
