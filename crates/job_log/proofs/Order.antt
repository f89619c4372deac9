-- In a consecutive job the chunks before a landed one have landed.
use Rattle.std.proofs.Common.{◌≡◌, ℕ, zero, suc, ◌*◌, ◌<◌, ◌≤◌, Bool, true, false, List, [], ◌∷◌, ◌++◌, length, take, drop, take-append-drop, get_or, refl, sym, ◌∙◌, ap, arith, inl, inr}
use Rattle.std.specs.Prelude.{◌≢◌, ◌⊎◌, ◌||◌, ◌&&◌}
use Rattle.std.proofs.lemmas.Bool.{or_left, eqb-true, cases_eq}
use Rattle.std.proofs.lemmas.List.Folds.{list_any-append}
use Rattle.std.proofs.lemmas.Option.{slice_get-get_or}
use Rattle.copy_model.specs.Job.{Entry, Sized, Landed, Stopped, Committed, Reported, is_landing, has_landed, chunk_size, Allows, IsLawful}
use Rattle.job_log.specs.Log.{have_landed}

record Found (es : List Entry) (off : ℕ) : Type 0 where
  place : ℕ
  within : place < length es
  lands : is_landing off (get_or es place Stopped) ≡ true

found_at : (e : Entry) (es : List Entry) (off : ℕ) (b : Bool) → is_landing off e ≡ b → (b || has_landed es off) ≡ true
    → (has_landed es off ≡ true → Found es off) → Found (e ∷ es) off
found_at e es off true is any rest = record { place = 0; within = omega arith; lands = is }
found_at e es off false is any rest =
    let f = rest any in
    record { place = suc f.place; within = let w = f.within in omega arith; lands = f.lands }

found : (es : List Entry) (off : ℕ) → has_landed es off ≡ true → Found es off
found [] off any = absurd (cc)
found (e ∷ es) off any = found_at e es off (is_landing off e) refl any (λ h. found es off h)

before_landing : (front : List Entry) (e : Entry) (off k : ℕ) → Allows true front e → is_landing off e ≡ true
    → k * chunk_size < off → has_landed front (k * chunk_size) ≡ true
before_landing front (Landed at len) off k allows is lt =
    let a = allows.0 in
    let same : at ≡ off = eqb-true at off is in
    let w = a.chunk.within in
    a.in_order refl (k * chunk_size) (record { number = k; start = refl; within = omega arith }) (omega arith)
before_landing front (Sized len) off k allows is lt = absurd (cc)
before_landing front Stopped off k allows is lt = absurd (cc)
before_landing front Committed off k allows is lt = absurd (cc)
before_landing front Reported off k allows is lt = absurd (cc)

pub earlier_landed : (es : List Entry) (off k : ℕ) → IsLawful true es → has_landed es off ≡ true → k * chunk_size < off
    → has_landed es (k * chunk_size) ≡ true
earlier_landed es off k lawful any lt =
    let f = found es off any in
    let allows = lawful f.place (get_or es f.place Stopped) (slice_get-get_or es f.place Stopped f.within) in
    let front = before_landing (take f.place es) (get_or es f.place Stopped) off k allows f.lands lt in
    let parts : take f.place es ++ drop f.place es ≡ es = take-append-drop f.place es in
    ap (λ (l : List Entry). has_landed l (k * chunk_size)) (sym parts)
    ∙ list_any-append (is_landing (k * chunk_size)) (take f.place es) (drop f.place es) ∙ or_left _ _ front

both_true : (a b : Bool) → a ≡ true → b ≡ true → (a && b) ≡ true
both_true true true e f = refl
both_true true false e f = f
both_true false b e f = e

all_below : (es : List Entry) (n k : ℕ) → IsLawful true es → has_landed es (k * chunk_size) ≡ true → n ≤ k → have_landed es n ≡ true
all_below es zero k lawful any le = refl
all_below es (suc n) k lawful any le =
    both_true _ _ (all_below es n k lawful any (omega arith)) (earlier_landed es (k * chunk_size) n lawful any (omega arith))

and_false : (a : Bool) → (a && false) ≡ false
and_false true = refl
and_false false = refl

last_decides : (es : List Entry) (n : ℕ) (b : Bool) → IsLawful true es → has_landed es (n * chunk_size) ≡ b → (have_landed es n && b) ≡ b
last_decides es n true lawful any = both_true _ _ (all_below es n n lawful any (omega arith)) refl
last_decides es n false lawful any = and_false (have_landed es n)

-- the chunks up to one have landed where that one has
pub have_landed-last : (es : List Entry) (n : ℕ) → IsLawful true es → have_landed es (suc n) ≡ has_landed es (n * chunk_size)
have_landed-last es n lawful = last_decides es n (has_landed es (n * chunk_size)) lawful refl

one_of : (es : List Entry) (n k : ℕ) (a b : Bool) → (a && b) ≡ true → have_landed es n ≡ a → has_landed es (n * chunk_size) ≡ b → k < suc n
    → (have_landed es n ≡ true → k < n → has_landed es (k * chunk_size) ≡ true) → (k ≡ n) ⊎ (k ≢ n) → has_landed es (k * chunk_size) ≡ true
one_of es n k true true both all last lt rest (inl same) = ap (λ (m : ℕ). has_landed es (m * chunk_size)) same ∙ last
one_of es n k true true both all last lt rest (inr ne) = rest all (omega (arith, ne))
one_of es n k true false both all last lt rest same = absurd (cc)
one_of es n k false b both all last lt rest same = absurd (cc)

-- what all landed before means for one of them
pub have_landed-one : (es : List Entry) (n k : ℕ) → have_landed es n ≡ true → k < n → has_landed es (k * chunk_size) ≡ true
have_landed-one es zero k all lt = absurd (omega arith)
have_landed-one es (suc n) k all lt = one_of es n k (have_landed es n) (has_landed es (n * chunk_size)) all refl refl lt (λ h before. have_landed-one es n k h before) (cases_eq k n)
