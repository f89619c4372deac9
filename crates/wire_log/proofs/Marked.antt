-- A record is delivered.
use Rattle.std.proofs.Common.{◌≡◌, ℕ, zero, suc, ◌+◌, ◌-◌, ◌<◌, ◌≤◌, List, [], ◌∷◌, length, map, set, slice_get, get_or, All, Option, Some, None, option_map, refl, ap, sym, ◌∙◌, subst, arith, length-set}
use Rattle.std.proofs.lemmas.List.Elements.{All-set}
use Rattle.std.proofs.lemmas.List.Sums.{sum_by-cons}
use Rattle.std.proofs.lemmas.Option.{same_Some, slice_get_past, slice_get_read}
use Rattle.std.specs.List.{AllByRecursion}
use Rattle.wire_log.specs.declared.kept.Kept.{Kept}
use Rattle.wire_log.specs.declared.kept.TheConstants.{MOST_RECORDS}
use Rattle.wire_log.specs.Keeping.{AreKept, IsKept, delivered, delivered_at, delivered_where, posted_all, posted_of, stored_bytes, total}
use Rattle.wire_log.proofs.Stored.{all_at}
use Rattle.wire_log.proofs.Grown.{all_alike}
use Rattle.wire_machine.specs.World.{Posted, marked}

abbrev bytes_of_one : Option Kept → Option (List ℕ)
bytes_of_one o = option_map (λ (k : Kept). k.bytes) o

got_set : (xs : List Kept) (n m : ℕ) (k : Kept) → slice_get xs n ≡ Some k → bytes_of_one (slice_get (set xs n (delivered k)) m) ≡ bytes_of_one (slice_get xs m)
got_set [] n m k is = absurd (cc)
got_set (x ∷ xs) zero zero k is = ap (λ (o : Option Kept). bytes_of_one o) (sym is)
got_set (x ∷ xs) zero (suc m) k is = refl
got_set (x ∷ xs) (suc n) zero k is = refl
got_set (x ∷ xs) (suc n) (suc m) k is = got_set xs n m k is

-- no record's bytes change
bytes_set : (xs : List Kept) (n : ℕ) (k : Kept) → slice_get xs n ≡ Some k → (m : ℕ) → stored_bytes (set xs n (delivered k)) m ≡ stored_bytes xs m
bytes_set xs n k is zero = refl
bytes_set xs n k is (suc m) = got_set xs n m k is

total_cons : (x : Kept) (xs : List Kept) → total (x ∷ xs) ≡ length x.bytes + total xs
total_cons x xs = sum_by-cons (λ (k : Kept). length k.bytes) x xs

total_set : (xs : List Kept) (n : ℕ) (k : Kept) → slice_get xs n ≡ Some k → total (set xs n (delivered k)) ≡ total xs
total_set [] n k is = refl
total_set (x ∷ xs) zero k is =
    total_cons (delivered k) xs ∙ ap (λ (y : Kept). length y.bytes + total xs) (sym (same_Some x k is)) ∙ sym (total_cons x xs)
total_set (x ∷ xs) (suc n) k is =
    total_cons x (set xs n (delivered k)) ∙ ap (λ (m : ℕ). length x.bytes + m) (total_set xs n k is) ∙ sym (total_cons x xs)

marked_set : (all xs : List Kept) (n : ℕ) (k : Kept) → slice_get xs n ≡ Some k → map (posted_of all) (set xs n (delivered k)) ≡ marked (suc n) (map (posted_of all) xs)
marked_set all [] n k is = absurd (cc)
marked_set all (x ∷ xs) zero k is = ap (λ (y : Kept). posted_of all (delivered y) ∷ map (posted_of all) xs) (sym (same_Some x k is))
marked_set all (x ∷ xs) (suc n) k is = ap (λ (rs : List Posted). posted_of all x ∷ rs) (marked_set all xs n k is)

marked_past : (all xs : List Kept) (n : ℕ) → slice_get xs n ≡ None → map (posted_of all) xs ≡ marked (suc n) (map (posted_of all) xs)
marked_past all [] n is = refl
marked_past all (x ∷ xs) zero is = absurd (cc)
marked_past all (x ∷ xs) (suc n) is = ap (λ (rs : List Posted). posted_of all x ∷ rs) (marked_past all xs n is)

alike_everywhere : (a b kept : List Kept) → ((m : ℕ) → stored_bytes a m ≡ stored_bytes b m) → AllByRecursion (λ (k : Kept). stored_bytes a k.took ≡ stored_bytes b k.took) kept
alike_everywhere a b [] same = tt
alike_everywhere a b (k ∷ kept) same = (same k.took, alike_everywhere a b kept same)

posted_where : (xs : List Kept) (n : ℕ) (o : Option Kept) → slice_get xs n ≡ o → posted_all (delivered_where xs n o) ≡ marked (suc n) (posted_all xs)
posted_where xs n None is = marked_past xs xs n is
posted_where xs n (Some k) is =
    let new = set xs n (delivered k) in
    all_alike new xs new (alike_everywhere new xs new (bytes_set xs n k is)) ∙ marked_set xs xs n k is

-- what is seen once a record is delivered
pub posted_delivered : (number : ℕ) (xs : List Kept) → posted_all (delivered_at number xs) ≡ marked number (posted_all xs)
posted_delivered zero xs = refl
posted_delivered (suc n) xs = posted_where xs n (slice_get xs n) refl

kept_where : (xs : List Kept) (bytes n : ℕ) (o : Option Kept) → slice_get xs n ≡ o → AreKept xs bytes → AreKept (delivered_where xs n o) bytes
kept_where xs bytes n None is are = are
kept_where xs bytes n (Some k) is are =
    let same = length-set xs n (delivered k) in
    let one = all_at (IsKept (length xs)) xs n k are.each is in
    record {
      few = subst (λ (m : ℕ). m ≤ MOST_RECORDS) (sym same) are.few;
      each =
          subst (λ (m : ℕ). All (IsKept m) (set xs n (delivered k))) (sym same)
          (All-set (IsKept (length xs)) xs n (delivered k) (record { took = one.took; replies = one.replies }) are.each);
      bytes_are = are.bytes_are ∙ sym (total_set xs n k is);
    }

-- what is known stays so
pub kept_delivered : (number : ℕ) (xs : List Kept) (bytes : ℕ) → AreKept xs bytes → AreKept (delivered_at number xs) bytes
kept_delivered zero xs bytes are = are
kept_delivered (suc n) xs bytes are = kept_where xs bytes n (slice_get xs n) refl are

-- ---- how it is written

pub delivered_past : (kept : List Kept) (n : ℕ) → length kept < n → delivered_at n kept ≡ kept
delivered_past kept zero past = refl
delivered_past kept (suc n) past = ap (λ (o : Option Kept). delivered_where kept n o) (slice_get_past kept n (omega arith))

pub delivered_here : (kept : List Kept) (n : ℕ) (k : Kept) → 0 < n → n ≤ length kept → k ≡ get_or kept (n - 1) k → delivered_at n kept ≡ set kept (n - 1) (delivered k)
delivered_here kept zero k some within is = absurd (omega arith)
delivered_here kept (suc n) k some within is =
    let place : suc n - 1 ≡ n = omega arith in
    ap (λ (o : Option Kept). delivered_where kept n o) (slice_get_read kept (length kept) n k refl (omega arith) (is ∙ ap (λ (i : ℕ). get_or kept i k) place))
    ∙ ap (λ (i : ℕ). set kept i (delivered k)) (sym place)
