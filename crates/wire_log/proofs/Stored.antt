-- What is seen of stored records in the list that they stand for.
use Rattle.std.proofs.Common.{◌≡◌, ℕ, zero, suc, ◌+◌, ◌-◌, ◌<◌, ◌≤◌, List, [], ◌∷◌, length, map, slice_get, get_or, All, Option, Some, None, IsSome, is_some, true, option_map, refl, ap, sym, ◌∙◌, subst, arith}
use Rattle.std.proofs.lemmas.List.{length-map}
use Rattle.std.proofs.lemmas.List.Sums.{sum_by-cons}
use Rattle.std.proofs.lemmas.Option.{slice_get-map, slice_get_past, slice_get_read, slice_get_within, get_or_from_slice_get}
use Rattle.wire_log.specs.declared.kept.Kept.{Kept}
use Rattle.wire_log.specs.Keeping.{kept_at, stored_bytes, posted_of, posted_all, total, bytes_at}
use Rattle.wire_machine.specs.World.{Posted, posted_at, bytes_of}

-- the record of a number
pub at_posted : (all kept : List Kept) (n : ℕ) → posted_at n (map (posted_of all) kept) ≡ option_map (posted_of all) (kept_at n kept)
at_posted all kept zero = refl
at_posted all kept (suc n) = slice_get-map (posted_of all) kept n

bytes_through : (all : List Kept) (o : Option Kept) → option_map (λ (r : Posted). r.bytes) (option_map (posted_of all) o) ≡ option_map (λ (k : Kept). k.bytes) o
bytes_through all None = refl
bytes_through all (Some k) = refl

-- its bytes
pub bytes_posted : (all kept : List Kept) (n : ℕ) → bytes_at (map (posted_of all) kept) n ≡ stored_bytes kept n
bytes_posted all kept n = ap (λ (o : Option Posted). option_map (λ (r : Posted). r.bytes) o) (at_posted all kept n) ∙ bytes_through all (kept_at n kept)

pub length_posted : (kept : List Kept) → length (posted_all kept) ≡ length kept
length_posted kept = length-map kept (posted_of kept)

total_through : (all kept : List Kept) → bytes_of (map (posted_of all) kept) ≡ total kept
total_through all [] = refl
total_through all (k ∷ kept) =
    sum_by-cons (λ (r : Posted). length r.bytes) (posted_of all k) (map (posted_of all) kept) ∙ ap (λ (n : ℕ). length k.bytes + n) (total_through all kept)
    ∙ sym (sum_by-cons (λ (k : Kept). length k.bytes) k kept)

-- how many bytes they have
pub total_posted : (kept : List Kept) → bytes_of (posted_all kept) ≡ total kept
total_posted kept = total_through kept kept

-- the place of a number
pub kept_place : (n : ℕ) (kept : List Kept) → 0 < n → kept_at n kept ≡ slice_get kept (n - 1)
kept_place zero kept some = absurd (omega arith)
kept_place (suc n) kept some = let e : n ≡ suc n - 1 = omega arith in ap (λ (i : ℕ). slice_get kept i) e

-- what holds of all holds of the one at a place
pub all_at : {X : Type 0} (P : X → Type 0) (xs : List X) (n : ℕ) (x : X) → All P xs → slice_get xs n ≡ Some x → P x
all_at P xs n x all is = subst P (get_or_from_slice_get xs n x x is) (all n x (slice_get_within xs n x is))

-- what is read at the place of a number is the record of that number
pub kept_read : (kept : List Kept) (n : ℕ) (k : Kept) → 0 < n → n ≤ length kept → k ≡ get_or kept (n - 1) k → kept_at n kept ≡ Some k
kept_read kept n k some within is = kept_place n kept some ∙ slice_get_read kept (length kept) (n - 1) k refl (omega arith) is

-- no record has the number 0, or one past the last
pub kept_past : (kept : List Kept) (n : ℕ) → length kept < n → kept_at n kept ≡ None
kept_past kept zero past = refl
kept_past kept (suc n) past = slice_get_past kept n (omega arith)

some_within : {X : Type 0} (xs : List X) (n : ℕ) → is_some (slice_get xs n) ≡ true → n < length xs
some_within [] n some = absurd (cc)
some_within (x ∷ xs) zero some = omega arith
some_within (x ∷ xs) (suc n) some = let less = some_within xs n some in omega arith

-- a record that is seen has a number of those that are stored
pub number_within : (kept : List Kept) (n : ℕ) → IsSome (posted_at n (posted_all kept)) → (0 < n) × (n ≤ length kept)
number_within kept zero some = absurd (cc)
number_within kept (suc n) some =
    let less = some_within (posted_all kept) n some in
    let same = length_posted kept in
    (omega arith, omega arith)
