-- Reading operations one after the other, as a loop does.
use Rattle.std.proofs.Common.{◌≡◌, ℕ, suc, ◌-◌, ◌+◌, ◌≤◌, ◌<◌, Bool, true, false, eqb, length, List, [], ◌∷◌, ◌++◌, Result, Ok, Err, refl, sym, ap, ◌∙◌, append_assoc, arith}
use Rattle.std.proofs.lemmas.List.{append-nil}
use Rattle.wire_xdr.specs.Cursor.{Cursor}
use Rattle.nfs_compound.specs.declared.tail.Tail.{Tail}
use Rattle.nfs_compound.specs.declared.tail.Tail.TheVariants.{Whole}
use Rattle.nfs_compound.specs.Body.{with_front, body_at}

-- an operation stands in front of others in the same way as behind those before it
regroup : {A : Type 0} (front : List A) (v : A) (told : Result (List A × Tail) ℕ) → with_front front (with_front (v ∷ []) told) ≡ with_front (front ++ v ∷ []) told
regroup {A} front v (Ok x) = ap (λ (vs : List A). Ok (vs, x.1)) (simp append_assoc)
regroup front v (Err e) = refl

-- the loop reads one more
pub goes_on : {A : Type 0} (one : ℕ → Cursor → Result (A × Cursor) Tail) (is_cut : A → Bool) (front : List A) (count i : ℕ) (c : Cursor) (v : A) (after : Cursor) (total : Result (List A × Tail) ℕ) → i < count → one i c ≡ Ok (v, after) → is_cut v ≡ false
    → with_front front (body_at one is_cut (count - i) i c) ≡ total → with_front (front ++ v ∷ []) (body_at one is_cut (count - (i + 1)) (i + 1) after) ≡ total
unfolding body_at
goes_on {A} one is_cut front count i c v after total lt read uncut so_far =
    let k : count - i ≡ suc (count - (i + 1)) = omega arith in
    let rest = body_at one is_cut (count - (i + 1)) (i + 1) after in
    let first : body_at one is_cut (count - i) i c ≡ with_front (v ∷ []) rest = rw (k, read, uncut) refl in
    sym (ap (with_front front) first ∙ regroup front v rest) ∙ so_far

-- behind a cut operation the loop ends
pub is_cut_off : {A : Type 0} (one : ℕ → Cursor → Result (A × Cursor) Tail) (is_cut : A → Bool) (front : List A) (count i : ℕ) (c : Cursor) (v : A) (after : Cursor) (total : Result (List A × Tail) ℕ) → i < count → one i c ≡ Ok (v, after) → is_cut v ≡ true
    → with_front front (body_at one is_cut (count - i) i c) ≡ total → total ≡ Ok (front ++ v ∷ [], Whole)
unfolding body_at
is_cut_off {A} one is_cut front count i c v after total lt read cut so_far =
    let k : count - i ≡ suc (count - (i + 1)) = omega arith in
    let first : body_at one is_cut (count - i) i c ≡ Ok (v ∷ [], Whole) = rw (k, read, cut) refl in
    sym so_far ∙ ap (with_front front) first

-- the loop ends at a tail
pub stops : {A : Type 0} (one : ℕ → Cursor → Result (A × Cursor) Tail) (is_cut : A → Bool) (front : List A) (count i : ℕ) (c : Cursor) (tail : Tail) (total : Result (List A × Tail) ℕ) → i < count → one i c ≡ Err tail
    → with_front front (body_at one is_cut (count - i) i c) ≡ total → total ≡ Ok (front, tail)
unfolding body_at
stops {A} one is_cut front count i c tail total lt read so_far =
    let k : count - i ≡ suc (count - (i + 1)) = omega arith in
    let first : body_at one is_cut (count - i) i c ≡ Ok ([], tail) = rw (k, read) refl in
    sym so_far ∙ ap (with_front front) first ∙ ap (λ (vs : List A). Ok (vs, tail)) (append-nil front)

-- all were read, and nothing follows
pub ends : {A : Type 0} (one : ℕ → Cursor → Result (A × Cursor) Tail) (is_cut : A → Bool) (front : List A) (count i : ℕ) (c : Cursor) (total : Result (List A × Tail) ℕ) → count ≤ i → eqb (length c.rest) 0 ≡ true
    → with_front front (body_at one is_cut (count - i) i c) ≡ total → total ≡ Ok (front, Whole)
unfolding body_at
ends {A} one is_cut front count i c total le empty so_far =
    let k : count - i ≡ 0 = omega arith in
    let first : body_at one is_cut (count - i) i c ≡ Ok ([], Whole) = rw (k, empty) refl in
    sym so_far ∙ ap (with_front front) first ∙ ap (λ (vs : List A). Ok (vs, Whole)) (append-nil front)

-- all were read, and bytes follow
pub trails : {A : Type 0} (one : ℕ → Cursor → Result (A × Cursor) Tail) (is_cut : A → Bool) (front : List A) (count i : ℕ) (c : Cursor) (total : Result (List A × Tail) ℕ) → count ≤ i → eqb (length c.rest) 0 ≡ false
    → with_front front (body_at one is_cut (count - i) i c) ≡ total → total ≡ Err c.at
unfolding body_at
trails {A} one is_cut front count i c total le some so_far =
    let k : count - i ≡ 0 = omega arith in
    let first : body_at one is_cut (count - i) i c ≡ Err c.at = rw (k, some) refl in
    sym so_far ∙ ap (with_front front) first
