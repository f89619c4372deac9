-- Reading values one after the other, as a loop does.
use Rattle.std.proofs.Common.{◌≡◌, ℕ, suc, ◌-◌, ◌+◌, ◌≤◌, ◌<◌, List, [], ◌∷◌, ◌++◌, Result, Ok, Err, refl, sym, ap, ◌∙◌, append_assoc, arith}
use Rattle.std.proofs.lemmas.List.{append-nil}
use Rattle.wire_xdr.specs.declared.form.bad.ReadError.{ReadError}
use Rattle.wire_xdr.specs.declared.form.bad.ReadError.TheVariants.{Memory, Bad}
use Rattle.wire_xdr.specs.Cursor.{Cursor, ◌>>=◌}
use Rattle.wire_xdr.specs.Form.{Form}
use Rattle.wire_xdr.specs.Parts.{many}
use Rattle.wire_xdr.specs.Reads.{Fails}

-- what was read before, and what is still read
abbrev pub with_front : {A : Type 0} → List A → Result (List A × Cursor) ℕ → Result (List A × Cursor) ℕ
with_front front told = told >>= λ x. Ok (front ++ x.0, x.1)

regroup : {A : Type 0} (front : List A) (v : A) (told : Result (List A × Cursor) ℕ) → with_front front (told >>= λ x. Ok (v ∷ x.0, x.1)) ≡ with_front (front ++ v ∷ []) told
regroup {A} front v (Ok x) = ap (λ (vs : List A). Ok (vs, x.1)) (simp append_assoc)
regroup front v (Err e) = refl

pub goes_on : {A : Type 0} (form : Form A) (front : List A) (count i : ℕ) (c : Cursor) (v : A) (after : Cursor) (total : Result (List A × Cursor) ℕ) → i < count → form.read c ≡ Ok (v, after)
    → with_front front (many form (count - i) c) ≡ total → with_front (front ++ v ∷ []) (many form (count - (i + 1)) after) ≡ total
unfolding many
goes_on form front count i c v after total lt h so_far =
    let k : count - i ≡ suc (count - (i + 1)) = omega arith in
    let one : with_front front (many form (count - i) c) ≡ with_front (front ++ v ∷ []) (many form (count - (i + 1)) after) = rw (k, h) (regroup front v (many form (count - (i + 1)) after)) in
    sym one ∙ so_far

pub stops : {A : Type 0} (e : ReadError) (form : Form A) (front : List A) (count i : ℕ) (c : Cursor) (total : Result (List A × Cursor) ℕ) → i < count → Fails e (form.read c)
    → with_front front (many form (count - i) c) ≡ total → Fails e total
unfolding many
stops Memory form front count i c total lt h so_far = tt
stops (Bad bad) form front count i c total lt h so_far =
    let k : count - i ≡ suc (count - (i + 1)) = omega arith in
    let one : with_front front (many form (count - i) c) ≡ Err bad.at = rw (k, h) refl in
    sym so_far ∙ one

pub is_done : {A : Type 0} (form : Form A) (front : List A) (count i : ℕ) (c : Cursor) (total : Result (List A × Cursor) ℕ) → count ≤ i → with_front front (many form (count - i) c) ≡ total → total ≡ Ok (front, c)
unfolding many
is_done {A} form front count i c total le so_far =
    let k : count - i ≡ 0 = omega arith in
    let one : with_front front (many form (count - i) c) ≡ Ok (front, c) = rw k (ap (λ (vs : List A). Ok (vs, c)) (append-nil front)) in
    sym so_far ∙ one
