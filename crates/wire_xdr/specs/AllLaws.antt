-- A value is what all of the bytes spell exactly where they are its spelling: the law of every form.
use Rattle.std.proofs.Common.{◌≡◌, ℕ, ◌+◌, ◌≤◌, List, [], ◌∷◌, ◌++◌, length, Result, Ok, Err, refl, sym, ap, ◌∙◌, subst, arith}
use Rattle.std.specs.Prelude.{◌↔◌, IfOk, IfErr, Some, None}
use Rattle.std.specs.Result.{result_ok}
use Rattle.std.proofs.lemmas.List.{append-nil, length-append}
use Rattle.wire_xdr.specs.declared.form.bad.BadXdr.{BadXdr}
use Rattle.wire_xdr.specs.Cursor.{Cursor, IsBytes}
use Rattle.wire_xdr.specs.Form.{Form, Spells, Passes}
use Rattle.wire_xdr.specs.StepLaws.{ok_is}
use Rattle.wire_xdr.specs.All.{start, nothing_behind, closed, all_of, value_of, ReadsAll, IsAllSpelled}

-- what is spelled is read
pub spelled_all : {A : Type 0} (form : Form A) (v : A) (bytes : List ℕ) → Spells form v bytes → all_of form bytes ≡ Ok v
unfolding all_of
spelled_all form v bytes h =
    ap (λ (b : List ℕ). closed (form.read (start b))) (h.1 ∙ sym (append-nil (form.spell v))) ∙ ap closed (form.lawful.again 0 v [] h.0)

-- a value that nothing stands behind
ended : {A : Type 0} (v w : A) (at : ℕ) (rest : List ℕ) → nothing_behind w at rest ≡ Ok v → (w ≡ v) × (rest ≡ [])
ended v w at [] h = (ok_is {E = BadXdr} w v h, refl)
ended v w at (b ∷ rest) h = let wrong : ⊥ = cc in absurd wrong

found_in : {A : Type 0} (form : Form A) (v : A) (c : Cursor) → IsBytes c.rest → (r : Result (A × Cursor) ℕ) → form.read c ≡ r → closed r ≡ Ok v → Spells form v c.rest
found_in form v c fits (Err place) is h = let wrong : ⊥ = cc in absurd wrong
found_in form v c fits (Ok told) is h =
    let passed = form.lawful.takes c told.0 told.1 fits is in
    let ends = ended v told.0 told.1.at told.1.rest h in
    (subst form.Fits ends.0 passed.1, passed.0.parts ∙ ap (λ r. form.spell told.0 ++ r) ends.1 ∙ append-nil (form.spell told.0) ∙ ap form.spell ends.0)

pub all_spelled : {A : Type 0} (form : Form A) → IsAllSpelled form
unfolding all_of
all_spelled form v bytes fits = (λ h. found_in form v (start bytes) fits _ refl h, λ h. spelled_all form v bytes h)

some_value : {A : Type 0} (told : Result A BadXdr) (v : A) → result_ok told ≡ Some v → told ≡ Ok v
some_value (Ok w) v h = cc
some_value (Err bad) v h = let wrong : ⊥ = cc in absurd wrong

pub value_spelled : {A : Type 0} (form : Form A) (v : A) (bytes : List ℕ) → IsBytes bytes → (value_of form bytes ≡ Some v) ↔ Spells form v bytes
value_spelled form v bytes fits = (λ h. (all_spelled form v bytes fits).0 (some_value (all_of form bytes) v h), λ h. ap result_ok (spelled_all form v bytes h))

pub spelled_value : {A : Type 0} (form : Form A) (v : A) → form.Fits v → value_of form (form.spell v) ≡ Some v
spelled_value form v fits = ap result_ok (spelled_all form v (form.spell v) (fits, refl))

-- a refusal lies within the bytes
within_behind : {A : Type 0} (v : A) (at n : ℕ) (rest : List ℕ) → at ≤ n → IfErr (nothing_behind v at rest) (λ bad. bad.at ≤ n)
within_behind v at n [] le = tt
within_behind v at n (b ∷ rest) le = le

within_read : {A : Type 0} (form : Form A) (bytes : List ℕ) → IsBytes bytes → (r : Result (A × Cursor) ℕ) → form.read (start bytes) ≡ r → IfErr (closed r) (λ bad. bad.at ≤ length bytes)
within_read form bytes fits (Err place) is = omega (arith, (form.lawful.refuses (start bytes) place fits is).end)
within_read form bytes fits (Ok told) is =
    let passed = (form.lawful.takes (start bytes) told.0 told.1 fits is).0 in
    let len : length bytes ≡ length (form.spell told.0) + length told.1.rest = ap length passed.parts ∙ length-append (form.spell told.0) told.1.rest in
    within_behind told.0 told.1.at (length bytes) told.1.rest (omega (arith, passed.by, len))

found_of : {A : Type 0} (form : Form A) (bytes : List ℕ) → IsBytes bytes → (told : Result A BadXdr) → told ≡ all_of form bytes → IfOk told (λ v. Spells form v bytes)
found_of form bytes fits (Ok v) is = (all_spelled form v bytes fits).0 (sym is)
found_of form bytes fits (Err bad) is = tt

-- what reading from left to right gives is what is to be answered
pub reads_all : {A : Type 0} (form : Form A) (bytes : List ℕ) → IsBytes bytes → (told : Result A BadXdr) → told ≡ all_of form bytes → ReadsAll form bytes told
unfolding all_of
reads_all {A} form bytes fits told is = record {
  exact = is;
  found = found_of form bytes fits told is;
  only = λ v spells. is ∙ spelled_all form v bytes spells;
  within = subst (λ (t : Result A BadXdr). IfErr t (λ bad. bad.at ≤ length bytes)) (sym is) (within_read form bytes fits _ refl);
}
