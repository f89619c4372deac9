-- Values behind a number that says how they are spelled (RFC 4506 section 4.15), and variants of an enum.
use Rattle.std.proofs.Common.{◌≡◌, ℕ, ◌+◌, ◌^◌, ◌<◌, Bool, true, false, cond, List, ◌++◌, length, Result, Ok, Err, inl, inr, refl, sym, ap, subst, ◌∙◌, append_assoc}
use Rattle.wire_xdr.specs.Cursor.{Cursor, IsBytes, ◌>>=◌}
use Rattle.wire_xdr.specs.Words.{word_bytes}
use Rattle.wire_xdr.specs.Form.{Passes, IsForm, IsWithin, Form}
use Rattle.wire_xdr.specs.StepLaws.{bind_ok, ok_is, Passes-then, bind_err, not_err, place_behind}
use Rattle.wire_xdr.specs.WordReads.{word_read}
use Rattle.wire_xdr.specs.WordLaws.{word_is}
use Rattle.wire_xdr.specs.Parts.{as_read}
use Rattle.wire_xdr.specs.PartLaws.{behind_both}

-- a value of a number's form is of that number
abbrev pub Own : {A : Type 0} → (ℕ → Form A) → (A → ℕ) → Type 0
Own {A} form number = (n : ℕ) (v : A) → (form n).Fits v → number v ≡ n

-- ---- a number, and what it says stands behind it

abbrev pub numbered_read : {A : Type 0} → (ℕ → Form A) → Cursor → Result (A × Cursor) ℕ
numbered_read form c = do
  n ← word_read c
  (form n.0).read n.1

abbrev pub numbered_spell : {A : Type 0} → (ℕ → Form A) → (A → ℕ) → A → List ℕ
numbered_spell form number v = word_bytes (number v) ++ (form (number v)).spell v

abbrev pub numbered_Fits : {A : Type 0} → (ℕ → Form A) → (A → ℕ) → A → Type 0
numbered_Fits form number v = (number v < 2 ^ 32) × (form (number v)).Fits v

pub numbered_is : {A : Type 0} (form : ℕ → Form A) (number : A → ℕ) → Own form number → IsForm (numbered_read form) (numbered_spell form number) (numbered_Fits form number)
numbered_is {A} form number own = record {
  takes = λ old v new fits e.
      let n = bind_ok (word_read old) (λ n. (form n.0).read n.1) (v, new) e in
      let first = word_is.takes old n.0.0 n.0.1 fits n.1 in
      let second = (form n.0.0).lawful.takes n.0.1 v new first.0.bytes n.2 in
      let P : ℕ → Type 0 = λ m. Passes old (word_bytes m ++ (form m).spell v) new × (m < 2 ^ 32) × (form m).Fits v in
      let all = subst P (sym (own n.0.0 v second.1)) (Passes-then old (word_bytes n.0.0) n.0.1 ((form n.0.0).spell v) new first.0 second.0, first.1, second.1) in
      (all.0, (all.1, all.2));
  again = λ at v rest fits.
      let x = word_bytes (number v) in
      let y = (form (number v)).spell v in
      let start : numbered_read form (record { at = at; rest = (x ++ y) ++ rest }) ≡ numbered_read form (record { at = at; rest = x ++ (y ++ rest) }) = ap (λ (r : List ℕ). numbered_read form (record { at = at; rest = r })) (append_assoc x y rest) in
      let first = ap (λ (r : Result (ℕ × Cursor) ℕ). r >>= λ n. (form n.0).read n.1) (word_is.again at (number v) (y ++ rest) fits.0) in
      start ∙ first ∙ (form (number v)).lawful.again (at + length x) v rest fits.1 ∙ ap (λ (c : Cursor). Ok (v, c)) (behind_both at x y rest);
  refuses = λ old p fits e.
      elim (bind_err (word_read old) (λ n. (form n.0).read n.1) p e) [
        | inl first ↦ word_is.refuses old p fits first
        | inr n ↦
            let passed = (word_is.takes old n.0.0 n.0.1 fits n.1).0 in
            place_behind old (word_bytes n.0.0) n.0.1 p passed ((form n.0.0).lawful.refuses n.0.1 p passed.bytes n.2)
      ];
}

abbrev pub numbered : {A : Type 0} (form : ℕ → Form A) (number : A → ℕ) → Own form number → Form A
numbered form number own = record { read = numbered_read form; spell = numbered_spell form number; Fits = numbered_Fits form number; lawful = numbered_is form number own }

-- ---- a variant that holds a value of a form

-- what was read is of the variant
pub made_takes : {A B : Type 0} (make : A → B) (form : Form A) (old : Cursor) (v : B) (new : Cursor) → IsBytes old.rest → as_read make form old ≡ Ok (v, new)
    → (a : A) × (make a ≡ v) × Passes old (form.spell a) new × form.Fits a
made_takes {A} {B} make form old v new fits e =
    let x = bind_ok (form.read old) (λ x. Ok (make x.0, x.1)) (v, new) e in
    let a = x.0.0 in
    let t = form.lawful.takes old a x.0.1 fits x.1 in
    let same = ok_is {E = ℕ} (make a, x.0.1) (v, new) x.2 in
    (a, ap (λ (p : B × Cursor). p.0) same, subst (λ (c : Cursor). Passes old (form.spell a) c) (ap (λ (p : B × Cursor). p.1) same) t.0, t.1)

-- what the variant spells is read again
pub made_again : {A B : Type 0} (make : A → B) (form : Form A) (at : ℕ) (a : A) (rest : List ℕ) → form.Fits a
    → as_read make form (record { at = at; rest = form.spell a ++ rest }) ≡ Ok (make a, record { at = at + length (form.spell a); rest = rest })
made_again {A} make form at a rest fits = ap (λ (r : Result (A × Cursor) ℕ). r >>= λ x. Ok (make x.0, x.1)) (form.lawful.again at a rest fits)

-- what is refused of it is refused at a place of the bytes
pub made_refuses : {A B : Type 0} (make : A → B) (form : Form A) (old : Cursor) (p : ℕ) → IsBytes old.rest → as_read make form old ≡ Err p → IsWithin old p
made_refuses make form old p fits e =
    elim (bind_err (form.read old) (λ x. Ok (make x.0, x.1)) p e) [
      | inl first ↦ form.lawful.refuses old p fits first
      | inr x ↦ absurd (not_err {E = ℕ} (make x.0.0, x.0.1) p x.2)
    ]

-- the same where the value's own number says how it is spelled
pub variant_takes : {A B : Type 0} (make : A → B) (form : ℕ → Form A) (number : A → ℕ) → Own form number → (n : ℕ) (old : Cursor) (v : B) (new : Cursor) → IsBytes old.rest → as_read make (form n) old ≡ Ok (v, new)
    → (a : A) × (make a ≡ v) × Passes old ((form (number a)).spell a) new × (form n).Fits a
variant_takes make form number own n old v new fits e =
    let t = made_takes make (form n) old v new fits e in
    (t.0, t.1, subst (λ (m : ℕ). Passes old ((form m).spell t.0) new) (sym (own n t.0 t.3)) t.2, t.3)

pub variant_again : {A B : Type 0} (make : A → B) (form : ℕ → Form A) (number : A → ℕ) → Own form number → (n : ℕ) (at : ℕ) (a : A) (rest : List ℕ) → (form n).Fits a
    → as_read make (form n) (record { at = at; rest = (form (number a)).spell a ++ rest }) ≡ Ok (make a, record { at = at + length ((form (number a)).spell a); rest = rest })
variant_again {A} {B} make form number own n at a rest fits =
    let P : ℕ → Type 0 = λ m. as_read make (form n) (record { at = at; rest = (form m).spell a ++ rest }) ≡ Ok (make a, record { at = at + length ((form m).spell a); rest = rest }) in
    subst P (sym (own n a fits)) (made_again make (form n) at a rest fits)

-- what was answered where a test chooses was answered in one of the two ways
pub by_test : {V P : Type 0} (b : Bool) (x y r : Result (V × Cursor) ℕ) → cond b x y ≡ r → (b ≡ true → x ≡ r → P) → (b ≡ false → y ≡ r → P) → P
by_test true x y r e f g = f refl e
by_test false x y r e f g = g refl e
