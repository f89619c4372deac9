-- The laws of pairs, structs, lists and options, each proved from those of their parts.
use Rattle.std.proofs.Common.{◌≡◌, ℕ, zero, suc, ◌+◌, ◌^◌, ◌<◌, Bool, true, false, List, [], ◌∷◌, ◌++◌, length, Option, Some, None, Result, Ok, inl, inr, refl, sym, ap, subst, ◌∙◌, append_assoc, arith, cond, Err}
use Rattle.std.specs.List.{flat_map, AllByRecursion}
use Rattle.std.proofs.lemmas.List.{length-append}
use Rattle.wire_xdr.specs.Cursor.{Cursor, IsBytes, ◌>>=◌}
use Rattle.wire_xdr.specs.Words.{word_bytes, flag_bytes}
use Rattle.wire_xdr.specs.Form.{Passes, IsForm, IsWithin, Form}
use Rattle.wire_xdr.specs.StepLaws.{bind_ok, test_ok, ok_is, Passes-then, bind_err, test_err, not_err, at_start, place_behind}
use Rattle.wire_xdr.specs.WordReads.{flag_read, count_read}
use Rattle.wire_xdr.specs.WordLaws.{flag_is, count_is}
use Rattle.wire_xdr.specs.Parts.{void_read, both_read, both_spell, both_Fits, as_read, tested_read, tested_Fits, many, list_read, list_spell, list_Fits, value_if, option_read, option_spell, option_Fits}

-- the cursor behind two texts
pub behind_both : (at : ℕ) (x y rest : List ℕ) → ◌≡◌ {A = Cursor} (record { at = (at + length x) + length y; rest = rest }) (record { at = at + length (x ++ y); rest = rest })
behind_both at x y rest =
    let e : (at + length x) + length y ≡ at + length (x ++ y) = omega (arith, length-append x y) in
    ap (λ (k : ℕ). record { at = k; rest = rest }) e

pub void_is : IsForm void_read (λ v. []) (λ v. Unit {0})
void_is = record {
  takes = λ old v new fits e.
      let P : Unit {0} × Cursor → Type 0 = λ p. Passes old [] p.1 × Unit {0} in
      subst P (ok_is {E = ℕ} (tt, old) (v, new) e) (record { parts = refl; by = omega arith; bytes = fits }, tt);
  again = λ at v rest fits.
      let e : at ≡ at + 0 = omega arith in
      ap (λ (k : ℕ). Ok (tt, record { at = k; rest = rest })) e;
  refuses = λ old p fits e. absurd (not_err {E = ℕ} (tt, old) p e);
}

pub both_is : {A B : Type 0} (a : Form A) (b : Form B) → IsForm (both_read a b) (both_spell a b) (both_Fits a b)
both_is {A} {B} a b = record {
  takes = λ old v new fits e.
      let x = bind_ok (a.read old) (λ x. b.read x.1 >>= λ y. Ok ((x.0, y.0), y.1)) (v, new) e in
      let y = bind_ok (b.read x.0.1) (λ y. Ok ((x.0.0, y.0), y.1)) (v, new) x.2 in
      let first = a.lawful.takes old x.0.0 x.0.1 fits x.1 in
      let second = b.lawful.takes x.0.1 y.0.0 y.0.1 first.0.bytes y.1 in
      let P : (A × B) × Cursor → Type 0 = λ p. Passes old (both_spell a b p.0) p.1 × both_Fits a b p.0 in
      subst P (ok_is {E = ℕ} ((x.0.0, y.0.0), y.0.1) (v, new) y.2) (Passes-then old (a.spell x.0.0) x.0.1 (b.spell y.0.0) y.0.1 first.0 second.0, (first.1, second.1));
  again = λ at v rest fits.
      let x = a.spell v.0 in
      let y = b.spell v.1 in
      let start : both_read a b (record { at = at; rest = (x ++ y) ++ rest }) ≡ both_read a b (record { at = at; rest = x ++ (y ++ rest) }) = ap (λ (r : List ℕ). both_read a b (record { at = at; rest = r })) (append_assoc x y rest) in
      let first = ap (λ (r : Result (A × Cursor) ℕ). r >>= λ x. b.read x.1 >>= λ y. Ok ((x.0, y.0), y.1)) (a.lawful.again at v.0 (y ++ rest) fits.0) in
      let second = ap (λ (r : Result (B × Cursor) ℕ). r >>= λ y. Ok ((v.0, y.0), y.1)) (b.lawful.again (at + length x) v.1 rest fits.1) in
      start ∙ first ∙ second ∙ ap (λ (c : Cursor). Ok (v, c)) (behind_both at x y rest);
  refuses = λ old p fits e.
      elim (bind_err (a.read old) (λ x. b.read x.1 >>= λ y. Ok ((x.0, y.0), y.1)) p e) [
        | inl first ↦ a.lawful.refuses old p fits first
        | inr x ↦
            let passed = (a.lawful.takes old x.0.0 x.0.1 fits x.1).0 in
            elim (bind_err (b.read x.0.1) (λ y. Ok ((x.0.0, y.0), y.1)) p x.2) [
              | inl second ↦ place_behind old (a.spell x.0.0) x.0.1 p passed (b.lawful.refuses x.0.1 p passed.bytes second)
              | inr y ↦ absurd (not_err {E = ℕ} ((x.0.0, y.0.0), y.0.1) p y.2)
            ]
      ];
}

pub as_is : {A B : Type 0} (to : A → B) (from : B → A) → ((b : B) → to (from b) ≡ b) → ((a : A) → from (to a) ≡ a) → (a : Form A) → IsForm (as_read to a) (λ v. a.spell (from v)) (λ v. a.Fits (from v))
as_is {A} {B} to from to_from from_to a = record {
  takes = λ old v new fits e.
      let x = bind_ok (a.read old) (λ x. Ok (to x.0, x.1)) (v, new) e in
      let t = a.lawful.takes old x.0.0 x.0.1 fits x.1 in
      let Q : A → Type 0 = λ u. Passes old (a.spell u) x.0.1 × a.Fits u in
      let P : B × Cursor → Type 0 = λ p. Passes old (a.spell (from p.0)) p.1 × a.Fits (from p.0) in
      subst P (ok_is {E = ℕ} (to x.0.0, x.0.1) (v, new) x.2) (subst Q (sym (from_to x.0.0)) t);
  again = λ at v rest fits.
      ap (λ (r : Result (A × Cursor) ℕ). r >>= λ x. Ok (to x.0, x.1)) (a.lawful.again at (from v) rest fits)
      ∙ ap (λ (b : B). Ok (b, record { at = at + length (a.spell (from v)); rest = rest })) (to_from v);
  refuses = λ old p fits e.
      elim (bind_err (a.read old) (λ x. Ok (to x.0, x.1)) p e) [
        | inl first ↦ a.lawful.refuses old p fits first
        | inr x ↦ absurd (not_err {E = ℕ} (to x.0.0, x.0.1) p x.2)
      ];
}

pub tested_is : {A : Type 0} (test : A → Bool) (a : Form A) → IsForm (tested_read test a) a.spell (tested_Fits test a)
tested_is {A} test a = record {
  takes = λ old v new fits e.
      let x = bind_ok (a.read old) (λ x. cond (test x.0) (Ok x) (Err old.at)) (v, new) e in
      let passed = test_ok (test x.0.0) x.0 (v, new) old.at x.2 in
      let t = a.lawful.takes old x.0.0 x.0.1 fits x.1 in
      let P : A × Cursor → Type 0 = λ p. Passes old (a.spell p.0) p.1 × tested_Fits test a p.0 in
      subst P passed.1 (t.0, (passed.0, t.1));
  again = λ at v rest fits.
      let after : Cursor = record { at = at + length (a.spell v); rest = rest } in
      ap (λ (r : Result (A × Cursor) ℕ). r >>= λ x. cond (test x.0) (Ok x) (Err at)) (a.lawful.again at v rest fits.1)
      ∙ ap (λ (b : Bool). cond b (Ok (v, after)) (Err at)) fits.0;
  refuses = λ old p fits e.
      elim (bind_err (a.read old) (λ x. cond (test x.0) (Ok x) (Err old.at)) p e) [
        | inl first ↦ a.lawful.refuses old p fits first
        | inr x ↦ at_start old p (test_err (test x.0.0) x.0 old.at p x.2)
      ];
}

many_takes : {A : Type 0} (a : Form A) (n : ℕ) (old : Cursor) (vs : List A) (new : Cursor) → IsBytes old.rest → many a n old ≡ Ok (vs, new) → Passes old (flat_map a.spell vs) new × (length vs ≡ n) × AllByRecursion a.Fits vs
unfolding many
many_takes {A} a zero old vs new fits e =
    let P : List A × Cursor → Type 0 = λ p. Passes old (flat_map a.spell p.0) p.1 × (length p.0 ≡ 0) × AllByRecursion a.Fits p.0 in
    subst P (ok_is {E = ℕ} ([], old) (vs, new) e) (record { parts = refl; by = omega arith; bytes = fits }, refl, tt)
many_takes {A} a (suc n) old vs new fits e =
    let x = bind_ok (a.read old) (λ x. many a n x.1 >>= λ xs. Ok (x.0 ∷ xs.0, xs.1)) (vs, new) e in
    let xs = bind_ok (many a n x.0.1) (λ xs. Ok (x.0.0 ∷ xs.0, xs.1)) (vs, new) x.2 in
    let first = a.lawful.takes old x.0.0 x.0.1 fits x.1 in
    let second = many_takes a n x.0.1 xs.0.0 xs.0.1 first.0.bytes xs.1 in
    let P : List A × Cursor → Type 0 = λ p. Passes old (flat_map a.spell p.0) p.1 × (length p.0 ≡ suc n) × AllByRecursion a.Fits p.0 in
    subst P (ok_is {E = ℕ} (x.0.0 ∷ xs.0.0, xs.0.1) (vs, new) xs.2) (Passes-then old (a.spell x.0.0) x.0.1 (flat_map a.spell xs.0.0) xs.0.1 first.0 second.0, ap suc second.1, (first.1, second.2))

many_again : {A : Type 0} (a : Form A) (at : ℕ) (vs : List A) (rest : List ℕ) → AllByRecursion a.Fits vs → many a (length vs) (record { at = at; rest = flat_map a.spell vs ++ rest }) ≡ Ok (vs, record { at = at + length (flat_map a.spell vs); rest = rest })
unfolding many
many_again {A} a at [] rest fits =
    let e : at ≡ at + 0 = omega arith in
    ap (λ (k : ℕ). Ok ([], record { at = k; rest = rest })) e
many_again {A} a at (v ∷ vs) rest fits =
    let x = a.spell v in
    let y = flat_map a.spell vs in
    let n = length vs in
    let start : many a (suc n) (record { at = at; rest = (x ++ y) ++ rest }) ≡ many a (suc n) (record { at = at; rest = x ++ (y ++ rest) }) = ap (λ (r : List ℕ). many a (suc n) (record { at = at; rest = r })) (append_assoc x y rest) in
    let first = ap (λ (r : Result (A × Cursor) ℕ). r >>= λ x. many a n x.1 >>= λ xs. Ok (x.0 ∷ xs.0, xs.1)) (a.lawful.again at v (y ++ rest) fits.0) in
    let second = ap (λ (r : Result (List A × Cursor) ℕ). r >>= λ xs. Ok (v ∷ xs.0, xs.1)) (many_again a (at + length x) vs rest fits.1) in
    start ∙ first ∙ second ∙ ap (λ (c : Cursor). Ok (v ∷ vs, c)) (behind_both at x y rest)

many_refuses : {A : Type 0} (a : Form A) (n : ℕ) (old : Cursor) (p : ℕ) → IsBytes old.rest → many a n old ≡ Err p → IsWithin old p
unfolding many
many_refuses {A} a zero old p fits e = absurd (not_err {E = ℕ} ([], old) p e)
many_refuses {A} a (suc n) old p fits e =
    elim (bind_err (a.read old) (λ x. many a n x.1 >>= λ xs. Ok (x.0 ∷ xs.0, xs.1)) p e) [
      | inl first ↦ a.lawful.refuses old p fits first
      | inr x ↦
          let passed = (a.lawful.takes old x.0.0 x.0.1 fits x.1).0 in
          elim (bind_err (many a n x.0.1) (λ xs. Ok (x.0.0 ∷ xs.0, xs.1)) p x.2) [
            | inl more ↦ place_behind old (a.spell x.0.0) x.0.1 p passed (many_refuses a n x.0.1 p passed.bytes more)
            | inr xs ↦ absurd (not_err {E = ℕ} (x.0.0 ∷ xs.0.0, xs.0.1) p xs.2)
          ]
    ]

pub list_is : {A : Type 0} (max : ℕ) → max < 2 ^ 32 → (a : Form A) → IsForm (list_read max a) (list_spell a) (list_Fits max a)
unfolding list_read list_spell
list_is {A} max small a = record {
  takes = λ old vs new fits e.
      let n = bind_ok (count_read max old) (λ n. many a n.0 n.1) (vs, new) e in
      let first = (count_is max small).takes old n.0.0 n.0.1 fits n.1 in
      let second = many_takes a n.0.0 n.0.1 vs new first.0.bytes n.2 in
      let both = Passes-then old (word_bytes n.0.0) n.0.1 (flat_map a.spell vs) new first.0 second.0 in
      (subst (λ (k : ℕ). Passes old (word_bytes k ++ flat_map a.spell vs) new) (sym second.1) both, (omega (arith, second.1, first.1), second.2));
  again = λ at vs rest fits.
      let x = word_bytes (length vs) in
      let y = flat_map a.spell vs in
      let start : list_read max a (record { at = at; rest = (x ++ y) ++ rest }) ≡ list_read max a (record { at = at; rest = x ++ (y ++ rest) }) = ap (λ (r : List ℕ). list_read max a (record { at = at; rest = r })) (append_assoc x y rest) in
      let counted = ap (λ (r : Result (ℕ × Cursor) ℕ). r >>= λ n. many a n.0 n.1) ((count_is max small).again at (length vs) (y ++ rest) fits.0) in
      start ∙ counted ∙ many_again a (at + length x) vs rest fits.1 ∙ ap (λ (c : Cursor). Ok (vs, c)) (behind_both at x y rest);
  refuses = λ old p fits e.
      elim (bind_err (count_read max old) (λ n. many a n.0 n.1) p e) [
        | inl first ↦ (count_is max small).refuses old p fits first
        | inr n ↦
            let passed = ((count_is max small).takes old n.0.0 n.0.1 fits n.1).0 in
            place_behind old (word_bytes n.0.0) n.0.1 p passed (many_refuses a n.0.0 n.0.1 p passed.bytes n.2)
      ];
}

value_takes : {A : Type 0} (there : Bool) (a : Form A) (old mid : Cursor) (o : Option A) (new : Cursor) → Passes old (flag_bytes there) mid → value_if there a mid ≡ Ok (o, new) → Passes old (option_spell a o) new × option_Fits a o
unfolding option_spell
value_takes {A} true a old mid o new first e =
    let x = bind_ok (a.read mid) (λ x. Ok (Some x.0, x.1)) (o, new) e in
    let second = a.lawful.takes mid x.0.0 x.0.1 first.bytes x.1 in
    let P : Option A × Cursor → Type 0 = λ p. Passes old (option_spell a p.0) p.1 × option_Fits a p.0 in
    subst P (ok_is {E = ℕ} (Some x.0.0, x.0.1) (o, new) x.2) (Passes-then old (flag_bytes true) mid (a.spell x.0.0) x.0.1 first second.0, second.1)
value_takes {A} false a old mid o new first e =
    let P : Option A × Cursor → Type 0 = λ p. Passes old (option_spell a p.0) p.1 × option_Fits a p.0 in
    subst P (ok_is {E = ℕ} (None, mid) (o, new) e) (first, tt)

option_again : {A : Type 0} (a : Form A) (at : ℕ) (o : Option A) (rest : List ℕ) → option_Fits a o → option_read a (record { at = at; rest = option_spell a o ++ rest }) ≡ Ok (o, record { at = at + length (option_spell a o); rest = rest })
unfolding option_read option_spell
option_again {A} a at None rest fits = ap (λ (r : Result (Bool × Cursor) ℕ). r >>= λ there. value_if there.0 a there.1) (flag_is.again at false rest tt)
option_again {A} a at (Some v) rest fits =
    let x = flag_bytes true in
    let y = a.spell v in
    let start : option_read a (record { at = at; rest = (x ++ y) ++ rest }) ≡ option_read a (record { at = at; rest = x ++ (y ++ rest) }) = ap (λ (r : List ℕ). option_read a (record { at = at; rest = r })) (append_assoc x y rest) in
    let first = ap (λ (r : Result (Bool × Cursor) ℕ). r >>= λ there. value_if there.0 a there.1) (flag_is.again at true (y ++ rest) tt) in
    let second = ap (λ (r : Result (A × Cursor) ℕ). r >>= λ x. Ok (Some x.0, x.1)) (a.lawful.again (at + length x) v rest fits) in
    start ∙ first ∙ second ∙ ap (λ (c : Cursor). Ok (Some v, c)) (behind_both at x y rest)

value_refuses : {A : Type 0} (there : Bool) (a : Form A) (mid : Cursor) (p : ℕ) → IsBytes mid.rest → value_if there a mid ≡ Err p → IsWithin mid p
value_refuses {A} true a mid p fits e =
    elim (bind_err (a.read mid) (λ x. Ok (Some x.0, x.1)) p e) [
      | inl first ↦ a.lawful.refuses mid p fits first
      | inr x ↦ absurd (not_err {E = ℕ} (Some x.0.0, x.0.1) p x.2)
    ]
value_refuses {A} false a mid p fits e = absurd (not_err {A = Option A × Cursor} {E = ℕ} (None, mid) p e)

pub option_is : {A : Type 0} (a : Form A) → IsForm (option_read a) (option_spell a) (option_Fits a)
unfolding option_read
option_is {A} a = record {
  takes = λ old o new fits e.
      let there = bind_ok (flag_read old) (λ there. value_if there.0 a there.1) (o, new) e in
      let first = flag_is.takes old there.0.0 there.0.1 fits there.1 in
      value_takes there.0.0 a old there.0.1 o new first.0 there.2;
  again = λ at o rest fits. option_again a at o rest fits;
  refuses = λ old p fits e.
      elim (bind_err (flag_read old) (λ there. value_if there.0 a there.1) p e) [
        | inl first ↦ flag_is.refuses old p fits first
        | inr there ↦
            let passed = (flag_is.takes old there.0.0 there.0.1 fits there.1).0 in
            place_behind old (flag_bytes there.0.0) there.0.1 p passed (value_refuses there.0.0 a there.0.1 p passed.bytes there.2)
      ];
}
