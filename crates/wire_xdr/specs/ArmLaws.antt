-- The laws of unions, each proved from those of its arms.
use Rattle.std.proofs.Common.{◌≡◌, ℕ, ◌+◌, ◌^◌, ◌<◌, Bool, true, false, cond, eqb, ◌||◌, List, [], ◌∷◌, ◌++◌, length, Result, Ok, Err, inl, inr, refl, sym, ap, subst, ◌∙◌, append_assoc}
use Rattle.std.proofs.lemmas.Bool.{eqb-true}
use Rattle.wire_xdr.specs.Cursor.{Cursor, IsBytes, ◌>>=◌}
use Rattle.wire_xdr.specs.Words.{word_bytes}
use Rattle.wire_xdr.specs.Form.{Passes, IsForm, IsWithin, Form}
use Rattle.wire_xdr.specs.StepLaws.{bind_ok, ok_is, Passes-then, bind_err, not_err, at_start, place_behind}
use Rattle.wire_xdr.specs.WordReads.{word_read}
use Rattle.wire_xdr.specs.WordLaws.{word_is}
use Rattle.wire_xdr.specs.PartLaws.{behind_both}
use Rattle.wire_xdr.specs.Arms.{Arm, Case, case_of, ArmOf, arm_read, arms_read, is_listed, number_of, body_spell, body_Fits, refused_at, IsListed, Picks, IsPicked, other_arm, chosen_read, chosen_Fits, union_read, union_spell, union_Fits, union_or_read, union_or_Fits}

-- What an arm of the union read is a value of that arm.
arm_takes : {V : Type 0} (case : V → Case V) (a : Arm V) (listed : Bool) → ((body : a.Body) → case (a.make body) ≡ case_of listed a body)
    → (old : Cursor) (v : V) (new : Cursor) → IsBytes old.rest → arm_read a old ≡ Ok (v, new)
    → Passes old (body_spell case v) new × (number_of case v ≡ a.number) × ((case v).listed ≡ listed) × body_Fits case v
arm_takes {V} case a listed made old v new fits e =
    let x = bind_ok (a.form.read old) (λ x. Ok (a.make x.0, x.1)) (v, new) e in
    let t = a.form.lawful.takes old x.0.0 x.0.1 fits x.1 in
    let Q : Case V → Type 0 = λ k. Passes old k.spell x.0.1 × (k.number ≡ a.number) × (k.listed ≡ listed) × k.Fits in
    let P : V × Cursor → Type 0 = λ p. Passes old (body_spell case p.0) p.1 × (number_of case p.0 ≡ a.number) × ((case p.0).listed ≡ listed) × body_Fits case p.0 in
    subst P (ok_is {E = ℕ} (a.make x.0.0, x.0.1) (v, new) x.2) (subst Q (sym (made x.0.0)) (t.0, refl, refl, t.1))

arm_again : {V : Type 0} (case : V → Case V) (at : ℕ) (v : V) (rest : List ℕ) → (case v).arm.make (case v).body ≡ v → body_Fits case v
    → arm_read (case v).arm (record { at = at; rest = body_spell case v ++ rest }) ≡ Ok (v, record { at = at + length (body_spell case v); rest = rest })
arm_again {V} case at v rest whole fits =
    let k = case v in
    let text = k.arm.form.spell k.body in
    let read = ap (λ (r : Result (k.arm.Body × Cursor) ℕ). r >>= λ x. Ok (k.arm.make x.0, x.1)) (k.arm.form.lawful.again at k.body rest (k.fits fits)) in
    subst (λ (t : List ℕ). arm_read k.arm (record { at = at; rest = t ++ rest }) ≡ Ok (k.arm.make k.body, record { at = at + length t; rest = rest })) (sym k.spell_is) read
    ∙ ap (λ (u : V). Ok (u, record { at = at + length (body_spell case v); rest = rest })) whole

-- What was answered was answered by an arm of the list, or by what stands for all others.
by_test : {V : Type 0} {P : Type 0} (b : Bool) (x y r : Result (V × Cursor) ℕ) → cond b x y ≡ r → (b ≡ true → x ≡ r → P) → (b ≡ false → y ≡ r → P) → P
by_test true x y r e f g = f refl e
by_test false x y r e f g = g refl e

by_arm : {V : Type 0} {case : V → Case V} {P : Type 0} (arms : List (ArmOf case)) (otherwise : Cursor → Result (V × Cursor) ℕ) (n : ℕ) (c : Cursor) (r : Result (V × Cursor) ℕ) → arms_read arms otherwise n c ≡ r
    → ((a : ArmOf case) → n ≡ a.arm.number → is_listed arms n ≡ true → arm_read a.arm c ≡ r → P) → (is_listed arms n ≡ false → otherwise c ≡ r → P) → P
by_arm [] otherwise n c r e found none = none refl e
by_arm (a ∷ arms) otherwise n c r e found none =
    by_test (eqb n a.arm.number) (arm_read a.arm c) (arms_read arms otherwise n c) r e
    (λ same x. found a (eqb-true n a.arm.number same) (rw same refl) x)
    (λ other y. by_arm arms otherwise n c r y (λ b is listed x. found b is (rw other listed) x) (λ listed x. none (rw other listed) x))

-- no arm of the list has the number
unlisted_test : {A : Type 0} (b l : Bool) (x y z : A) → (b || l) ≡ false → (l ≡ false → y ≡ z) → cond b x y ≡ z
unlisted_test true l x y z h f = absurd cc
unlisted_test false l x y z h f = f h

unlisted : {V : Type 0} {case : V → Case V} (arms : List (ArmOf case)) (otherwise : Cursor → Result (V × Cursor) ℕ) (n : ℕ) (c : Cursor) → is_listed arms n ≡ false → arms_read arms otherwise n c ≡ otherwise c
unlisted [] otherwise n c h = refl
unlisted (a ∷ arms) otherwise n c h = unlisted_test (eqb n a.arm.number) (is_listed arms n) (arm_read a.arm c) (arms_read arms otherwise n c) (otherwise c) h (unlisted arms otherwise n c)

arm_refuses : {V : Type 0} (a : Arm V) (c : Cursor) (p : ℕ) → IsBytes c.rest → arm_read a c ≡ Err p → IsWithin c p
arm_refuses a c p fits e =
    elim (bind_err (a.form.read c) (λ x. Ok (a.make x.0, x.1)) p e) [
      | inl first ↦ a.form.lawful.refuses c p fits first
      | inr x ↦ absurd (not_err {E = ℕ} (a.make x.0.0, x.0.1) p x.2)
    ]

refused_is : {V : Type 0} (at : ℕ) (c : Cursor) (p : ℕ) → refused_at {V = V} at c ≡ Err p → at ≡ p
refused_is at c p e = cc

pub chosen_is : {V : Type 0} {case : V → Case V} (arms : List (ArmOf case)) → ((v : V) → IsListed arms v) → (n : ℕ) → IsForm (chosen_read arms n) (body_spell case) (chosen_Fits case n)
chosen_is {V} {case} arms law n = record {
  takes = λ old v new fits e.
      by_arm arms (refused_at old.at) n old (Ok (v, new)) e
      (λ a is listed x. let t = arm_takes case a.arm true a.made old v new fits x in (t.0, (t.1 ∙ sym is, t.3)))
      (λ listed x. absurd cc);
  again = λ at v rest fits.
      let c : Cursor = record { at = at; rest = body_spell case v ++ rest } in
      subst (λ (m : ℕ). arms_read arms (refused_at at) m c ≡ Ok (v, record { at = at + length (body_spell case v); rest = rest })) fits.0
      ((law v).reads (refused_at at) c ∙ arm_again case at v rest (law v).whole fits.1);
  refuses = λ old p fits e.
      by_arm arms (refused_at old.at) n old (Err p) e
      (λ a is listed x. arm_refuses a.arm old p fits x)
      (λ listed x. at_start old p (refused_is {V = V} old.at old p x));
}

pub union_is : {V : Type 0} {case : V → Case V} (arms : List (ArmOf case)) → ((v : V) → IsListed arms v) → IsForm (union_read arms) (union_spell case) (union_Fits case)
union_is {V} {case} arms law = record {
  takes = λ old v new fits e.
      let tag = bind_ok (word_read old) (λ tag. arms_read arms (refused_at old.at) tag.0 tag.1) (v, new) e in
      let first = word_is.takes old tag.0.0 tag.0.1 fits tag.1 in
      by_arm arms (refused_at old.at) tag.0.0 tag.0.1 (Ok (v, new)) tag.2
      (λ a is listed x.
      let t = arm_takes case a.arm true a.made tag.0.1 v new first.0.bytes x in
      let number : tag.0.0 ≡ number_of case v = is ∙ sym t.1 in
      let both = Passes-then old (word_bytes tag.0.0) tag.0.1 (body_spell case v) new first.0 t.0 in
      (subst (λ (m : ℕ). Passes old (word_bytes m ++ body_spell case v) new) number both, (subst (λ (m : ℕ). m < 2 ^ 32) number first.1, t.3)))
      (λ listed x. absurd cc);
  again = λ at v rest fits.
      let x = word_bytes (number_of case v) in
      let y = body_spell case v in
      let start : union_read arms (record { at = at; rest = (x ++ y) ++ rest }) ≡ union_read arms (record { at = at; rest = x ++ (y ++ rest) }) = ap (λ (r : List ℕ). union_read arms (record { at = at; rest = r })) (append_assoc x y rest) in
      let tagged = ap (λ (r : Result (ℕ × Cursor) ℕ). r >>= λ tag. arms_read arms (refused_at at) tag.0 tag.1) (word_is.again at (number_of case v) (y ++ rest) fits.0) in
      start ∙ tagged ∙ (law v).reads (refused_at at) (record { at = at + length x; rest = y ++ rest }) ∙ arm_again case (at + length x) v rest (law v).whole fits.1 ∙ ap (λ (c : Cursor). Ok (v, c)) (behind_both at x y rest);
  refuses = λ old p fits e.
      elim (bind_err (word_read old) (λ tag. arms_read arms (refused_at old.at) tag.0 tag.1) p e) [
        | inl first ↦ word_is.refuses old p fits first
        | inr tag ↦
            let passed = (word_is.takes old tag.0.0 tag.0.1 fits tag.1).0 in
            by_arm arms (refused_at old.at) tag.0.0 tag.0.1 (Err p) tag.2
            (λ a is listed x. place_behind old (word_bytes tag.0.0) tag.0.1 p passed (arm_refuses a.arm tag.0.1 p passed.bytes x))
            (λ listed x. at_start old p (refused_is {V = V} old.at tag.0.1 p x))
      ];
}

-- reading at a value's own number finds its own arm, listed or not
picked : {V : Type 0} {case : V → Case V} (arms : List (ArmOf case)) (other : ℕ → Arm V) (v : V) (c : Cursor) (listed : Bool) → Picks listed arms other v → is_listed arms (number_of case v) ≡ listed
    → arms_read arms (arm_read (other (number_of case v))) (number_of case v) c ≡ arm_read (case v).arm c
picked {V} {case} arms other v c true reads is = reads (arm_read (other (number_of case v))) c
picked {V} {case} arms other v c false reads is = unlisted arms (arm_read (other (number_of case v))) (number_of case v) c is ∙ reads (arm_read (other (number_of case v))) c

pub union_or_is : {V B : Type 0} {case : V → Case V} (arms : List (ArmOf case)) (form : ℕ → Form B) (make : ℕ → B → V) → ((n : ℕ) (body : B) → case (make n body) ≡ case_of false (other_arm form make n) body)
    → ((v : V) → IsPicked arms (other_arm form make) v) → IsForm (union_or_read arms (other_arm form make)) (union_spell case) (union_or_Fits arms)
union_or_is {V} {B} {case} arms form make made law = record {
  takes = λ old v new fits e.
      let tag = bind_ok (word_read old) (λ tag. arms_read arms (arm_read (other_arm form make tag.0)) tag.0 tag.1) (v, new) e in
      let first = word_is.takes old tag.0.0 tag.0.1 fits tag.1 in
      let n = tag.0.0 in
      let done : (listed : Bool) → n ≡ number_of case v → is_listed arms n ≡ listed → (case v).listed ≡ listed → Passes tag.0.1 (body_spell case v) new → body_Fits case v → Passes old (union_spell case v) new × union_or_Fits arms v
      = λ listed number is own second body. (
        subst (λ (m : ℕ). Passes old (word_bytes m ++ body_spell case v) new) number (Passes-then old (word_bytes n) tag.0.1 (body_spell case v) new first.0 second),
        (subst (λ (m : ℕ). m < 2 ^ 32) number first.1, subst (λ (m : ℕ). is_listed arms m ≡ (case v).listed) number (is ∙ sym own), body),
      ) in
      by_arm arms (arm_read (other_arm form make n)) n tag.0.1 (Ok (v, new)) tag.2
      (λ a is listed x. let t = arm_takes case a.arm true a.made tag.0.1 v new first.0.bytes x in done true (is ∙ sym t.1) listed t.2 t.0 t.3)
      (λ listed x. let t = arm_takes case (other_arm form make n) false (made n) tag.0.1 v new first.0.bytes x in done false (sym t.1) listed t.2 t.0 t.3);
  again = λ at v rest fits.
      let x = word_bytes (number_of case v) in
      let y = body_spell case v in
      let other = other_arm form make in
      let start : union_or_read arms other (record { at = at; rest = (x ++ y) ++ rest }) ≡ union_or_read arms other (record { at = at; rest = x ++ (y ++ rest) }) = ap (λ (r : List ℕ). union_or_read arms other (record { at = at; rest = r })) (append_assoc x y rest) in
      let tagged = ap (λ (r : Result (ℕ × Cursor) ℕ). r >>= λ tag. arms_read arms (arm_read (other tag.0)) tag.0 tag.1) (word_is.again at (number_of case v) (y ++ rest) fits.0) in
      start ∙ tagged ∙ picked arms other v (record { at = at + length x; rest = y ++ rest }) (case v).listed (law v).reads fits.1 ∙ arm_again case (at + length x) v rest (law v).whole fits.2 ∙ ap (λ (c : Cursor). Ok (v, c)) (behind_both at x y rest);
  refuses = λ old p fits e.
      elim (bind_err (word_read old) (λ tag. arms_read arms (arm_read (other_arm form make tag.0)) tag.0 tag.1) p e) [
        | inl first ↦ word_is.refuses old p fits first
        | inr tag ↦
            let passed = (word_is.takes old tag.0.0 tag.0.1 fits tag.1).0 in
            by_arm arms (arm_read (other_arm form make tag.0.0)) tag.0.0 tag.0.1 (Err p) tag.2
            (λ a is listed x. place_behind old (word_bytes tag.0.0) tag.0.1 p passed (arm_refuses a.arm tag.0.1 p passed.bytes x))
            (λ listed x. place_behind old (word_bytes tag.0.0) tag.0.1 p passed (arm_refuses (other_arm form make tag.0.0) tag.0.1 p passed.bytes x))
      ];
}
