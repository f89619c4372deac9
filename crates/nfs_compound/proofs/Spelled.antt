-- A body is read exactly where its operations are spelled.
use Rattle.std.proofs.Common.{◌≡◌, ℕ, zero, suc, ◌+◌, ◌≤◌, Bool, true, false, cond, eqb, List, [], ◌∷◌, length, Result, Ok, Err, refl, sym, ap, subst, ◌∙◌, arith}
use Rattle.std.proofs.lemmas.List.{nil_from_length}
use Rattle.std.proofs.lemmas.Bool.{eqb-true}
use Rattle.std.specs.Prelude.{MatchBool}
use Rattle.std.specs.List.{AllByRecursion}
use Rattle.wire_xdr.specs.Cursor.{Cursor, IsBytes, ◌>>=◌}
use Rattle.wire_xdr.specs.Form.{Passes, Form}
use Rattle.wire_xdr.specs.StepLaws.{bind_ok, ok_is}
use Rattle.wire_xdr.specs.WordReads.{word_read}
use Rattle.wire_xdr.specs.WordLaws.{word_is}
use Rattle.nfs_compound.specs.declared.tail.Tail.{Tail}
use Rattle.nfs_compound.specs.declared.tail.Tail.TheVariants.{Whole}
use Rattle.nfs_compound.specs.declared.operation.Class.{Class}
use Rattle.nfs_compound.specs.declared.operation.Class.TheVariants as class
use Rattle.nfs_compound.specs.Body.{or_unreadable, by_class, behind_number, one_at, with_front, end_at, after_one, body_at, IsBody}
use Rattle.nfs_compound.specs.Numbered.{Own, numbered, numbered_read}

-- ---- one operation

-- what is read at a place is a number and what it says
readable : {X : Type 0} (place op : ℕ) (r : Result X ℕ) (x : X) → or_unreadable place op r ≡ Ok x → r ≡ Ok x
readable place op (Ok y) x e = cc
readable place op (Err at) x e = absurd cc

listed_read : {A : Type 0} (k : Class) (form : ℕ → Form A) (place op : ℕ) (c : Cursor) (x : A × Cursor) → by_class k form place op c ≡ Ok x → (form op).read c ≡ Ok x
listed_read class.Listed form place op c x e = readable place op ((form op).read c) x e
listed_read class.Unsupported form place op c x e = absurd cc
listed_read class.Illegal form place op c x e = absurd cc

number_read : {A : Type 0} (class : ℕ → Class) (form : ℕ → Form A) (place : ℕ) (r : Result (ℕ × Cursor) ℕ) (x : A × Cursor) → behind_number class form place r ≡ Ok x → (r >>= λ n. (form n.0).read n.1) ≡ Ok x
number_read class form place (Ok n) x e = listed_read (class n.0) form place n.0 n.1 x e
number_read class form place (Err at) x e = absurd cc

pub one_reads : {A : Type 0} (class : ℕ → Class) (form : ℕ → Form A) (place : ℕ) (c : Cursor) (x : A × Cursor) → one_at class form place c ≡ Ok x → numbered_read form c ≡ Ok x
unfolding one_at
one_reads class form place c x e = number_read class form place (word_read c) x e

-- and where the number of what is read is listed, it is read
number_again : {A : Type 0} (kind : ℕ → Class) (form : ℕ → Form A) (number : A → ℕ) → Own form number → ((n : ℕ) (v : A) → (form n).Fits v → kind n ≡ class.Listed) → (place : ℕ) (r : Result (ℕ × Cursor) ℕ) (v : A) (after : Cursor)
    → ((n : ℕ × Cursor) → r ≡ Ok n → IsBytes n.1.rest) → (r >>= λ n. (form n.0).read n.1) ≡ Ok (v, after) → behind_number kind form place r ≡ Ok (v, after)
number_again kind form number own listed place (Err at) v after bytes e = absurd cc
number_again {A} kind form number own listed place (Ok n) v after bytes e =
    let fits = ((form n.0).lawful.takes n.1 v after (bytes n refl) e).1 in
    ap (λ (k : Class). by_class k form place n.0 n.1) (listed n.0 v fits) ∙ ap (or_unreadable place n.0) e

pub one_again : {A : Type 0} (kind : ℕ → Class) (form : ℕ → Form A) (number : A → ℕ) → Own form number → ((n : ℕ) (v : A) → (form n).Fits v → kind n ≡ class.Listed) → (place : ℕ) (c : Cursor) (v : A) (after : Cursor)
    → IsBytes c.rest → numbered_read form c ≡ Ok (v, after) → one_at kind form place c ≡ Ok (v, after)
unfolding one_at
one_again kind form number own listed place c v after bytes e = number_again kind form number own listed place (word_read c) v after (λ n is. (word_is.takes c n.0 n.1 bytes is).0.bytes) e

-- ---- what a body was read from

-- what is known of reading one item
abbrev pub Takes : {A : Type 0} → Form A → (ℕ → Cursor → Result (A × Cursor) Tail) → Type 0
Takes {A} item one = (place : ℕ) (c : Cursor) (v : A) (after : Cursor) → IsBytes c.rest → one place c ≡ Ok (v, after) → Passes c (item.spell v) after × item.Fits v

abbrev pub Again : {A : Type 0} → Form A → (ℕ → Cursor → Result (A × Cursor) Tail) → Type 0
Again {A} item one = (place : ℕ) (c : Cursor) (v : A) (after : Cursor) → IsBytes c.rest → Passes c (item.spell v) after → item.Fits v → one place c ≡ Ok (v, after)

cut_ends : {A : Type 0} (Q : Type 0) (t : Bool) (vs : List A) (tail : Tail) → t ≡ true → vs ≡ [] → tail ≡ Whole → MatchBool t ((vs ≡ []) × (tail ≡ Whole)) Q
cut_ends Q true vs tail is none whole = (none, whole)
cut_ends Q false vs tail is none whole = absurd cc

pub more_follow : (P Q : Type 0) (t : Bool) → t ≡ false → Q → MatchBool t P Q
more_follow P Q true is q = absurd cc
more_follow P Q false is q = q

end_found : {A : Type 0} (t : Bool) (rest : List ℕ) (at : ℕ) (b : List A × Tail) → eqb (length rest) 0 ≡ t → cond t (Ok ([], Whole)) (Err at) ≡ Ok b → (([], Whole) ≡ b) × (rest ≡ [])
end_found {A} true rest at b is e = (ok_is {E = ℕ} ([], Whole) b e, nil_from_length rest (eqb-true (length rest) 0 is))
end_found false rest at b is e = absurd cc

behind_found : {A : Type 0} (item : Form A) (one : ℕ → Cursor → Result (A × Cursor) Tail) (is_cut : A → Bool) (n place : ℕ) (c : Cursor) (v : A) (after : Cursor) (t : Bool) (b : List A × Tail) → is_cut v ≡ t
    → Passes c (item.spell v) after → item.Fits v
    → ((rest : List A × Tail) → body_at one is_cut n (place + 1) after ≡ Ok rest → IsBody item one is_cut n (place + 1) after rest.0 rest.1)
    → cond t (Ok (v ∷ [], Whole)) (with_front (v ∷ []) (body_at one is_cut n (place + 1) after)) ≡ Ok b → IsBody item one is_cut (suc n) place c b.0 b.1
behind_found {A} item one is_cut n place c v after true b is passes fits more e =
    subst (λ (body : List A × Tail). IsBody item one is_cut (suc n) place c body.0 body.1) (ok_is {E = ℕ} (v ∷ [], Whole) b e)
    (after, passes, fits, cut_ends (IsBody item one is_cut n (place + 1) after [] Whole) (is_cut v) [] Whole is refl refl)
behind_found {A} item one is_cut n place c v after false b is passes fits more e =
    let y = bind_ok (body_at one is_cut n (place + 1) after) (λ body. Ok (v ∷ body.0, body.1)) b e in
    subst (λ (body : List A × Tail). IsBody item one is_cut (suc n) place c body.0 body.1) (ok_is {E = ℕ} (v ∷ y.0.0, y.0.1) b y.2)
    (after, passes, fits, more_follow ((y.0.0 ≡ []) × (y.0.1 ≡ Whole)) (IsBody item one is_cut n (place + 1) after y.0.0 y.0.1) (is_cut v) is (more y.0 y.1))

step_found : {A : Type 0} (item : Form A) (one : ℕ → Cursor → Result (A × Cursor) Tail) (is_cut : A → Bool) (n place : ℕ) (c : Cursor) (r : Result (A × Cursor) Tail) (b : List A × Tail) → IsBytes c.rest → Takes item one → one place c ≡ r
    → ((d : Cursor) (rest : List A × Tail) → IsBytes d.rest → body_at one is_cut n (place + 1) d ≡ Ok rest → IsBody item one is_cut n (place + 1) d rest.0 rest.1)
    → after_one is_cut (λ d. body_at one is_cut n (place + 1) d) r ≡ Ok b → IsBody item one is_cut (suc n) place c b.0 b.1
step_found {A} item one is_cut n place c (Err tail) b bytes takes is more e =
    subst (λ (body : List A × Tail). IsBody item one is_cut (suc n) place c body.0 body.1) (ok_is {E = ℕ} ([], tail) b e) is
step_found item one is_cut n place c (Ok x) b bytes takes is more e =
    let t = takes place c x.0 x.1 bytes is in
    behind_found item one is_cut n place c x.0 x.1 (is_cut x.0) b refl t.0 t.1 (λ rest h. more x.1 rest t.0.bytes h) e

pub body_found : {A : Type 0} (item : Form A) (one : ℕ → Cursor → Result (A × Cursor) Tail) (is_cut : A → Bool) → Takes item one → (n place : ℕ) (c : Cursor) (b : List A × Tail) → IsBytes c.rest
    → body_at one is_cut n place c ≡ Ok b → IsBody item one is_cut n place c b.0 b.1
unfolding body_at
body_found {A} item one is_cut takes zero place c b bytes e =
    let t = end_found (eqb (length c.rest) 0) c.rest c.at b refl e in
    subst (λ (body : List A × Tail). IsBody item one is_cut zero place c body.0 body.1) t.0 (refl, t.1)
body_found item one is_cut takes (suc n) place c b bytes e =
    step_found item one is_cut n place c (one place c) b bytes takes refl (λ d rest bs h. body_found item one is_cut takes n (place + 1) d rest bs h) e

-- ---- what stands in a body has a spelling, and there are no more than were told

fits_behind : {A : Type 0} (Fits : A → Type 0) (n : ℕ) (v : A) (vs : List A) (tail : Tail) (Rest : Type 0) (t : Bool) → Fits v → MatchBool t ((vs ≡ []) × (tail ≡ Whole)) Rest
    → (Rest → AllByRecursion Fits vs × (length vs ≤ n)) → AllByRecursion Fits (v ∷ vs) × (length (v ∷ vs) ≤ suc n)
fits_behind {A} Fits n v vs tail Rest true fits h more =
    let one : length (v ∷ []) ≤ suc n = omega arith in
    subst (λ (ws : List A). AllByRecursion Fits (v ∷ ws) × (length (v ∷ ws) ≤ suc n)) (sym h.0) ((fits, tt), one)
fits_behind Fits n v vs tail Rest false fits h more =
    let r = more h in
    let len : length (v ∷ vs) ≤ suc n = omega (arith, r.1) in
    ((fits, r.0), len)

pub body_fits : {A : Type 0} (item : Form A) (one : ℕ → Cursor → Result (A × Cursor) Tail) (is_cut : A → Bool) (n place : ℕ) (c : Cursor) (items : List A) (tail : Tail) → IsBody item one is_cut n place c items tail
    → AllByRecursion item.Fits items × (length items ≤ n)
body_fits item one is_cut zero place c [] tail h = (tt, omega arith)
body_fits item one is_cut zero place c (v ∷ vs) tail h = absurd h
body_fits item one is_cut (suc n) place c [] tail h = (tt, omega arith)
body_fits item one is_cut (suc n) place c (v ∷ vs) tail h =
    fits_behind item.Fits n v vs tail (IsBody item one is_cut n (place + 1) h.0 vs tail) (is_cut v) h.2 h.3 (λ rest. body_fits item one is_cut n (place + 1) h.0 vs tail rest)

-- ---- what is spelled so is read

behind_again : {A : Type 0} (v : A) (vs : List A) (tail : Tail) (Rest : Type 0) (told : Result (List A × Tail) ℕ) (t : Bool) → MatchBool t ((vs ≡ []) × (tail ≡ Whole)) Rest → (Rest → told ≡ Ok (vs, tail))
    → cond t (Ok (v ∷ [], Whole)) (with_front (v ∷ []) told) ≡ Ok (v ∷ vs, tail)
behind_again {A} v vs tail Rest told true h more = ap (λ (ws : List A). Ok (v ∷ ws, Whole)) (sym h.0) ∙ ap (λ (t : Tail). Ok (v ∷ vs, t)) (sym h.1)
behind_again v vs tail Rest told false h more = ap (with_front (v ∷ [])) (more h)

pub body_again : {A : Type 0} (item : Form A) (one : ℕ → Cursor → Result (A × Cursor) Tail) (is_cut : A → Bool) → Again item one → (n place : ℕ) (c : Cursor) (items : List A) (tail : Tail) → IsBytes c.rest
    → IsBody item one is_cut n place c items tail → body_at one is_cut n place c ≡ Ok (items, tail)
unfolding body_at
body_again {A} item one is_cut again zero place c [] tail bytes h = ap (λ (rest : List ℕ). end_at rest c.at) h.1 ∙ ap (λ (t : Tail). Ok ([], t)) (sym h.0)
body_again item one is_cut again zero place c (v ∷ vs) tail bytes h = absurd h
body_again item one is_cut again (suc n) place c [] tail bytes h = ap (after_one is_cut (λ d. body_at one is_cut n (place + 1) d)) h
body_again item one is_cut again (suc n) place c (v ∷ vs) tail bytes h =
    ap (after_one is_cut (λ d. body_at one is_cut n (place + 1) d)) (again place c v h.0 bytes h.1 h.2)
    ∙ behind_again v vs tail (IsBody item one is_cut n (place + 1) h.0 vs tail) (body_at one is_cut n (place + 1) h.0) (is_cut v) h.3 (λ rest. body_again item one is_cut again n (place + 1) h.0 vs tail h.1.bytes rest)

-- ---- of operations behind their numbers

pub numbered_takes : {A : Type 0} (class : ℕ → Class) (form : ℕ → Form A) (number : A → ℕ) (own : Own form number) → Takes (numbered form number own) (one_at class form)
numbered_takes class form number own place c v after bytes e = (numbered form number own).lawful.takes c v after bytes (one_reads class form place c (v, after) e)

pub numbered_again : {A : Type 0} (kind : ℕ → Class) (form : ℕ → Form A) (number : A → ℕ) (own : Own form number) → ((n : ℕ) (v : A) → (form n).Fits v → kind n ≡ class.Listed) → Again (numbered form number own) (one_at kind form)
numbered_again {A} kind form number own listed place c v after bytes passes fits =
    let item = numbered form number own in
    let read : numbered_read form c ≡ Ok (v, after) =
    ap (λ (r : List ℕ). numbered_read form (record { at = c.at; rest = r })) passes.parts ∙ item.lawful.again c.at v after.rest fits ∙ ap (λ (k : ℕ). Ok (v, record { at = k; rest = after.rest })) (sym passes.by) in
    one_again kind form number own listed place c v after bytes read
