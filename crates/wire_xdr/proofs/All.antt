-- What a read of all the bytes answers, by where the reader stood behind it.
use Rattle.std.proofs.Common.{◌≡◌, ℕ, suc, Bool, true, false, eqb, List, [], ◌∷◌, length, Result, Ok, Err, refl, sym, ap, ◌∙◌, subst}
use Rattle.std.proofs.lemmas.Bool.{eqb-true}
use Rattle.wire_xdr.specs.declared.form.bad.BadXdr.{BadXdr}
use Rattle.wire_xdr.specs.Cursor.{Cursor, IsBytes}
use Rattle.wire_xdr.specs.Form.{Form}
use Rattle.wire_xdr.specs.All.{start, nothing_behind, closed, all_of, ReadsAll}
use Rattle.wire_xdr.specs.AllLaws.{reads_all}

behind_none : {A : Type 0} (v : A) (at : ℕ) (rest : List ℕ) → eqb (length rest) 0 ≡ true → Ok v ≡ nothing_behind v at rest
behind_none v at [] e = refl
behind_none v at (b ∷ rest) e = let same : suc (length rest) ≡ 0 = eqb-true (length (b ∷ rest)) 0 e in absurd cc

behind_some : {A : Type 0} (v : A) (at : ℕ) (rest : List ℕ) → eqb (length rest) 0 ≡ false → Err (record { at = at }) ≡ nothing_behind v at rest
behind_some v at [] e = absurd cc
behind_some v at (b ∷ rest) e = refl

-- a new reader stands at the first of the bytes
at_first : {A : Type 0} (form : Form A) (bytes : List ℕ) (old : Cursor) (r : Result (A × Cursor) ℕ) → old.at ≡ 0 → old.rest ≡ bytes → form.read old ≡ r → form.read (start bytes) ≡ r
at_first form bytes old r at rest e = ap form.read (ap (λ (n : ℕ). record { at = n; rest = bytes }) (sym at) ∙ ap (λ (t : List ℕ). record { at = old.at; rest = t }) (sym rest)) ∙ e

pub whole_value : {A : Type 0} (form : Form A) (bytes : List ℕ) (old : Cursor) (v : A) (new : Cursor) → IsBytes bytes → old.at ≡ 0 → old.rest ≡ bytes → form.read old ≡ Ok (v, new) → eqb (length new.rest) 0 ≡ true → ReadsAll form bytes (Ok v)
unfolding all_of
whole_value form bytes old v new fits at rest e none =
    reads_all form bytes fits (Ok v) (behind_none v new.at new.rest none ∙ sym (ap closed (at_first form bytes old (Ok (v, new)) at rest e)))

pub more_behind : {A : Type 0} (form : Form A) (bytes : List ℕ) (old : Cursor) (v : A) (new : Cursor) → IsBytes bytes → old.at ≡ 0 → old.rest ≡ bytes → form.read old ≡ Ok (v, new) → eqb (length new.rest) 0 ≡ false → ReadsAll form bytes (Err (record { at = new.at }))
unfolding all_of
more_behind form bytes old v new fits at rest e some =
    reads_all form bytes fits (Err (record { at = new.at })) (behind_some v new.at new.rest some ∙ sym (ap closed (at_first form bytes old (Ok (v, new)) at rest e)))

pub no_value : {A : Type 0} (form : Form A) (bytes : List ℕ) (old : Cursor) (bad : BadXdr) → IsBytes bytes → old.at ≡ 0 → old.rest ≡ bytes → form.read old ≡ Err bad.at → ReadsAll form bytes (Err bad)
unfolding all_of
no_value form bytes old bad fits at rest e =
    reads_all form bytes fits (Err bad) (sym (ap closed (at_first form bytes old (Err bad.at) at rest e)))
