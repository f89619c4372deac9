-- A whole value is read exactly where it is spelled: what follows from the law of its form.
use Rattle.std.proofs.Common.{◌≡◌, ℕ, List, [], ◌++◌, Ok, refl, sym, ap, ◌∙◌}
use Rattle.std.proofs.lemmas.List.{append-nil}
use Rattle.wire_xdr.specs.Cursor.{Cursor, IsBytes}
use Rattle.wire_xdr.specs.Form.{Form, Spells}
use Rattle.wire_xdr.specs.StepLaws.{ok_is}
use Rattle.wire_xdr.specs.Reads.{IsRead}

-- bytes that begin with a spelling are read as its value
spelled_read : {A : Type 0} (form : Form A) (old : Cursor) (v : A) (rest : List ℕ) → form.Fits v → old.rest ≡ form.spell v ++ rest → (new : Cursor) × (form.read old ≡ Ok (v, new)) × (new.rest ≡ rest)
spelled_read form old v rest fits e =
    (_, ap (λ (r : List ℕ). form.read (record { at = old.at; rest = r })) e ∙ form.lawful.again old.at v rest fits, refl)

pub read_ok : {A : Type 0} (form : Form A) (v : A) (old new : Cursor) → IsBytes old.rest → form.read old ≡ Ok (v, new) → IsRead form (Ok (Ok v)) old new
read_ok {A} form v old new fits e = record {
  exact = e;
  found = form.lawful.takes old v new fits e;
  only = λ u rest has is.
      let s = spelled_read form old u rest has is in
      let same = ok_is {E = ℕ} (v, new) (u, s.0) (sym e ∙ s.1) in
      (ap (λ (p : A × Cursor). Ok p.0) same, ap (λ (p : A × Cursor). p.1.rest) same ∙ s.2);
}

-- Where two spellings begin the same bytes, they are of one value, and the same stands behind them.
pub same_value : {A : Type 0} (form : Form A) (u v : A) (x y : List ℕ) → form.Fits u → form.Fits v → form.spell u ++ x ≡ form.spell v ++ y → (u ≡ v) × (x ≡ y)
same_value {A} form u v x y fits has e =
    let c : Cursor = record { at = 0; rest = form.spell u ++ x } in
    let s = spelled_read form c v y has e in
    let same = ok_is {E = ℕ} (u, _) (v, s.0) (sym (form.lawful.again 0 u x fits) ∙ s.1) in
    (ap (λ (p : A × Cursor). p.0) same, ap (λ (p : A × Cursor). p.1.rest) same ∙ s.2)

-- one list of bytes spells one value
pub one_value : {A : Type 0} (form : Form A) (u v : A) (bytes : List ℕ) → Spells form u bytes → Spells form v bytes → u ≡ v
one_value form u v bytes a b = (same_value form u v [] [] a.0 b.0 (ap (λ (t : List ℕ). t ++ []) (sym a.1 ∙ b.1))).0

-- nothing stands between a spelling and a longer one
pub nothing_behind : {A : Type 0} (form : Form A) (u v : A) (bytes rest : List ℕ) → Spells form u bytes → Spells form v (bytes ++ rest) → rest ≡ []
nothing_behind form u v bytes rest a b = (same_value form u v rest [] a.0 b.0 (ap (λ (t : List ℕ). t ++ rest) (sym a.1) ∙ b.1 ∙ sym (append-nil (form.spell v)))).1
