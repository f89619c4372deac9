-- What is written for a whole compound is read as that compound.
use Rattle.std.proofs.Common.{◌≡◌, ℕ, ◌+◌, ◌^◌, ◌<◌, Bool, false, List, [], ◌∷◌, ◌++◌, length, Result, refl, sym, ap, subst, ◌∙◌, append_assoc, arith}
use Rattle.std.proofs.lemmas.List.{append-nil, drop_at, length-append}
use Rattle.std.proofs.Math.Seq.{drop-length}
use Rattle.std.specs.List.{flat_map, AllByRecursion}
use Rattle.wire_xdr.specs.Cursor.{Cursor, IsBytes}
use Rattle.wire_xdr.specs.Words.{word_bytes, opaque_bytes}
use Rattle.wire_xdr.specs.Form.{Passes, Form}
use Rattle.wire_xdr.specs.Parts.{list_spell}
use Rattle.wire_xdr.specs.StepLaws.{IsBytes-drop}
use Rattle.nfs_compound.specs.declared.tail.Tail.{Tail}
use Rattle.nfs_compound.specs.declared.tail.Tail.TheVariants.{Whole}
use Rattle.nfs_compound.specs.declared.compound.Compound.{Compound}
use Rattle.nfs_compound.specs.declared.cb_compound.CbCompound.{CbCompound}
use Rattle.nfs_compound.specs.declared.cb_op.CbOp.{CbOp}
use Rattle.nfs_compound.specs.Body.{one_at, IsBody}
use Rattle.wire_xdr.specs.All.{start}
use Rattle.nfs_compound.specs.Ops.{op_class, op_arg, op_is_cut, operation}
use Rattle.nfs_compound.specs.Callbacks.{cb_class, cb_arg, cb_is_cut, cb_operation}
use Rattle.nfs_compound.specs.Compounds.{compound_head, compound_bytes, CompoundFits, IsCompound, cb_compound_head, cb_compound_bytes, CbCompoundFits, IsCbCompound}
use Rattle.nfs_compound.proofs.Spelled.{more_follow}

-- two texts are passed one after the other
passes_split : (old : Cursor) (x y : List ℕ) (new : Cursor) → IsBytes old.rest → Passes old (x ++ y) new → (mid : Cursor) × Passes old x mid × Passes mid y new
passes_split old x y new fits p =
    let whole : old.rest ≡ x ++ (y ++ new.rest) = p.parts ∙ append_assoc x y new.rest in
    let mid : Cursor = record { at = old.at + length x; rest = y ++ new.rest } in
    let bytes : IsBytes (y ++ new.rest) = subst IsBytes (drop_at x (y ++ new.rest) (length x) refl) (IsBytes-drop (length x) (x ++ (y ++ new.rest)) (subst IsBytes whole fits)) in
    let at : new.at ≡ (old.at + length x) + length y = omega (arith, p.by, length-append x y) in
    (mid, record { parts = whole; by = refl; bytes = bytes }, record { parts = refl; by = at; bytes = p.bytes })

-- all of the bytes are passed
passes_all : (bytes text : List ℕ) → IsBytes bytes → bytes ≡ text → (end : Cursor) × Passes (start bytes) text end × (end.rest ≡ [])
passes_all bytes text fits is =
    let none : IsBytes [] = subst IsBytes (drop-length bytes) (IsBytes-drop (length bytes) bytes fits) in
    (record { at = 0 + length text; rest = [] }, record { parts = is ∙ sym (append-nil text); by = refl; bytes = none }, refl)

-- operations of which none is cut, one after the other, with nothing behind them
body_whole : {A : Type 0} (item : Form A) (one : ℕ → Cursor → Result (A × Cursor) Tail) (is_cut : A → Bool) (place : ℕ) (c : Cursor) (items : List A) (after : Cursor) → IsBytes c.rest → Passes c (flat_map item.spell items) after
    → AllByRecursion item.Fits items → AllByRecursion (λ v. is_cut v ≡ false) items → after.rest ≡ [] → IsBody item one is_cut (length items) place c items Whole
body_whole item one is_cut place c [] after bytes p fits uncut none = (refl, p.parts ∙ none)
body_whole {A} item one is_cut place c (v ∷ vs) after bytes p fits uncut none =
    let s = passes_split c (item.spell v) (flat_map item.spell vs) after bytes p in (
      s.0,
      s.1,
      fits.0,
      more_follow ((vs ≡ []) × ◌≡◌ {A = Tail} Whole Whole) (IsBody item one is_cut (length vs) (place + 1) s.0 vs Whole) (is_cut v) uncut.0
          (body_whole item one is_cut (place + 1) s.0 vs after s.1.bytes s.2 fits.1 uncut.1 none),
    )

pub compound_written : (c : Compound) → IsBytes (compound_bytes c) → c.tail ≡ Whole → c.count ≡ length c.ops → CompoundFits c → AllByRecursion (λ op. op_is_cut op ≡ false) c.ops → IsCompound c (compound_bytes c)
unfolding compound_bytes list_spell
compound_written c bytes whole count fits uncut =
    let one = one_at op_class op_arg in
    let tag = opaque_bytes c.tag in
    let minor = word_bytes c.minor in
    let head = compound_head.spell (c.tag, (c.minor, c.count)) in
    let ops = flat_map operation.spell c.ops in
    let text : tag ++ (minor ++ (word_bytes (length c.ops) ++ ops)) ≡ head ++ ops =
    ap (λ (n : ℕ). tag ++ (minor ++ (word_bytes n ++ ops))) (sym count)
    ∙ ap (λ (rest : List ℕ). tag ++ rest) (sym (append_assoc minor (word_bytes c.count) ops))
    ∙ sym (append_assoc tag (minor ++ word_bytes c.count) ops) in
    let all = passes_all (compound_bytes c) (head ++ ops) bytes text in
    let s = passes_split (start (compound_bytes c)) head ops all.0 bytes all.1 in
    let body = body_whole operation one op_is_cut 0 s.0 c.ops all.0 s.1.bytes s.2 fits.ops.1 uncut all.2 in
    let told = subst (λ (n : ℕ). IsBody operation one op_is_cut n 0 s.0 c.ops Whole) (sym count) body in
    let small : c.count < 2 ^ 32 = omega (arith, fits.ops.0, count) in
    record { behind = s.0; head = s.1; body = subst (λ (t : Tail). IsBody operation one op_is_cut c.count 0 s.0 c.ops t) (sym whole) told; count = small; fits = fits }

none_cut : (ops : List CbOp) → AllByRecursion (λ op. cb_is_cut op ≡ false) ops
none_cut [] = tt
none_cut (op ∷ ops) = (refl, none_cut ops)

pub cb_compound_written : (c : CbCompound) → IsBytes (cb_compound_bytes c) → c.tail ≡ Whole → c.count ≡ length c.ops → CbCompoundFits c → IsCbCompound c (cb_compound_bytes c)
unfolding cb_compound_bytes list_spell
cb_compound_written c bytes whole count fits =
    let one = one_at cb_class cb_arg in
    let tag = opaque_bytes c.tag in
    let minor = word_bytes c.minor in
    let ident = word_bytes c.ident in
    let head = cb_compound_head.spell (c.tag, (c.minor, (c.ident, c.count))) in
    let ops = flat_map cb_operation.spell c.ops in
    let text : tag ++ (minor ++ (ident ++ (word_bytes (length c.ops) ++ ops))) ≡ head ++ ops =
    ap (λ (n : ℕ). tag ++ (minor ++ (ident ++ (word_bytes n ++ ops)))) (sym count)
    ∙ ap (λ (rest : List ℕ). tag ++ (minor ++ rest)) (sym (append_assoc ident (word_bytes c.count) ops))
    ∙ ap (λ (rest : List ℕ). tag ++ rest) (sym (append_assoc minor (ident ++ word_bytes c.count) ops))
    ∙ sym (append_assoc tag (minor ++ (ident ++ word_bytes c.count)) ops) in
    let all = passes_all (cb_compound_bytes c) (head ++ ops) bytes text in
    let s = passes_split (start (cb_compound_bytes c)) head ops all.0 bytes all.1 in
    let body = body_whole cb_operation one cb_is_cut 0 s.0 c.ops all.0 s.1.bytes s.2 fits.ops.1 (none_cut c.ops) all.2 in
    let told = subst (λ (n : ℕ). IsBody cb_operation one cb_is_cut n 0 s.0 c.ops Whole) (sym count) body in
    let small : c.count < 2 ^ 32 = omega (arith, fits.ops.0, count) in
    record { behind = s.0; head = s.1; body = subst (λ (t : Tail). IsBody cb_operation one cb_is_cut c.count 0 s.0 c.ops t) (sym whole) told; count = small; fits = fits }
