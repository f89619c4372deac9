-- A compound is read exactly where it is spelled.
use Rattle.std.proofs.Common.{◌≡◌, ℕ, ◌≤◌, List, length, Result, Ok, refl, sym, ap, subst, ◌∙◌, arith}
use Rattle.wire_xdr.specs.Cursor.{Cursor, IsBytes, ◌>>=◌}
use Rattle.wire_xdr.specs.StepLaws.{bind_ok, ok_is}
use Rattle.nfs_compound.specs.declared.tail.Tail.{Tail}
use Rattle.nfs_compound.specs.declared.operation.Class.TheVariants.{Listed}
use Rattle.nfs_compound.specs.declared.op.Op.{Op}
use Rattle.nfs_compound.specs.declared.op.Op.TheVariants.{Copy, File}
use Rattle.nfs_compound.specs.declared.cb_op.CbOp.{CbOp}
use Rattle.nfs_compound.specs.declared.cb_op.CbOp.TheVariants as callbacks
use Rattle.nfs_compound.specs.declared.compound.Compound.{Compound}
use Rattle.nfs_compound.specs.declared.cb_compound.CbCompound.{CbCompound}
use Rattle.nfs_compound.specs.Body.{one_at, body_at}
use Rattle.wire_xdr.specs.All.{start}
use Rattle.nfs_compound.specs.Ops.{op_class, op_arg, op_number, op_own, op_is_cut, operation}
use Rattle.nfs_compound.specs.Callbacks.{cb_class, cb_arg, cb_op_number, cb_op_own, cb_is_cut, cb_operation}
use Rattle.nfs_compound.specs.Compounds.{compound_head, compound_at, compound_of, IsCompound, cb_compound_head, cb_compound_at, cb_compound_of, IsCbCompound}
use Rattle.nfs_compound.proofs.Spelled.{Takes, Again, numbered_takes, numbered_again, body_found, body_fits, body_again}

-- ---- the numbers of operations that have a spelling are listed

op_listed : (n : ℕ) (v : Op) → (op_arg n).Fits v → op_class n ≡ Listed
unfolding op_arg
op_listed n (Copy v) fits = rw fits.0 refl
op_listed n (File v) fits = rw (fits.0, fits.1) refl

cb_listed : (n : ℕ) (v : CbOp) → (cb_arg n).Fits v → cb_class n ≡ Listed
unfolding cb_arg
cb_listed n (callbacks.Sequence v) fits = subst (λ (m : ℕ). cb_class m ≡ Listed) fits.0 refl
cb_listed n (callbacks.Offload v) fits = subst (λ (m : ℕ). cb_class m ≡ Listed) fits.0 refl

op_takes : Takes operation (one_at op_class op_arg)
unfolding operation
op_takes = numbered_takes op_class op_arg op_number op_own

op_again : Again operation (one_at op_class op_arg)
unfolding operation
op_again = numbered_again op_class op_arg op_number op_own op_listed

cb_takes : Takes cb_operation (one_at cb_class cb_arg)
unfolding cb_operation
cb_takes = numbered_takes cb_class cb_arg cb_op_number cb_op_own

cb_again : Again cb_operation (one_at cb_class cb_arg)
unfolding cb_operation
cb_again = numbered_again cb_class cb_arg cb_op_number cb_op_own cb_listed

-- ---- COMPOUND

made : (List ℕ × (ℕ × ℕ)) → List Op × Tail → Compound
made head body = record { tag = head.0; minor = head.1.0; count = head.1.1; ops = body.0; tail = body.1 }

pub compound_found : (bytes : List ℕ) (c : Compound) → IsBytes bytes → compound_of bytes ≡ Ok c → IsCompound c bytes
unfolding compound_at made
compound_found bytes c fits e =
    let one = one_at op_class op_arg in
    let h = bind_ok (compound_head.read (start bytes)) (λ head. body_at one op_is_cut head.0.1.1 0 head.1 >>= λ body. Ok (made head.0 body)) c e in
    let body = bind_ok (body_at one op_is_cut h.0.0.1.1 0 h.0.1) (λ body. Ok (made h.0.0 body)) c h.2 in
    let t = compound_head.lawful.takes (start bytes) h.0.0 h.0.1 fits h.1 in
    let b = body_found operation one op_is_cut op_takes h.0.0.1.1 0 h.0.1 body.0 t.0.bytes body.1 in
    let f = body_fits operation one op_is_cut h.0.0.1.1 0 h.0.1 body.0.0 body.0.1 b in
    let ops : length body.0.0 ≤ 4294967295 = omega (arith, f.1, t.1.1.1) in
    subst (λ (compound : Compound). IsCompound compound bytes) (ok_is {E = ℕ} (made h.0.0 body.0) c body.2)
    (record { behind = h.0.1; head = t.0; body = b; count = t.1.1.1; fits = record { tag = t.1.0; minor = t.1.1.0; ops = (ops, f.0) } })

-- no more operations are read than are counted
pub compound_is_few : (bytes : List ℕ) (c : Compound) → IsCompound c bytes → length c.ops ≤ c.count
compound_is_few bytes c h = (body_fits operation (one_at op_class op_arg) op_is_cut c.count 0 h.behind c.ops c.tail h.body).1

pub compound_again : (bytes : List ℕ) (c : Compound) → IsBytes bytes → IsCompound c bytes → compound_of bytes ≡ Ok c
unfolding compound_at made
compound_again bytes c fits h =
    let one = one_at op_class op_arg in
    let v : List ℕ × (ℕ × ℕ) = (c.tag, (c.minor, c.count)) in
    let head : compound_head.read (start bytes) ≡ Ok (v, h.behind) =
    ap (λ (r : List ℕ). compound_head.read (start r)) h.head.parts ∙ compound_head.lawful.again 0 v h.behind.rest (h.fits.tag, (h.fits.minor, h.count))
    ∙ ap (λ (k : ℕ). Ok (v, record { at = k; rest = h.behind.rest })) (sym h.head.by) in
    ap (λ (r : Result ((List ℕ × (ℕ × ℕ)) × Cursor) ℕ). r >>= λ head. body_at one op_is_cut head.0.1.1 0 head.1 >>= λ body. Ok (made head.0 body)) head
    ∙ ap (λ (r : Result (List Op × Tail) ℕ). r >>= λ body. Ok (made v body)) (body_again operation one op_is_cut op_again c.count 0 h.behind c.ops c.tail h.head.bytes h.body)

-- ---- CB_COMPOUND

cb_made : (List ℕ × (ℕ × (ℕ × ℕ))) → List CbOp × Tail → CbCompound
cb_made head body = record { tag = head.0; minor = head.1.0; ident = head.1.1.0; count = head.1.1.1; ops = body.0; tail = body.1 }

pub cb_compound_found : (bytes : List ℕ) (c : CbCompound) → IsBytes bytes → cb_compound_of bytes ≡ Ok c → IsCbCompound c bytes
unfolding cb_compound_at cb_made
cb_compound_found bytes c fits e =
    let one = one_at cb_class cb_arg in
    let h = bind_ok (cb_compound_head.read (start bytes)) (λ head. body_at one cb_is_cut head.0.1.1.1 0 head.1 >>= λ body. Ok (cb_made head.0 body)) c e in
    let body = bind_ok (body_at one cb_is_cut h.0.0.1.1.1 0 h.0.1) (λ body. Ok (cb_made h.0.0 body)) c h.2 in
    let t = cb_compound_head.lawful.takes (start bytes) h.0.0 h.0.1 fits h.1 in
    let b = body_found cb_operation one cb_is_cut cb_takes h.0.0.1.1.1 0 h.0.1 body.0 t.0.bytes body.1 in
    let f = body_fits cb_operation one cb_is_cut h.0.0.1.1.1 0 h.0.1 body.0.0 body.0.1 b in
    let ops : length body.0.0 ≤ 4294967295 = omega (arith, f.1, t.1.1.1.1) in
    subst (λ (compound : CbCompound). IsCbCompound compound bytes) (ok_is {E = ℕ} (cb_made h.0.0 body.0) c body.2)
    (record { behind = h.0.1; head = t.0; body = b; count = t.1.1.1.1; fits = record { tag = t.1.0; minor = t.1.1.0; ident = t.1.1.1.0; ops = (ops, f.0) } })

pub cb_compound_again : (bytes : List ℕ) (c : CbCompound) → IsBytes bytes → IsCbCompound c bytes → cb_compound_of bytes ≡ Ok c
unfolding cb_compound_at cb_made
cb_compound_again bytes c fits h =
    let one = one_at cb_class cb_arg in
    let v : List ℕ × (ℕ × (ℕ × ℕ)) = (c.tag, (c.minor, (c.ident, c.count))) in
    let head : cb_compound_head.read (start bytes) ≡ Ok (v, h.behind) =
    ap (λ (r : List ℕ). cb_compound_head.read (start r)) h.head.parts ∙ cb_compound_head.lawful.again 0 v h.behind.rest (h.fits.tag, (h.fits.minor, (h.fits.ident, h.count)))
    ∙ ap (λ (k : ℕ). Ok (v, record { at = k; rest = h.behind.rest })) (sym h.head.by) in
    ap (λ (r : Result ((List ℕ × (ℕ × (ℕ × ℕ))) × Cursor) ℕ). r >>= λ head. body_at one cb_is_cut head.0.1.1.1 0 head.1 >>= λ body. Ok (cb_made head.0 body)) head
    ∙ ap (λ (r : Result (List CbOp × Tail) ℕ). r >>= λ body. Ok (cb_made v body)) (body_again cb_operation one cb_is_cut cb_again c.count 0 h.behind c.ops c.tail h.head.bytes h.body)
