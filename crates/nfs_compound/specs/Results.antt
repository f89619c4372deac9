-- The results of a COMPOUND by their operations' numbers, and its reply (RFC 8881 section 16.2, RFC 7863).
use Rattle.std.proofs.Common.{◌≡◌, ℕ, ◌+◌, Bool, true, false, cond, List, ◌++◌, length, Result, Ok, Err, refl, sym, ap, subst, ◌∙◌, lit<}
use Rattle.std.specs.Prelude.{not, ◌==◌, if◌then◌else◌}
use Rattle.nfs_base.specs.declared.limits.TheConstants.{TEXT_LIMIT}
use Rattle.nfs_base.specs.declared.status.Status.{Status}
use Rattle.nfs_compound.specs.declared.limits.TheConstants.{NO_LIMIT}
use Rattle.nfs_base.specs.Forms.{status}
use Rattle.copy_ops.specs.Forms.{copy_res, copy_res_number, copy_res_own}
use Rattle.copy_ops.specs.Operations.{is_copy_op, copy_res_status}
use Rattle.file_ops.specs.Results.{file_res, file_res_number, file_res_own, file_res_status}
use Rattle.file_ops.specs.Operations.{is_file_op}
use Rattle.wire_xdr.specs.Cursor.{Cursor}
use Rattle.wire_xdr.specs.Form.{Passes, IsForm, Form}
use Rattle.wire_xdr.specs.Parts.{as_read}
use Rattle.wire_xdr.specs.Forms.{opaque, both, seen_as, such_that, list}
use Rattle.nfs_compound.specs.declared.res.Res.{Res}
use Rattle.nfs_compound.specs.declared.res.Res.TheVariants.{Copy, File, Bare}
use Rattle.nfs_compound.specs.declared.reply.Reply.{Reply}
use Rattle.nfs_compound.specs.Numbered.{Own, numbered, made_takes, made_again, variant_takes, variant_again, made_refuses, by_test}

abbrev pub res_number : Res → ℕ
res_number (Copy v) = copy_res_number v
res_number (File v) = file_res_number v
res_number (Bare op s) = op

-- ---- the status that a result begins with

abbrev pub res_status : Res → Status
res_status (Copy v) = copy_res_status v
res_status (File v) = file_res_status v
res_status (Bare op s) = s

-- ---- how the result of the operation with a number is spelled, from its status on

-- an operation that isn't listed is answered with a status other than 0, and nothing more
abbrev pub is_failure : Status → Bool
is_failure s = not (s.number == 0)

abbrev pub failure : Form Status
failure = such_that is_failure status

abbrev pub res_read : ℕ → Cursor → Result (Res × Cursor) ℕ
res_read n c =
    if is_copy_op n then as_read Copy (copy_res n) c
    else if is_file_op n then as_read File (file_res n) c
    else as_read (Bare n) failure c

abbrev pub res_spell : Res → List ℕ
res_spell (Copy v) = (copy_res (copy_res_number v)).spell v
res_spell (File v) = (file_res (file_res_number v)).spell v
res_spell (Bare op s) = failure.spell s

abbrev pub res_Fits : ℕ → Res → Type 0
res_Fits n (Copy v) = (is_copy_op n ≡ true) × (copy_res n).Fits v
res_Fits n (File v) = (is_copy_op n ≡ false) × (is_file_op n ≡ true) × (file_res n).Fits v
res_Fits n (Bare op s) = (is_copy_op n ≡ false) × (is_file_op n ≡ false) × (op ≡ n) × failure.Fits s

res_again : (n at : ℕ) (v : Res) (rest : List ℕ) → res_Fits n v → res_read n (record { at = at; rest = res_spell v ++ rest }) ≡ Ok (v, record { at = at + length (res_spell v); rest = rest })
res_again n at (Copy a) rest fits =
    let c : Cursor = record { at = at; rest = (copy_res (copy_res_number a)).spell a ++ rest } in
    ap (λ (b : Bool). cond b (as_read Copy (copy_res n) c) (cond (is_file_op n) (as_read File (file_res n) c) (as_read (Bare n) failure c))) fits.0
    ∙ variant_again Copy copy_res copy_res_number copy_res_own n at a rest fits.1
res_again n at (File a) rest fits =
    let c : Cursor = record { at = at; rest = (file_res (file_res_number a)).spell a ++ rest } in
    ap (λ (b : Bool). cond b (as_read Copy (copy_res n) c) (cond (is_file_op n) (as_read File (file_res n) c) (as_read (Bare n) failure c))) fits.0
    ∙ ap (λ (b : Bool). cond b (as_read File (file_res n) c) (as_read (Bare n) failure c)) fits.1
    ∙ variant_again File file_res file_res_number file_res_own n at a rest fits.2
res_again n at (Bare op s) rest fits =
    let c : Cursor = record { at = at; rest = failure.spell s ++ rest } in
    let after : Cursor = record { at = at + length (failure.spell s); rest = rest } in
    ap (λ (b : Bool). cond b (as_read Copy (copy_res n) c) (cond (is_file_op n) (as_read File (file_res n) c) (as_read (Bare n) failure c))) fits.0
    ∙ ap (λ (b : Bool). cond b (as_read File (file_res n) c) (as_read (Bare n) failure c)) fits.1
    ∙ subst (λ (m : ℕ). as_read (Bare n) failure c ≡ Ok (Bare m s, after)) (sym fits.2) (made_again (Bare n) failure at s rest fits.3)

pub res_is : (n : ℕ) → IsForm (res_read n) res_spell (res_Fits n)
res_is n = record {
  takes = λ old v new fits e.
      let P : Res → Type 0 = λ u. Passes old (res_spell u) new × res_Fits n u in
      by_test (is_copy_op n) (as_read Copy (copy_res n) old) (cond (is_file_op n) (as_read File (file_res n) old) (as_read (Bare n) failure old)) (Ok (v, new)) e
      (λ listed x. let t = variant_takes Copy copy_res copy_res_number copy_res_own n old v new fits x in subst P t.1 (t.2, (listed, t.3)))
      (λ other y.
      by_test (is_file_op n) (as_read File (file_res n) old) (as_read (Bare n) failure old) (Ok (v, new)) y
      (λ listed x. let t = variant_takes File file_res file_res_number file_res_own n old v new fits x in subst P t.1 (t.2, (other, listed, t.3)))
      (λ none z. let t = made_takes (Bare n) failure old v new fits z in subst P t.1 (t.2, (other, none, refl, t.3))));
  again = λ at v rest fits. res_again n at v rest fits;
  refuses = λ old p fits e.
      by_test (is_copy_op n) (as_read Copy (copy_res n) old) (cond (is_file_op n) (as_read File (file_res n) old) (as_read (Bare n) failure old)) (Err p) e
      (λ listed x. made_refuses Copy (copy_res n) old p fits x)
      (λ other y.
      by_test (is_file_op n) (as_read File (file_res n) old) (as_read (Bare n) failure old) (Err p) y
      (λ listed x. made_refuses File (file_res n) old p fits x)
      (λ none z. made_refuses (Bare n) failure old p fits z));
}

unfoldable pub res_body : ℕ → Form Res
res_body n = record { read = res_read n; spell = res_spell; Fits = res_Fits n; lawful = res_is n }

pub res_own : Own res_body res_number
unfolding res_body
res_own n (Copy v) fits = copy_res_own n v fits.1
res_own n (File v) fits = file_res_own n v fits.2
res_own n (Bare op s) fits = fits.2

-- a result: its operation's number, its status and what was done
unfoldable pub outcome : Form Res
outcome = numbered res_body res_number res_own

-- this operation is answered with this status, and the result has a spelling
pub record IsRefusal (op number : ℕ) (res : Res) : Type 0 where
  pub of : res_number res ≡ op
  pub status_is : res_status res ≡ record { number = number }
  pub fits : outcome.Fits res

-- ---- the reply: the status of the last result, a tag, and the results behind their count

unfoldable pub reply : Form Reply
reply = seen_as (λ v. record { status = v.0; tag = v.1.0; results = v.1.1 }) (λ v. (v.status, (v.tag, v.results))) (λ v. refl) (λ v. refl) (both status (both (opaque TEXT_LIMIT (lit< tt)) (list NO_LIMIT (lit< tt) outcome)))
