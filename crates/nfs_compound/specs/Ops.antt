-- The operations of a COMPOUND by their numbers (RFC 8881 section 16.2, RFC 7863).
use Rattle.std.proofs.Common.{◌≡◌, ℕ, ◌+◌, Bool, true, false, cond, List, ◌++◌, length, Result, Ok, Err, ap, subst, ◌∙◌}
use Rattle.std.specs.Prelude.{nat_lt, if◌then◌else◌}
use Rattle.copy_ops.specs.Forms.{copy_arg, copy_arg_number, copy_arg_own}
use Rattle.copy_ops.specs.Operations.{is_copy_op}
use Rattle.file_ops.specs.Args.{file_arg, file_arg_number, file_arg_own, is_cut}
use Rattle.file_ops.specs.Operations.{is_file_op}
use Rattle.wire_xdr.specs.Cursor.{Cursor}
use Rattle.wire_xdr.specs.Form.{Passes, IsForm, Form}
use Rattle.wire_xdr.specs.StepLaws.{at_start}
use Rattle.wire_xdr.specs.Parts.{as_read}
use Rattle.nfs_compound.specs.declared.op.TheConstants.{FIRST_OP, LAST_OP}
use Rattle.nfs_compound.specs.declared.op.Op.{Op}
use Rattle.nfs_compound.specs.declared.op.Op.TheVariants.{Copy, File}
use Rattle.nfs_compound.specs.declared.operation.Class.{Class}
use Rattle.nfs_compound.specs.declared.operation.Class.TheVariants.{Listed, Unsupported, Illegal}
use Rattle.nfs_compound.specs.Numbered.{Own, numbered, variant_takes, variant_again, made_refuses, by_test}

-- What is known of an operation's number: those of copy_ops and file_ops are listed. Of the others those from the first to the last are
-- operations of the protocol.
abbrev pub op_class : ℕ → Class
op_class n =
    if is_copy_op n then Listed
    else if is_file_op n then Listed
    else if nat_lt n FIRST_OP then Illegal
    else if nat_lt LAST_OP n then Illegal
    else Unsupported

abbrev pub op_number : Op → ℕ
op_number (Copy v) = copy_arg_number v
op_number (File v) = file_arg_number v

-- nothing is looked at behind an operation that is cut
abbrev pub op_is_cut : Op → Bool
op_is_cut (Copy v) = false
op_is_cut (File v) = is_cut v

-- ---- how the arguments of the operation with a number are spelled

abbrev pub op_read : ℕ → Cursor → Result (Op × Cursor) ℕ
op_read n c =
    if is_copy_op n then as_read Copy (copy_arg n) c
    else if is_file_op n then as_read File (file_arg n) c
    else Err c.at

abbrev pub op_spell : Op → List ℕ
op_spell (Copy v) = (copy_arg (copy_arg_number v)).spell v
op_spell (File v) = (file_arg (file_arg_number v)).spell v

abbrev pub op_Fits : ℕ → Op → Type 0
op_Fits n (Copy v) = (is_copy_op n ≡ true) × (copy_arg n).Fits v
op_Fits n (File v) = (is_copy_op n ≡ false) × (is_file_op n ≡ true) × (file_arg n).Fits v

op_again : (n at : ℕ) (v : Op) (rest : List ℕ) → op_Fits n v → op_read n (record { at = at; rest = op_spell v ++ rest }) ≡ Ok (v, record { at = at + length (op_spell v); rest = rest })
op_again n at (Copy a) rest fits =
    let c : Cursor = record { at = at; rest = (copy_arg (copy_arg_number a)).spell a ++ rest } in
    ap (λ (b : Bool). cond b (as_read Copy (copy_arg n) c) (cond (is_file_op n) (as_read File (file_arg n) c) (Err at))) fits.0
    ∙ variant_again Copy copy_arg copy_arg_number copy_arg_own n at a rest fits.1
op_again n at (File a) rest fits =
    let c : Cursor = record { at = at; rest = (file_arg (file_arg_number a)).spell a ++ rest } in
    ap (λ (b : Bool). cond b (as_read Copy (copy_arg n) c) (cond (is_file_op n) (as_read File (file_arg n) c) (Err at))) fits.0
    ∙ ap (λ (b : Bool). cond b (as_read File (file_arg n) c) (Err at)) fits.1
    ∙ variant_again File file_arg file_arg_number file_arg_own n at a rest fits.2

pub op_is : (n : ℕ) → IsForm (op_read n) op_spell (op_Fits n)
op_is n = record {
  takes = λ old v new fits e.
      let P : Op → Type 0 = λ u. Passes old (op_spell u) new × op_Fits n u in
      by_test (is_copy_op n) (as_read Copy (copy_arg n) old) (cond (is_file_op n) (as_read File (file_arg n) old) (Err old.at)) (Ok (v, new)) e
      (λ listed x. let t = variant_takes Copy copy_arg copy_arg_number copy_arg_own n old v new fits x in subst P t.1 (t.2, (listed, t.3)))
      (λ other y.
      by_test (is_file_op n) (as_read File (file_arg n) old) (Err old.at) (Ok (v, new)) y
      (λ listed x. let t = variant_takes File file_arg file_arg_number file_arg_own n old v new fits x in subst P t.1 (t.2, (other, listed, t.3)))
      (λ none z. absurd cc));
  again = λ at v rest fits. op_again n at v rest fits;
  refuses = λ old p fits e.
      by_test (is_copy_op n) (as_read Copy (copy_arg n) old) (cond (is_file_op n) (as_read File (file_arg n) old) (Err old.at)) (Err p) e
      (λ listed x. made_refuses Copy (copy_arg n) old p fits x)
      (λ other y.
      by_test (is_file_op n) (as_read File (file_arg n) old) (Err old.at) (Err p) y
      (λ listed x. made_refuses File (file_arg n) old p fits x)
      (λ none z. at_start old p cc));
}

unfoldable pub op_arg : ℕ → Form Op
op_arg n = record { read = op_read n; spell = op_spell; Fits = op_Fits n; lawful = op_is n }

pub op_own : Own op_arg op_number
unfolding op_arg
op_own n (Copy v) fits = copy_arg_own n v fits.1
op_own n (File v) fits = file_arg_own n v fits.2

-- an operation: its number and its arguments
unfoldable pub operation : Form Op
operation = numbered op_arg op_number op_own
