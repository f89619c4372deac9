-- The operations of a CB_COMPOUND and their results, a table (RFC 8881 section 20, RFC 7862 section 16), and the reply.
use Rattle.std.specs.Prelude.{ℕ, Bool, false, List, [], ◌∷◌, refl, nat_lt, ◌==◌, ◌||◌, if◌then◌else◌}
use Rattle.std.proofs.Common.{lit<}
use Rattle.nfs_base.specs.declared.limits.TheConstants.{TEXT_LIMIT}
use Rattle.nfs_base.specs.declared.status.Status.{Status}
use Rattle.nfs_compound.specs.declared.limits.TheConstants.{NO_LIMIT}
use Rattle.nfs_base.specs.Forms.{status, answer}
use Rattle.copy_ops.specs.Forms.{cb_offload}
use Rattle.file_ops.specs.Callbacks.{cb_seq, cb_seq_done}
use Rattle.wire_xdr.specs.Form.{Form}
use Rattle.wire_xdr.specs.Arms.{Case, ArmOf, IsListed, IsPicked, arm, holds, defaults, number_of, other_arm}
use Rattle.wire_xdr.specs.Forms.{opaque, both, seen_as, list, chosen, union_or}
use Rattle.copy_ops.specs.declared.operation.TheConstants.{OP_CB_OFFLOAD}
use Rattle.file_ops.specs.declared.operation.TheConstants.{OP_CB_SEQUENCE}
use Rattle.nfs_compound.specs.declared.cb_op.TheConstants.{FIRST_OP, LAST_OP}
use Rattle.nfs_compound.specs.declared.cb_op.CbOp.{CbOp}
use Rattle.nfs_compound.specs.declared.cb_op.CbOp.TheVariants as ops
use Rattle.nfs_compound.specs.declared.cb_res.CbRes.{CbRes}
use Rattle.nfs_compound.specs.declared.cb_res.CbRes.TheVariants as results
use Rattle.nfs_compound.specs.declared.cb_reply.CbReply.{CbReply}
use Rattle.nfs_compound.specs.declared.operation.Class.{Class}
use Rattle.nfs_compound.specs.declared.operation.Class.TheVariants.{Listed, Unsupported, Illegal}
use Rattle.nfs_compound.specs.Numbered.{Own, numbered}
use Rattle.nfs_compound.specs.Results.{failure}

-- What is known of a number: CB_SEQUENCE and CB_OFFLOAD are listed. Of the others those from the first to the
-- last are operations of callbacks.
abbrev pub cb_class : ℕ → Class
cb_class n =
    if (n == OP_CB_SEQUENCE) || (n == OP_CB_OFFLOAD) then Listed
    else if nat_lt n FIRST_OP then Illegal
    else if nat_lt LAST_OP n then Illegal
    else Unsupported

-- none is cut
abbrev pub cb_is_cut : CbOp → Bool
cb_is_cut v = false

-- ---- operations

abbrev pub cb_op_case : CbOp → Case CbOp
cb_op_case (ops.Sequence v) = holds OP_CB_SEQUENCE cb_seq ops.Sequence v
cb_op_case (ops.Offload v) = holds OP_CB_OFFLOAD cb_offload ops.Offload v

abbrev pub cb_op_arms : List (ArmOf cb_op_case)
cb_op_arms = arm OP_CB_SEQUENCE cb_seq ops.Sequence (λ v. refl) ∷ arm OP_CB_OFFLOAD cb_offload ops.Offload (λ v. refl) ∷ []

pub cb_op_listed : (v : CbOp) → IsListed cb_op_arms v
cb_op_listed (ops.Sequence v) = record { reads = λ otherwise c. refl; whole = refl }
cb_op_listed _ = record { reads = λ otherwise c. refl; whole = refl }

unfoldable pub cb_arg : ℕ → Form CbOp
cb_arg = chosen cb_op_arms cb_op_listed

abbrev pub cb_op_number : CbOp → ℕ
cb_op_number = number_of cb_op_case

pub cb_op_own : Own cb_arg cb_op_number
unfolding cb_arg
cb_op_own n v fits = fits.0

-- an operation: its number and its arguments
unfoldable pub cb_operation : Form CbOp
cb_operation = numbered cb_arg cb_op_number cb_op_own

-- ---- results: CB_SEQUENCE's, the status of CB_OFFLOAD, and a status other than 0 for any other number

abbrev pub cb_res_case : CbRes → Case CbRes
cb_res_case (results.Sequence v) = holds OP_CB_SEQUENCE (answer cb_seq_done) results.Sequence v
cb_res_case (results.Offload s) = holds OP_CB_OFFLOAD status results.Offload s
cb_res_case (results.Bare op s) = defaults op failure (λ s. results.Bare op s) s

abbrev pub cb_res_arms : List (ArmOf cb_res_case)
cb_res_arms = arm OP_CB_SEQUENCE (answer cb_seq_done) results.Sequence (λ v. refl) ∷ arm OP_CB_OFFLOAD status results.Offload (λ v. refl) ∷ []

abbrev pub cb_bare : ℕ → Status → CbRes
cb_bare op s = results.Bare op s

pub cb_res_picked : (v : CbRes) → IsPicked cb_res_arms (other_arm (λ n. failure) cb_bare) v
cb_res_picked (results.Sequence v) = record { reads = λ otherwise c. refl; whole = refl }
cb_res_picked _ = record { reads = λ otherwise c. refl; whole = refl }

unfoldable pub cb_outcome : Form CbRes
cb_outcome = union_or cb_res_arms (λ n. failure) cb_bare (λ n v. refl) cb_res_picked

-- ---- the reply

unfoldable pub cb_reply : Form CbReply
cb_reply = seen_as (λ v. record { status = v.0; tag = v.1.0; results = v.1.1 }) (λ v. (v.status, (v.tag, v.results))) (λ v. refl) (λ v. refl) (both status (both (opaque TEXT_LIMIT (lit< tt)) (list NO_LIMIT (lit< tt) cb_outcome)))
