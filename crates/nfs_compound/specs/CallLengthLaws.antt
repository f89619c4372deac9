-- How many bytes a COMPOUND, a CB_COMPOUND and the reply to one have, by their parts.
use Rattle.std.proofs.Common.{ℕ, ◌+◌, ◌≤◌, ◌++◌, length, refl, arith, lit<}
use Rattle.std.specs.Prelude.{sum_by}
use Rattle.std.proofs.lemmas.List.{length-append}
use Rattle.wire_xdr.specs.Words.{word_bytes, opaque_bytes}
use Rattle.wire_xdr.specs.Parts.{list_spell}
use Rattle.wire_xdr.specs.LengthLaws.{IsSized, AreSized, word_length, opaque_bounded, list_sized, union_or_sized}
use Rattle.nfs_base.specs.declared.limits.TheConstants.{TEXT_LIMIT, HANDLE_LIMIT}
use Rattle.nfs_base.specs.Forms.{status}
use Rattle.nfs_base.specs.LengthLaws.{status_bounded}
use Rattle.copy_ops.specs.Forms.{copy_arg, copy_arg_number, cb_offload}
use Rattle.copy_ops.specs.LengthLaws.{places_most, copy_arg_bounded, cb_offload_bounded}
use Rattle.copy_ops.specs.declared.operation.TheConstants.{OP_CB_OFFLOAD}
use Rattle.file_ops.specs.declared.operation.TheConstants.{OP_CB_SEQUENCE}
use Rattle.file_ops.specs.Args.{file_arg, file_arg_number}
use Rattle.file_ops.specs.ArgLengthLaws.{file_arg_size, file_arg_sized}
use Rattle.file_ops.specs.Callbacks.{cb_seq}
use Rattle.file_ops.specs.CallbackLengthLaws.{cb_seq_size, cb_seq_sized, cb_seq_answer_bounded}
use Rattle.nfs_compound.specs.declared.op.Op.{Op}
use Rattle.nfs_compound.specs.declared.op.Op.TheVariants.{Copy, File}
use Rattle.nfs_compound.specs.declared.cb_op.CbOp.{CbOp}
use Rattle.nfs_compound.specs.declared.cb_op.CbOp.TheVariants as callbacks
use Rattle.nfs_compound.specs.declared.cb_res.CbRes.{CbRes}
use Rattle.nfs_compound.specs.declared.cb_res.CbRes.TheVariants as results
use Rattle.nfs_compound.specs.declared.cb_reply.CbReply.{CbReply}
use Rattle.nfs_compound.specs.declared.compound.Compound.{Compound}
use Rattle.nfs_compound.specs.declared.cb_compound.CbCompound.{CbCompound}
use Rattle.nfs_compound.specs.Ops.{op_arg, operation}
use Rattle.nfs_compound.specs.Callbacks.{cb_arg, cb_operation, cb_res_case, cb_res_arms, cb_bare, cb_res_picked, cb_outcome, cb_reply}
use Rattle.nfs_compound.specs.Compounds.{CompoundFits, compound_bytes, CbCompoundFits, cb_compound_bytes}
use Rattle.nfs_compound.specs.Results.{failure}

-- ---- COMPOUND

-- how many bytes an operation has at most, its number included
abbrev pub op_size : Op → ℕ
op_size (Copy v) = 68 + places_most
op_size (File v) = 4 + file_arg_size v

operation_sized : IsSized operation op_size
unfolding operation op_arg
operation_sized (Copy v) fits =
    let n = copy_arg_number v in
    omega (arith, length-append (word_bytes n) ((copy_arg n).spell v), word_length n, copy_arg_bounded n v fits.1.1)
operation_sized (File v) fits =
    let n = file_arg_number v in
    omega (arith, length-append (word_bytes n) ((file_arg n).spell v), word_length n, file_arg_sized n v fits.1.2)

-- a tag, a minor version, and operations behind their count
pub compound_sized : (c : Compound) → CompoundFits c → length (compound_bytes c) ≤ TEXT_LIMIT + 15 + sum_by op_size c.ops
unfolding compound_bytes
compound_sized c fits =
    omega (
      arith,
      length-append (opaque_bytes c.tag) (word_bytes c.minor ++ list_spell operation c.ops),
      length-append (word_bytes c.minor) (list_spell operation c.ops),
      opaque_bounded TEXT_LIMIT (lit< tt) c.tag fits.tag,
      word_length c.minor,
      list_sized operation op_size operation_sized c.ops fits.ops.1,
    )

-- ---- CB_COMPOUND

abbrev pub cb_op_size : CbOp → ℕ
cb_op_size (callbacks.Sequence v) = 4 + cb_seq_size v
cb_op_size (callbacks.Offload v) = HANDLE_LIMIT + 71

cb_operation_sized : IsSized cb_operation cb_op_size
unfolding cb_operation cb_arg
cb_operation_sized (callbacks.Sequence v) fits =
    omega (arith, length-append (word_bytes OP_CB_SEQUENCE) (cb_seq.spell v), word_length OP_CB_SEQUENCE, cb_seq_sized v fits.1.1)
cb_operation_sized (callbacks.Offload v) fits =
    omega (arith, length-append (word_bytes OP_CB_OFFLOAD) (cb_offload.spell v), word_length OP_CB_OFFLOAD, cb_offload_bounded v fits.1.1)

-- a tag, a minor version, a callback_ident, and operations behind their count
pub cb_compound_sized : (c : CbCompound) → CbCompoundFits c → length (cb_compound_bytes c) ≤ TEXT_LIMIT + 19 + sum_by cb_op_size c.ops
unfolding cb_compound_bytes
cb_compound_sized c fits =
    omega (
      arith,
      length-append (opaque_bytes c.tag) (word_bytes c.minor ++ (word_bytes c.ident ++ list_spell cb_operation c.ops)),
      length-append (word_bytes c.minor) (word_bytes c.ident ++ list_spell cb_operation c.ops),
      length-append (word_bytes c.ident) (list_spell cb_operation c.ops),
      opaque_bounded TEXT_LIMIT (lit< tt) c.tag fits.tag,
      word_length c.minor,
      word_length c.ident,
      list_sized cb_operation cb_op_size cb_operation_sized c.ops fits.ops.1,
    )

-- ---- the reply to a CB_COMPOUND

-- what stands behind the number of an operation
abbrev pub cb_body_size : CbRes → ℕ
cb_body_size (results.Sequence v) = 36
cb_body_size (results.Offload s) = 4
cb_body_size (results.Bare op s) = 4

cb_bodies : AreSized cb_res_case cb_body_size
cb_bodies (results.Sequence v) fits = cb_seq_answer_bounded v fits
cb_bodies (results.Offload s) fits = status_bounded s fits
cb_bodies (results.Bare op s) fits = status_bounded s fits.1

abbrev pub cb_res_size : CbRes → ℕ
cb_res_size v = 4 + cb_body_size v

pub cb_outcome_sized : IsSized cb_outcome cb_res_size
unfolding cb_outcome
cb_outcome_sized = union_or_sized cb_res_arms (λ n. failure) cb_bare (λ n v. refl) cb_res_picked cb_body_size cb_bodies

-- a status, a tag, and the results behind their count
pub cb_reply_sized : (v : CbReply) → cb_reply.Fits v → length (cb_reply.spell v) ≤ TEXT_LIMIT + 15 + sum_by cb_res_size v.results
unfolding cb_reply
cb_reply_sized v fits =
    omega (
      arith,
      length-append (status.spell v.status) (opaque_bytes v.tag ++ list_spell cb_outcome v.results),
      length-append (opaque_bytes v.tag) (list_spell cb_outcome v.results),
      status_bounded v.status fits.0,
      opaque_bounded TEXT_LIMIT (lit< tt) v.tag fits.1.0,
      list_sized cb_outcome cb_res_size cb_outcome_sized v.results fits.1.1.1,
    )
