-- The operations of a copy (RFC 7862 section 15).
use Rattle.std.specs.Prelude.{ℕ, Bool, ◌==◌, ◌||◌, IsTrue}
use Rattle.nfs_base.specs.declared.status.Status.{Status}
use Rattle.nfs_base.specs.declared.status.TheConstants.Status.{OK, OFFLOAD_NO_REQS}
use Rattle.nfs_base.specs.Answers.{answer_status}
use Rattle.copy_ops.specs.declared.operation.TheConstants.{OP_COPY, OP_COPY_NOTIFY, OP_OFFLOAD_CANCEL, OP_OFFLOAD_STATUS, OP_CLONE}
use Rattle.copy_ops.specs.declared.res.CopyRes.{CopyRes}
use Rattle.copy_ops.specs.declared.res.CopyRes.TheVariants as results
use Rattle.copy_ops.specs.declared.results.CopyAnswer.{CopyAnswer}
use Rattle.copy_ops.specs.declared.results.CopyAnswer.TheVariants.{Done, NoReqs, Refused}

abbrev pub is_copy_op : ℕ → Bool
is_copy_op op = (op == OP_COPY) || (op == OP_COPY_NOTIFY) || (op == OP_OFFLOAD_CANCEL) || (op == OP_OFFLOAD_STATUS) || (op == OP_CLONE)

abbrev pub IsCopyOp : ℕ → Type 0
IsCopyOp op = IsTrue (is_copy_op op)

-- the status that a result begins with
abbrev pub copy_answer_status : CopyAnswer → Status
copy_answer_status (Done done) = OK
copy_answer_status (NoReqs consecutive synchronous) = OFFLOAD_NO_REQS
copy_answer_status (Refused status) = status

abbrev pub copy_res_status : CopyRes → Status
copy_res_status (results.Copy answer) = copy_answer_status answer
copy_res_status (results.CopyNotify answer) = answer_status answer
copy_res_status (results.OffloadCancel status) = status
copy_res_status (results.OffloadStatus answer) = answer_status answer
copy_res_status (results.Clone status) = status
