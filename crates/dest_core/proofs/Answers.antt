-- What COPY and OFFLOAD_STATUS answer, as it stands behind the results.
use Rattle.std.proofs.Common.{◌≡◌, Bool, List, ℕ, ◌++◌, refl}
use Rattle.compound_server.specs.Serves.{served_bytes}
use Rattle.copy_ops.specs.Forms.{copy_answer, copy_done, copy_res, offload_progress}
use Rattle.copy_ops.specs.declared.operation.TheConstants.{OP_COPY, OP_OFFLOAD_STATUS}
use Rattle.copy_ops.specs.declared.res.CopyRes.TheVariants as results
use Rattle.copy_ops.specs.declared.results.CopyAnswer.TheVariants as copied
use Rattle.copy_ops.specs.declared.results.CopyDone.{CopyDone}
use Rattle.copy_ops.specs.declared.results.OffloadProgress.{OffloadProgress}
use Rattle.file_server.specs.Answering.{Says}
use Rattle.file_server.specs.declared.progress.Progress.{Progress}
use Rattle.nfs_base.specs.Forms.{answer}
use Rattle.nfs_base.specs.declared.answer.Answer.TheVariants.{Done}
use Rattle.nfs_base.specs.declared.status.TheConstants.Status.{OFFLOAD_NO_REQS}
use Rattle.wire_xdr.specs.Words.{flag_bytes, word_bytes}
use Rattle.compound_server.specs.PageLaws.{added_as}

pub says_as : {p r : Progress} {x y : List ℕ} → x ≡ y → Says p x r → Says p y r
says_as same says = record { page = added_as same says.page; used = says.used; held = says.held; has_read = says.has_read }

pub no_reqs_spelled : (a b : Bool) → word_bytes OP_COPY ++ (word_bytes OFFLOAD_NO_REQS.number ++ (flag_bytes a ++ flag_bytes b)) ≡ served_bytes (results.Copy (copied.NoReqs a b))
unfolding copy_res copy_answer word_bytes flag_bytes
no_reqs_spelled a b = refl

pub taken_spelled : (v : CopyDone) → word_bytes OP_COPY ++ (word_bytes 0 ++ copy_done.spell v) ≡ served_bytes (results.Copy (copied.Done v))
unfolding copy_res copy_answer word_bytes
taken_spelled v = refl

pub progress_spelled : (v : OffloadProgress) → word_bytes OP_OFFLOAD_STATUS ++ (word_bytes 0 ++ offload_progress.spell v) ≡ served_bytes (results.OffloadStatus (Done v))
unfolding copy_res answer word_bytes
progress_spelled v = refl
