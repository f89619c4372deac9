-- How many bytes a reply has, by its results.
use Rattle.std.proofs.Common.{ℕ, ◌+◌, ◌≤◌, ◌++◌, length, arith, lit<}
use Rattle.std.specs.Prelude.{sum_by}
use Rattle.std.proofs.lemmas.List.{length-append}
use Rattle.wire_xdr.specs.Words.{word_bytes, opaque_bytes}
use Rattle.wire_xdr.specs.Parts.{list_spell}
use Rattle.wire_xdr.specs.LengthLaws.{IsSized, word_length, list_sized, opaque_bounded}
use Rattle.nfs_base.specs.declared.limits.TheConstants.{TEXT_LIMIT}
use Rattle.nfs_base.specs.Forms.{status}
use Rattle.nfs_base.specs.LengthLaws.{status_bounded}
use Rattle.copy_ops.specs.LengthLaws.{places_most, copy_res_bounded}
use Rattle.file_ops.specs.LengthLaws.{file_res_size, file_res_sized}
use Rattle.nfs_compound.specs.declared.res.Res.{Res}
use Rattle.nfs_compound.specs.declared.res.Res.TheVariants.{Copy, File, Bare}
use Rattle.nfs_compound.specs.declared.reply.Reply.{Reply}
use Rattle.nfs_compound.specs.Results.{failure, res_body, outcome, reply}
use Rattle.copy_ops.specs.Forms.{copy_res, copy_res_number}
use Rattle.file_ops.specs.Results.{file_res, file_res_number}

-- how many bytes a result has at most, its operation's number included
abbrev pub res_size : Res → ℕ
res_size (Copy v) = 36 + places_most
res_size (File v) = 4 + file_res_size v
res_size (Bare op s) = 8

pub outcome_sized : IsSized outcome res_size
unfolding outcome res_body
outcome_sized (Copy v) fits =
    let n = copy_res_number v in
    omega (arith, length-append (word_bytes n) ((copy_res n).spell v), word_length n, copy_res_bounded n v fits.1.1)
outcome_sized (File v) fits =
    let n = file_res_number v in
    omega (arith, length-append (word_bytes n) ((file_res n).spell v), word_length n, file_res_sized n v fits.1.2)
outcome_sized (Bare op s) fits = omega (arith, length-append (word_bytes op) (failure.spell s), word_length op, status_bounded s fits.1.3.1)

-- a status, a tag, and the results behind their count
pub reply_sized : (v : Reply) → reply.Fits v → length (reply.spell v) ≤ TEXT_LIMIT + 15 + sum_by res_size v.results
unfolding reply
reply_sized v fits =
    omega (
      arith,
      length-append (status.spell v.status) (opaque_bytes v.tag ++ list_spell outcome v.results),
      length-append (opaque_bytes v.tag) (list_spell outcome v.results),
      status_bounded v.status fits.0,
      opaque_bounded TEXT_LIMIT (lit< tt) v.tag fits.1.0,
      list_sized outcome res_size outcome_sized v.results fits.1.1.1,
    )
