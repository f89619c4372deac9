-- The arguments of a CREATE are short.
use Rattle.std.proofs.Common.{◌<◌, ◌≤◌, ◌++◌, length, arith, lit<}
use Rattle.std.proofs.lemmas.List.{length-append}
use Rattle.wire_xdr.specs.Words.{word_bytes, opaque_bytes}
use Rattle.wire_xdr.specs.LengthLaws.{word_length, opaque_bounded}
use Rattle.nfs_base.specs.declared.limits.TheConstants.{NAME_LIMIT, PRIVILEGE_LIMIT}
use Rattle.gss_ctx.specs.declared.create.Create.{Create}
use Rattle.gss_ctx.specs.Forms.{create}
use Rattle.session_calls.specs.declared.compound.TheConstants.{LONGEST_CALL}

pub create_short : (v : Create) → length v.name ≤ NAME_LIMIT → length v.privilege ≤ PRIVILEGE_LIMIT → length (create.spell v) < LONGEST_CALL
unfolding create
create_short v name privilege =
    omega (
      arith,
      length-append (word_bytes 1) (word_bytes 1 ++ (opaque_bytes v.name ++ opaque_bytes v.privilege)),
      length-append (word_bytes 1) (opaque_bytes v.name ++ opaque_bytes v.privilege),
      length-append (opaque_bytes v.name) (opaque_bytes v.privilege),
      word_length 1,
      opaque_bounded NAME_LIMIT (lit< tt) v.name name,
      opaque_bounded PRIVILEGE_LIMIT (lit< tt) v.privilege privilege,
    )
