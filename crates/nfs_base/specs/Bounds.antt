-- Numbers below the bounds of their types, and bytes within their limits.
use Rattle.std.specs.Prelude.{ℕ, ◌<◌, ◌≤◌, ◌^◌, List, length}
use Rattle.nfs_base.specs.declared.limits.TheConstants.{HANDLE_LIMIT}
use Rattle.nfs_base.specs.declared.state_id.StateId.{StateId}
use Rattle.wire_xdr.specs.Cursor.{IsBytes}

-- a file's handle (nfs_fh4)
pub record HandleFits (handle : List ℕ) : Type 0 where
  pub least : 1 ≤ length handle
  pub short : length handle ≤ HANDLE_LIMIT
  pub are_bytes : IsBytes handle

pub record StateIdFits (id : StateId) : Type 0 where
  pub seqid : id.seqid < 2 ^ 32
  pub kind : id.kind < 2 ^ 32
  pub boot : id.boot < 2 ^ 32
  pub number : id.number < 2 ^ 32
