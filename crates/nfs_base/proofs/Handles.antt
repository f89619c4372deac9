use Rattle.std.proofs.Common.{◌≤◌, ℕ, List, length, Result, Ok, Err, IfOk, lit<}
use Rattle.nfs_base.specs.declared.limits.TheConstants.{HANDLE_LIMIT}
use Rattle.wire_xdr.specs.declared.form.bad.ReadError.{ReadError}
use Rattle.wire_xdr.specs.Cursor.{Cursor, IsBytes}
use Rattle.wire_xdr.specs.Reads.{Reads}
use Rattle.wire_xdr.specs.WordReads.{between_read}
use Rattle.wire_xdr.specs.WordLaws.{between_is}

-- what was read is within the limits of its form
pub within : (r : Result (List ℕ) ReadError) (old new : Cursor) → IsBytes old.rest → Reads r new (between_read 1 HANDLE_LIMIT old)
    → IfOk r (λ octets. (1 ≤ length octets) × (length octets ≤ HANDLE_LIMIT))
within (Ok octets) old new bytes read = ((between_is 1 HANDLE_LIMIT (lit< tt)).takes old octets new bytes read).1
within (Err e) old new bytes read = tt
