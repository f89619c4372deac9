use Rattle.std.proofs.Common.{subst}
use Rattle.wire_xdr.specs.Cursor.{IsBytes}
use Rattle.nfs_base.proofs.Handles.{within}
use Rattle.nfs_base.proofs.handle.parse_octets.Goals as goal

pub returns-clause-limits : goal.returns-clause-limits
returns-clause-limits c = within _ _ _ (subst IsBytes c.rest-rest.ensures.rest c.rest-rest.ensures.bytes) c.parse_between.ensures
