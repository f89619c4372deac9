use Rattle.std.proofs.Common.{◌≡◌, ℕ, List, ◌++◌, sym, ap, append-nil}
use Rattle.copy_ops.specs.Forms.{notify_grant}
use Rattle.nfs_base.specs.Forms.{net_loc, state_id, time}
use Rattle.nfs_base.specs.declared.limits.TheConstants.{LEASE_SECONDS}
use Rattle.nfs_base.specs.declared.net_loc.NetLoc.{NetLoc}
use Rattle.nfs_base.specs.declared.state_id.StateId.{StateId}
use Rattle.wire_xdr.specs.Parts.{list_spell}
use Rattle.wire_xdr.specs.Words.{hyper_bytes, signed_bytes, word_bytes}
use Rattle.source_core.specs.Serving.{grant_told}
use Rattle.compound_server.specs.PageLaws.{added_as, added_then}
use Rattle.source_core.proofs.granting.put_grant.Goals as goal

grant_spelled : (id : StateId) (own : NetLoc)
    → notify_grant.spell (grant_told id own) ≡ hyper_bytes LEASE_SECONDS ++ (word_bytes 0 ++ (state_id.spell id ++ (word_bytes 1 ++ net_loc.spell own)))
unfolding notify_grant time list_spell signed_bytes hyper_bytes word_bytes
grant_spelled id own =
    ap (λ (bytes : List ℕ). hyper_bytes LEASE_SECONDS ++ (word_bytes 0 ++ (state_id.spell id ++ (word_bytes 1 ++ bytes)))) (append-nil (net_loc.spell own))

pub returns-clause-added : goal.returns-clause-added
returns-clause-added c =
    added_as (sym (grant_spelled c.args.id.now c.args.own.now))
    (added_then c.u64.ensures.added (added_then c.u32.ensures.added (added_then c.put_state_id.ensures.added (added_then c.u32-2.ensures.added c.put.ensures.added))))
