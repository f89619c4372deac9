use Rattle.std.proofs.Common.{◌≡◌, ℕ, List, ◌++◌, refl, sym}
use Rattle.file_ops.specs.Parms.{channel_attrs}
use Rattle.nfs_base.specs.declared.limits.TheConstants.{MOST_OPERATIONS, SLOTS}
use Rattle.rpc_msg.specs.declared.records.TheConstants.{RECORD_LIMIT}
use Rattle.wire_xdr.specs.Parts.{option_spell}
use Rattle.wire_xdr.specs.Words.{word_bytes, flag_bytes}
use Rattle.compound_server.specs.Clients.{channel}
use Rattle.compound_server.specs.PageLaws.{added_then, added_as}
use Rattle.compound_server.proofs.clients.put_channel.Goals as goal

abbrev text : List ℕ
text =
    word_bytes 0 ++ (word_bytes RECORD_LIMIT ++ (word_bytes RECORD_LIMIT ++ (word_bytes RECORD_LIMIT ++ (word_bytes MOST_OPERATIONS ++ (word_bytes SLOTS ++ word_bytes 0)))))

spelled : channel_attrs.spell channel ≡ text
unfolding channel_attrs option_spell flag_bytes word_bytes
spelled = refl

pub returns-clause-added : goal.returns-clause-added
returns-clause-added c =
    added_as (sym spelled)
    (added_then c.u32.ensures.added (added_then c.u32-2.ensures.added (added_then c.u32-3.ensures.added (added_then c.u32-4.ensures.added
    (added_then c.u32-5.ensures.added (added_then c.u32-6.ensures.added c.u32-7.ensures.added))))))
