use Rattle.rpc_calls.proofs.ReplyLemmas.{plain_fits}
use Rattle.rpc_calls.proofs.answers.write_plain.Goals as goal

pub write_reply-requires : goal.write_reply-requires
write_reply-requires c = rw c.none.ensures (plain_fits c.args.xid c.args.what c.ranges.xid.fits c.requires)
