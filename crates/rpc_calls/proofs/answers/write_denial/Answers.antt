use Rattle.rpc_calls.proofs.ReplyLemmas.{denied_fits}
use Rattle.rpc_calls.proofs.answers.write_denial.Goals as goal

pub write_reply-requires : goal.write_reply-requires
write_reply-requires c = denied_fits c.args.xid c.args.why c.ranges.xid.fits c.requires
