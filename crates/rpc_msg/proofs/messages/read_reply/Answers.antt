use Rattle.std.proofs.Common.{refl}
use Rattle.rpc_msg.specs.Heads.{reply}
use Rattle.rpc_msg.proofs.HeadLaws.{reply_kind, reads_head}
use Rattle.rpc_msg.proofs.messages.read_reply.Goals as goal

pub returns : goal.returns
returns c = reads_head reply 0 1 reply_kind refl c.args.bytes.now c.read_head.result c.read_head.ensures.exact c.read_head.ensures.found
