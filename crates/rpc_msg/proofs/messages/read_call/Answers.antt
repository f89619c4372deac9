use Rattle.std.proofs.Common.{refl}
use Rattle.rpc_msg.specs.Heads.{call}
use Rattle.rpc_msg.proofs.HeadLaws.{call_kind, reads_head}
use Rattle.rpc_msg.proofs.messages.read_call.Goals as goal

pub returns : goal.returns
returns c = reads_head call 1 0 call_kind refl c.args.bytes.now c.read_head.result c.read_head.ensures.exact c.read_head.ensures.found
