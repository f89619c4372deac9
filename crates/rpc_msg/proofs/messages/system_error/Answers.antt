use Rattle.std.proofs.Common.{refl}
use Rattle.wire_xdr.specs.Words.{word_bytes, opaque_bytes, fixed_bytes}
use Rattle.rpc_msg.specs.Heads.{reply, auth, stat}
use Rattle.rpc_msg.proofs.messages.system_error.Goals as goal

pub returns : goal.returns
unfolding reply auth stat word_bytes opaque_bytes fixed_bytes
returns c = rw c.to_be_bytes-number.ensures refl
