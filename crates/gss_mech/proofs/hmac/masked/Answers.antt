use Rattle.std.proofs.Common.{arith}
use Rattle.gss_mech.proofs.Masks.{turn_one}
use Rattle.gss_mech.proofs.hmac.masked.Goals as goal

pub loop-byte-preserved : goal.loop-byte-preserved
loop-byte-preserved c =
    turn_one c.args.pad c.loop-byte.byte-index c.args.block c.loop-byte.byte-items (omega arith) c.loop-byte.invariant
