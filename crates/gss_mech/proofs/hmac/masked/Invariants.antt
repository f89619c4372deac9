use Rattle.std.proofs.Common.{◌≡◌, ◌++◌, take, drop}
use Rattle.gss_mech.specs.Hmac.{masked}
use Rattle.gss_mech.proofs.hmac.masked.Given as goal

abbrev pub invariant-loop-byte : goal.invariant-loop-byte
invariant-loop-byte l = l.byte-items ≡ masked l.pad (take l.byte-index l.fn.block) ++ drop l.byte-index l.fn.block
