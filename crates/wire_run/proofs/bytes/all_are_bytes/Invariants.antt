use Rattle.std.proofs.Common.{take}
use Rattle.run_ends.specs.Handling.{AreBytes}
use Rattle.wire_run.proofs.bytes.all_are_bytes.Given as goal

abbrev pub invariant-loop-outgoing : goal.invariant-loop-outgoing
invariant-loop-outgoing l = AreBytes (take l.outgoing-index l.records)
