use Rattle.std.proofs.Common.{◌≡◌, ◌-◌, ◌^◌, take}
use Rattle.std.specs.Prelude.{min}
use Rattle.wire_log.specs.Keeping.{sent_bytes}
use Rattle.wire_run.proofs.settling.size_of.Given as goal

abbrev pub invariant-loop-outgoing : goal.invariant-loop-outgoing
invariant-loop-outgoing l = l.size ≡ min (sent_bytes (take l.outgoing-index l.records)) (2 ^ 64 - 1)
