use Rattle.std.proofs.Common.{◌≡◌}
use Rattle.wire_log.specs.Keeping.{all_kept}
use Rattle.wire_log.proofs.log.made_of.Given as goal

abbrev pub invariant-loop-outgoing : goal.invariant-loop-outgoing
invariant-loop-outgoing l = l.made.items ≡ all_kept l.at l.yielded
