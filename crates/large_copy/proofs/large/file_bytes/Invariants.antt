use Rattle.std.proofs.Common.{◌≡◌}
use Rattle.large_copy.specs.Large.{file_bytes}
use Rattle.large_copy.proofs.large.file_bytes.Given as goal

abbrev pub invariant-loop-k : goal.invariant-loop-k
invariant-loop-k l = l.bytes.items ≡ file_bytes l.off l.k
