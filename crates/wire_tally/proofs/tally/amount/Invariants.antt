use Rattle.std.proofs.Common.{◌≡◌, drop, None}
use Rattle.wire_tally.specs.Tally.{amount_from}
use Rattle.wire_tally.proofs.tally.amount.Given as goal

abbrev pub invariant-loop-byte : goal.invariant-loop-byte
invariant-loop-byte l = amount_from l.so_far (drop l.byte-index l.line) ≡ amount_from None l.line
