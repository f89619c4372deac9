use Rattle.std.proofs.Common.{◌≡◌, ◌≤◌, drop, slice_range}
use Rattle.wire_tally.specs.Tally.{tallied, tally_from}
use Rattle.wire_tally.proofs.Growth.{GrewBy}
use Rattle.wire_tally.proofs.tally.Tally.add.Given as goal

abbrev pub invariant-loop-at : goal.invariant-loop-at
invariant-loop-at l = record {
  within : l.start ≤ l.at;
  grew : GrewBy l.at l.fn.self l.self;
  counted : tally_from (slice_range l.text l.start l.at) (drop l.at l.text) l.self ≡ tallied l.text l.fn.self;
}
