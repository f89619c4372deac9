use Rattle.std.proofs.Common.{◌≡◌, ◌≤◌, ◌-◌, ◌++◌, take, drop, length, All}
use Rattle.copy_workers.specs.Desk.{IsSmall}
use Rattle.core_desk.specs.Kept.{kept_of, passed_of}
use Rattle.core_desk.proofs.desk.take_calls.Given as goal

abbrev pub invariant-calls : goal.invariant-calls
invariant-calls l = record {
  within : l.at ≤ length l.sent.items;
  small : All IsSmall l.sent.items;
  passed : passed_of l.fn.sent.items ≡ take l.at l.sent.items ++ passed_of (drop l.at l.sent.items);
  kept : kept_of l.fn.sent.items l.fn.kept ≡ kept_of (drop l.at l.sent.items) l.kept;
}

abbrev pub decreases-calls : goal.decreases-calls
decreases-calls l = length l.sent.items - l.at
