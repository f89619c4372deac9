use Rattle.std.proofs.Common.{length, drop, ◌-◌, ◌≡◌, ◌≤◌, false}
use Rattle.std.specs.declared.option.Option.TheVariants.{None}
use Rattle.rpc_msg.specs.Underway.{cut}
use Rattle.rpc_msg.proofs.records.RecordFeed.feed.Given as goal

abbrev pub invariant-parts : goal.invariant-parts
invariant-parts l =
    (l.at ≤ length l.piece) × (l.self-inside.whole ≡ false) × (l.self-inside.large ≡ None)
    × (cut l.fn.self.under l.piece ≡ cut l.self-inside.fragments (drop l.at l.piece))

abbrev pub decreases-parts : goal.decreases-parts
decreases-parts l = length l.piece - l.at
