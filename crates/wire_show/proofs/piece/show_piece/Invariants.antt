use Rattle.std.proofs.Common.{length, take, ◌-◌, ◌+◌, ◌≡◌, ◌≤◌}
use Rattle.std.specs.declared.option.Option.TheVariants.{None}
use Rattle.rpc_msg.specs.Underway.{Open}
use Rattle.wire_show.specs.Showing.{Passed}
use Rattle.wire_show.proofs.piece.show_piece.Given as goal

abbrev pub invariant-feeds : goal.invariant-feeds
invariant-feeds g l =
    Passed (Open l.initial.rest l.initial.feed.under) (Open l.rest l.feed.under) (g.K.Stream.takes l.initial.output).taken (g.K.Stream.takes l.output).taken
    l.initial.number l.number (take l.at l.piece)
    × (l.at ≤ length l.piece) × (l.feed.large ≡ None) × ((g.K.Stream.takes l.initial.output).faults ≤ (g.K.Stream.takes l.output).faults)
    × (l.rest ≤ l.initial.rest + l.at) × (l.number ≤ l.initial.number + l.at)
    × ((g.K.Stream.takes l.output).failing ≡ (g.K.Stream.takes l.initial.output).failing)

abbrev pub decreases-feeds : goal.decreases-feeds
decreases-feeds g l = length l.piece - l.at
