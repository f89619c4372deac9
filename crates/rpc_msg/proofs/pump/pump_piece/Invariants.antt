use Rattle.std.proofs.Common.{length, take, ◌-◌, ◌+◌, ◌≡◌, ◌≤◌, ◌<◌}
use Rattle.std.specs.declared.option.Option.TheVariants.{None}
use Rattle.std.specs.Io.KnownBytes.{Appends}
use Rattle.rpc_msg.specs.Underway.{Open}
use Rattle.rpc_msg.specs.Serving.{Passed}
use Rattle.rpc_msg.proofs.pump.pump_piece.Given as goal

abbrev pub invariant-feeds : goal.invariant-feeds
invariant-feeds g l =
    Passed g.H.Handler.answers Appends (Open l.initial.rest l.initial.feed.under) (Open l.rest l.feed.under) l.initial.handler l.handler
    (g.K.Stream.takes l.initial.sink) (g.K.Stream.takes l.sink) l.initial.left l.left (take l.at l.piece)
    × (l.at ≤ length l.piece) × (l.feed.large ≡ None) × (0 < l.left)
    × ((g.K.Stream.takes l.initial.sink).faults ≤ (g.K.Stream.takes l.sink).faults) × ((g.K.Stream.takes l.sink).failing ≡ (g.K.Stream.takes l.initial.sink).failing)
    × (l.rest ≤ l.initial.rest + l.at) × (g.K.Stream.gives l.sink ≡ g.K.Stream.gives l.initial.sink)

abbrev pub decreases-feeds : goal.decreases-feeds
decreases-feeds g l = length l.piece - l.at
