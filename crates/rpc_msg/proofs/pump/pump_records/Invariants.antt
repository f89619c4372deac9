use Rattle.std.proofs.Common.{◌≡◌, ◌≤◌}
use Rattle.rpc_msg.specs.Serving.{state_of}
use Rattle.rpc_msg.proofs.Pumping.{Running}
use Rattle.rpc_msg.proofs.pump.pump_records.Given as goal

abbrev pub invariant-takes : goal.invariant-takes
invariant-takes g l =
    Running g.H.Handler.answers (state_of 0 l.initial.feed) l.rest l.feed l.initial.handler l.handler
    (g.K.Stream.takes l.initial.sink) (g.K.Stream.takes l.sink) l.initial.left l.left
    (g.S.Stream.gives l.initial.source).left (g.S.Stream.gives l.source).left l.unspent l.budget
    × ((g.S.Stream.gives l.initial.source).faults ≤ (g.S.Stream.gives l.source).faults) × ((g.S.Stream.gives l.source).failing ≡ (g.S.Stream.gives l.initial.source).failing)
    × ((g.K.Stream.takes l.initial.sink).faults ≤ (g.K.Stream.takes l.sink).faults) × ((g.K.Stream.takes l.sink).failing ≡ (g.K.Stream.takes l.initial.sink).failing)
    × ((g.S.Stream.gives l.source).whole ≡ (g.S.Stream.gives l.initial.source).whole)
    × (g.S.Stream.takes l.source ≡ g.S.Stream.takes l.initial.source) × (g.K.Stream.gives l.sink ≡ g.K.Stream.gives l.initial.sink)

abbrev pub decreases-takes : goal.decreases-takes
decreases-takes g l = l.unspent
