use Rattle.std.proofs.Common.{◌≡◌, ◌≤◌}
use Rattle.wire_show.proofs.Streams.{Running}
use Rattle.wire_show.proofs.show.do_show.Given as goal

abbrev pub invariant-takes : goal.invariant-takes
invariant-takes g l =
    Running l.rest l.feed (g.K.Stream.takes l.initial.output).taken (g.K.Stream.takes l.output).taken l.number
    (g.S.Stream.gives l.initial.input).left (g.S.Stream.gives l.input).left l.unspent
    × ((g.S.Stream.gives l.initial.input).faults ≤ (g.S.Stream.gives l.input).faults) × ((g.K.Stream.takes l.initial.output).faults ≤ (g.K.Stream.takes l.output).faults)
    × ((g.S.Stream.gives l.input).failing ≡ (g.S.Stream.gives l.initial.input).failing) × ((g.K.Stream.takes l.output).failing ≡ (g.K.Stream.takes l.initial.output).failing)

abbrev pub decreases-takes : goal.decreases-takes
decreases-takes g l = l.unspent
