use Rattle.std.proofs.Common.{◌≡◌, ◌-◌, length}
use Rattle.streams.proofs.Progress.{HasPut, HasOffered}
use Rattle.streams.proofs.whole.put_all.Given as goal

abbrev pub invariant-puts : goal.invariant-puts
invariant-puts g l =
    HasPut (g.K.Stream.takes l.initial.sink).taken (g.K.Stream.takes l.sink).taken
    (g.K.Stream.takes l.initial.sink).faults (g.K.Stream.takes l.sink).faults l.bytes l.at
    × ((g.K.Stream.takes l.sink).failing ≡ (g.K.Stream.takes l.initial.sink).failing)
    × (g.K.Stream.gives l.sink ≡ g.K.Stream.gives l.initial.sink)
    × HasOffered (g.K.Stream.takes l.initial.sink).pieces (g.K.Stream.takes l.sink).pieces l.bytes l.at

abbrev pub decreases-puts : goal.decreases-puts
decreases-puts g l = length l.bytes - l.at
