use Rattle.std.proofs.Common.{◌≡◌, ◌+◌, ◌-◌, length}
use Rattle.streams.proofs.Progress.{HasTaken}
use Rattle.streams.proofs.whole.read_whole.Given as goal

abbrev pub invariant-takes : goal.invariant-takes
invariant-takes g l =
    HasTaken (g.S.Stream.gives l.initial.source).left (g.S.Stream.gives l.source).left
    (g.S.Stream.gives l.initial.source).faults (g.S.Stream.gives l.source).faults l.text.items
    × ((g.S.Stream.gives l.source).whole ≡ (g.S.Stream.gives l.initial.source).whole)
    × ((g.S.Stream.gives l.source).failing ≡ (g.S.Stream.gives l.initial.source).failing)
    × (g.S.Stream.takes l.source ≡ g.S.Stream.takes l.initial.source)

abbrev pub decreases-takes : goal.decreases-takes
decreases-takes g l = l.limit + 1 - length l.text.items
