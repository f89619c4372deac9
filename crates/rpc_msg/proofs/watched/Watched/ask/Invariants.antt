use Rattle.std.proofs.Common.{◌≡◌, ◌<◌, ◌≤◌, ◌-◌}
use Rattle.streams.specs.Stream.{left_of}
use Rattle.rpc_msg.specs.Watching.{bytes_limit, no_signs}
use Rattle.rpc_msg.proofs.Watching.{Quiet}
use Rattle.rpc_msg.proofs.watched.Watched.ask.Given as goal

abbrev pub invariant-takes : goal.invariant-takes
invariant-takes g l =
    Quiet (left_of g.L.Stream.gives) l.initial.self l.self × (l.self.signs ≡ no_signs) × (l.self.count < bytes_limit)
    × ((g.L.Stream.gives l.initial.self.link).faults ≤ (g.L.Stream.gives l.self.link).faults)
    × ((g.L.Stream.gives l.self.link).whole ≡ (g.L.Stream.gives l.initial.self.link).whole)
    × ((g.L.Stream.gives l.self.link).failing ≡ (g.L.Stream.gives l.initial.self.link).failing)
    × (g.L.Stream.takes l.self.link ≡ g.L.Stream.takes l.initial.self.link)

abbrev pub decreases-takes : goal.decreases-takes
decreases-takes g l = bytes_limit - l.self.count
