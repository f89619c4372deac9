use Rattle.std.proofs.Common.{◌≡◌}
use Rattle.client_core.specs.Endings.{ways_of}
use Rattle.single_copy.specs.Stepping.{turns_left}
use Rattle.single_copy.specs.Turns.{conduct_of, terms_of}
use Rattle.single_copy.proofs.Looping.{Went}
use Rattle.single_copy.proofs.copying.make_turns.Given as goal

abbrev pub invariant-turns : goal.invariant-turns
invariant-turns g l =
    let m = g.M.Mechanism in
    record {
      went : Went
          (terms_of g.L.Stream.gives g.L.Stream.takes (conduct_of (ways_of m.mic_of m.derived m.finished m.started m.accepted) g.W.Draws.gives g.W.Draws.faults l.copy))
          (record { source = l.fn.source; dest = l.fn.dest; client = l.fn.client; draws = l.fn.draws })
          (record { source = l.source; dest = l.dest; client = l.client; draws = l.draws }) l.phase l.left;
      failing : g.W.Draws.failing l.draws ≡ g.W.Draws.failing l.fn.draws;
    }

abbrev pub decreases-turns : goal.decreases-turns
decreases-turns g l = turns_left l.phase l.left
