use Rattle.std.proofs.Common.{refl}
use Rattle.client_core.specs.Endings.{ways_of}
use Rattle.single_copy.specs.Turns.{conduct_of, terms_of}
use Rattle.single_copy.proofs.Outcomes.{err_weaker, none_weaker, some_join}
use Rattle.single_copy.proofs.Turning.{begins_on, dest_idles, dest_on, dest_wants, due_by, leaves_on, source_idles, source_on, source_wants}
use Rattle.single_copy.proofs.turns.turn.Goals as goal

pub returns-in_ok-begin_turn-in-Begin-clause-some : goal.returns-in_ok-begin_turn-in-Begin-clause-some
returns-in_ok-begin_turn-in-Begin-clause-some g c =
    let due = due_by c.args.phase c.args.client.now _ _ _ _ c.awaits.ensures c.awaits-2.ensures c.due.ensures c.in-Begin.is in
    begins_on _ _ _ c.args.phase _ c.args.left.now due c.in_ok-begin_turn-in-Begin.ensures.turn

pub returns-in_ok-leave_turn-in-Leave-clause-some : goal.returns-in_ok-leave_turn-in-Leave-clause-some
returns-in_ok-leave_turn-in-Leave-clause-some g c =
    let due = due_by c.args.phase c.args.client.now _ _ _ _ c.awaits.ensures c.awaits-2.ensures c.due.ensures c.in-Leave.is in
    leaves_on _ _ _ c.args.phase _ c.args.left.now due (c.in_ok-leave_turn-in-Leave.ensures.turn c.args.copy)

pub returns-in-Hear-Source-clause-some : goal.returns-in-Hear-Source-clause-some
returns-in-Hear-Source-clause-some g c =
    let m = g.M.Mechanism in
    let terms = terms_of g.L.Stream.gives g.L.Stream.takes
    (conduct_of (ways_of m.mic_of m.derived m.finished m.started m.accepted) g.W.Draws.gives g.W.Draws.faults c.args.copy) in
    let due = due_by c.args.phase c.args.client.now _ _ _ _ c.awaits.ensures c.awaits-2.ensures c.due.ensures (rw c.in-Hear-Source.field-0-is at c.in-Hear-Source.is) in
    some_join c.hear_turn.result _ _ _ c.hear_turn.ensures.some c.hear_turn.ensures.counted
    (λ now h counted. source_on terms (record { source = c.args.source.now; dest = c.args.dest.now; client = c.args.client.now; draws = c.args.draws.now })
    (record { source = c.hear_turn.new.here; dest = c.hear_turn.new.there; client = c.hear_turn.new.client; draws = c.hear_turn.new.draws }) c.args.phase now c.args.left.now (record c.args.left.now { source = c.hear_turn.new.left })
    (record { source = c.requires.source_up; dest = c.requires.dest_up }) due (h c.args.copy) counted refl)

pub returns-in-Hear-Source-clause-none : goal.returns-in-Hear-Source-clause-none
returns-in-Hear-Source-clause-none g c =
    let m = g.M.Mechanism in
    let terms = terms_of g.L.Stream.gives g.L.Stream.takes
    (conduct_of (ways_of m.mic_of m.derived m.finished m.started m.accepted) g.W.Draws.gives g.W.Draws.faults c.args.copy) in
    let due = due_by c.args.phase c.args.client.now _ _ _ _ c.awaits.ensures c.awaits-2.ensures c.due.ensures (rw c.in-Hear-Source.field-0-is at c.in-Hear-Source.is) in
    none_weaker c.hear_turn.result _ _ c.hear_turn.ensures.none
    (λ idles. source_idles terms (record { source = c.args.source.now; dest = c.args.dest.now; client = c.args.client.now; draws = c.args.draws.now })
    (record { source = c.hear_turn.new.here; dest = c.hear_turn.new.there; client = c.hear_turn.new.client; draws = c.hear_turn.new.draws }) c.args.phase c.args.left.now c.hear_turn.new.left
    (record { source = c.requires.source_up; dest = c.requires.dest_up }) due idles)

pub returns-in-Hear-Source-clause-err : goal.returns-in-Hear-Source-clause-err
returns-in-Hear-Source-clause-err g c =
    let m = g.M.Mechanism in
    let terms = terms_of g.L.Stream.gives g.L.Stream.takes
    (conduct_of (ways_of m.mic_of m.derived m.finished m.started m.accepted) g.W.Draws.gives g.W.Draws.faults c.args.copy) in
    let due = due_by c.args.phase c.args.client.now _ _ _ _ c.awaits.ensures c.awaits-2.ensures c.due.ensures (rw c.in-Hear-Source.field-0-is at c.in-Hear-Source.is) in
    err_weaker c.hear_turn.result _ _ c.hear_turn.ensures.err
    (λ short. source_wants terms (record { source = c.args.source.now; dest = c.args.dest.now; client = c.args.client.now; draws = c.args.draws.now }) c.args.phase c.args.left.now
    (record c.args.left.now { source = c.hear_turn.new.left }) c.hear_turn.new.here c.hear_turn.new.there c.hear_turn.new.client due short refl)

pub returns-in-Hear-Dest-clause-some : goal.returns-in-Hear-Dest-clause-some
returns-in-Hear-Dest-clause-some g c =
    let m = g.M.Mechanism in
    let terms = terms_of g.L.Stream.gives g.L.Stream.takes
    (conduct_of (ways_of m.mic_of m.derived m.finished m.started m.accepted) g.W.Draws.gives g.W.Draws.faults c.args.copy) in
    let due = due_by c.args.phase c.args.client.now _ _ _ _ c.awaits.ensures c.awaits-2.ensures c.due.ensures (rw c.in-Hear-Dest.field-0-is at c.in-Hear-Dest.is) in
    some_join c.hear_turn-in-Hear-Dest.result _ _ _ c.hear_turn-in-Hear-Dest.ensures.some c.hear_turn-in-Hear-Dest.ensures.counted
    (λ now h counted. dest_on terms (record { source = c.args.source.now; dest = c.args.dest.now; client = c.args.client.now; draws = c.args.draws.now })
    (record { source = c.hear_turn-in-Hear-Dest.new.there; dest = c.hear_turn-in-Hear-Dest.new.here; client = c.hear_turn-in-Hear-Dest.new.client; draws = c.hear_turn-in-Hear-Dest.new.draws }) c.args.phase now c.args.left.now (record c.args.left.now { dest = c.hear_turn-in-Hear-Dest.new.left })
    (record { source = c.requires.source_up; dest = c.requires.dest_up }) due (h c.args.copy) counted refl)

pub returns-in-Hear-Dest-clause-none : goal.returns-in-Hear-Dest-clause-none
returns-in-Hear-Dest-clause-none g c =
    let m = g.M.Mechanism in
    let terms = terms_of g.L.Stream.gives g.L.Stream.takes
    (conduct_of (ways_of m.mic_of m.derived m.finished m.started m.accepted) g.W.Draws.gives g.W.Draws.faults c.args.copy) in
    let due = due_by c.args.phase c.args.client.now _ _ _ _ c.awaits.ensures c.awaits-2.ensures c.due.ensures (rw c.in-Hear-Dest.field-0-is at c.in-Hear-Dest.is) in
    none_weaker c.hear_turn-in-Hear-Dest.result _ _ c.hear_turn-in-Hear-Dest.ensures.none
    (λ idles. dest_idles terms (record { source = c.args.source.now; dest = c.args.dest.now; client = c.args.client.now; draws = c.args.draws.now })
    (record { source = c.hear_turn-in-Hear-Dest.new.there; dest = c.hear_turn-in-Hear-Dest.new.here; client = c.hear_turn-in-Hear-Dest.new.client; draws = c.hear_turn-in-Hear-Dest.new.draws }) c.args.phase c.args.left.now c.hear_turn-in-Hear-Dest.new.left
    (record { source = c.requires.source_up; dest = c.requires.dest_up }) due idles)

pub returns-in-Hear-Dest-clause-err : goal.returns-in-Hear-Dest-clause-err
returns-in-Hear-Dest-clause-err g c =
    let m = g.M.Mechanism in
    let terms = terms_of g.L.Stream.gives g.L.Stream.takes
    (conduct_of (ways_of m.mic_of m.derived m.finished m.started m.accepted) g.W.Draws.gives g.W.Draws.faults c.args.copy) in
    let due = due_by c.args.phase c.args.client.now _ _ _ _ c.awaits.ensures c.awaits-2.ensures c.due.ensures (rw c.in-Hear-Dest.field-0-is at c.in-Hear-Dest.is) in
    err_weaker c.hear_turn-in-Hear-Dest.result _ _ c.hear_turn-in-Hear-Dest.ensures.err
    (λ short. dest_wants terms (record { source = c.args.source.now; dest = c.args.dest.now; client = c.args.client.now; draws = c.args.draws.now }) c.args.phase c.args.left.now
    (record c.args.left.now { dest = c.hear_turn-in-Hear-Dest.new.left }) c.hear_turn-in-Hear-Dest.new.there c.hear_turn-in-Hear-Dest.new.here c.hear_turn-in-Hear-Dest.new.client due short refl)
