use Rattle.std.proofs.Common.{refl, sym, ap, subst, ◌∙◌}
use Rattle.single_copy.specs.Links.{Brings}
use Rattle.single_copy.specs.Phases.{went_on}
use Rattle.single_copy.specs.Turns.{Hears, terms_of, conduct_of}
use Rattle.client_core.specs.Endings.{ways_of}
use Rattle.single_copy.proofs.Turning.{took_here, took_there}
use Rattle.single_copy.proofs.turns.hear_turn.Goals as goal

pub returns-in_ok-out-in-Whole-clause-some : goal.returns-in_ok-out-in-Whole-clause-some
returns-in_ok-out-in-Whole-clause-some g c = λ copy.
    let m = g.M.Mechanism in
    let terms = terms_of g.L.Stream.gives g.L.Stream.takes
    (conduct_of (ways_of m.mic_of m.derived m.finished m.started m.accepted) g.W.Draws.gives g.W.Draws.faults copy) in
    let out = c.in_ok-out-in-Whole.out in
    let message = c.record.result.now in
    let brings = subst (Brings g.L.Stream.gives g.L.Stream.takes c.args.here.now c.take.new.link) (sym c.record.ensures) c.in-Whole.ensures.0 in
    record {
      turn = record { event = Hears c.args.side message; second = c.now-now.result; out = out };
      message = message;
      event = refl;
      acts = c.in_ok-out-in-Whole.ensures.acts copy;
      moves = record {
        middle = c.take.new.link;
        took = took_here terms c.args.side message c.args.here.now c.take.new.link brings;
        sent = rw c.as_slice.ensures at c.send_all.ensures;
      };
      others = record {
        middle = c.args.there.now;
        took = took_there terms c.args.side message c.args.there.now c.args.there.now refl;
        sent = rw (c.as_slice-in-Whole.ensures, c.other.ensures) at c.send_all-in-Whole.ensures;
      };
      becomes = c.after.ensures ∙ ap (λ r. went_on out.undrawn r c.args.phase) c.report.ensures;
    }
