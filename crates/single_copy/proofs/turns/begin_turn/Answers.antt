use Rattle.std.proofs.Common.{refl, sym, ap, ◌∙◌}
use Rattle.single_copy.specs.Phases.{went_on}
use Rattle.single_copy.specs.Turns.{Begins}
use Rattle.single_copy.proofs.turns.begin_turn.Goals as goal

pub returns-clause-turn : goal.returns-clause-turn
returns-clause-turn g c =
    let out = c.in_ok-out.out in
    record {
      turn = record { event = Begins; second = c.now-now.result; out = out };
      event_is = refl;
      is = record {
        up = record { source = c.requires.source_up; dest = c.requires.dest_up };
        due = sym c.requires.due;
        acts = record {
          does = record { step = c.in_ok-out.ensures.is; source = refl; dest = refl };
          undrawn = c.in_ok-out.ensures.undrawn;
          later = c.begin_copy.ensures.later;
        };
        source = record { middle = c.args.source.now; took = refl; sent = rw c.as_slice.ensures at c.send_all.ensures };
        dest = record { middle = c.args.dest.now; took = refl; sent = rw c.as_slice-2.ensures at c.send_all-2.ensures };
        becomes = c.after.ensures ∙ ap (λ r. went_on out.undrawn r c.args.phase) c.report.ensures;
      };
    }
