use Rattle.std.proofs.Common.{refl, sym, ap, ◌∙◌, arith}
use Rattle.std.proofs.lemmas.Bool.{false≢true}
use Rattle.single_copy.specs.Turns.{Leaves}
use Rattle.single_copy.proofs.turns.leave_turn.Goals as goal

pub returns-clause-turn : goal.returns-clause-turn
returns-clause-turn g c = λ copy.
    let out = c.in_ok-out.out in
    record {
      turn = record { event = Leaves; second = c.now-now.result; out = out };
      event_is = refl;
      is = record {
        up = record { source = c.requires.source_up; dest = c.requires.dest_up };
        due = sym c.requires.due;
        acts = record {
          does = (c.in_ok-out.ensures.is, refl);
          undrawn = λ failed. absurd (false≢true (sym (ap (λ e. e.1.undrawn) c.in_ok-out.ensures.is) ∙ failed));
          later = omega arith;
        };
        source = record { middle = c.args.source.now; took = refl; sent = rw c.as_slice.ensures at c.send_all.ensures };
        dest = record { middle = c.args.dest.now; took = refl; sent = rw c.as_slice-2.ensures at c.send_all-2.ensures };
        becomes = c.parted.ensures;
      };
    }
