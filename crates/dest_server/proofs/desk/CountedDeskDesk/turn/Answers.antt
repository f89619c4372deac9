use Rattle.std.proofs.Common.{arith}
use Rattle.std.specs.Prelude.{option_copied}
use Rattle.dest_server.specs.Coming.{core_words, OfReply, OfTurn}
use Rattle.dest_server.proofs.Going.{comes_turn}
use Rattle.dest_server.proofs.desk.CountedDeskDesk.turn.Goals as goal

pub invariant_of-self : goal.invariant_of-self
invariant_of-self g c =
    let old = c.self.inside.desk in
    let new = c.turn.new.self in
    let ran = c.turn.ensures.turn in
    record {
      few = omega (arith, c.self.invariant.few, ran.later);
      came = comes_turn (core_words g.K.Core.takes_record g.K.Core.ticks g.K.Core.works g.K.Core.takes_reply g.K.Core.fails_link) g.Q.Origin.origin
          (g.K.Core.works c.args.worker) (g.K.Core.takes_reply c.args.worker) c.args.worker (option_copied c.args.reply) old c.turn.result new
          g.K.Core.steps (λ now told step. OfTurn c.args.worker now old.draws new.draws told step)
          (λ message now told step. OfReply c.args.worker message now told step) ran c.self.invariant.came;
    }
