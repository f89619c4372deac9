use Rattle.std.proofs.Common.{arith}
use Rattle.core_desk.specs.Core.{passed_sent}
use Rattle.dest_server.specs.Coming.{core_words, OfTick}
use Rattle.dest_server.proofs.Going.{comes_by, core_same, core_same_on_err}
use Rattle.dest_server.proofs.desk.CountedDeskHost.tick.Goals as goal

pub invariant_of-self-2 : goal.invariant_of-self-2
invariant_of-self-2 g c =
    let old = c.self.inside.desk in
    let new = c.tick.new.self in
    let ran = c.tick.ensures in
    record {
      few = omega (arith, c.self.invariant.few, ran.later);
      came = comes_by (core_words g.K.Core.takes_record g.K.Core.ticks g.K.Core.works g.K.Core.takes_reply g.K.Core.fails_link) g.Q.Origin.origin
          g.K.Core.ticks passed_sent old.core new.core (g.K.Core.steps old.core) c.tick.result (λ now told step. OfTick now told step) ran.step
          (λ full. core_same old new (ran.full full).1) (core_same_on_err c.tick.result old new ran.err) c.self.invariant.came;
    }
