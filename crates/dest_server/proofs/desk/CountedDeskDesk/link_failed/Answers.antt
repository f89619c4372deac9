use Rattle.std.proofs.Common.{arith}
use Rattle.dest_server.specs.Coming.{core_words, OfFailure}
use Rattle.dest_server.proofs.Going.{comes_failed, core_same, core_same_on_err}
use Rattle.dest_server.proofs.desk.CountedDeskDesk.link_failed.Goals as goal

pub invariant_of-self : goal.invariant_of-self
invariant_of-self g c =
    let old = c.self.inside.desk in
    let new = c.link_failed.new.self in
    let failed = c.link_failed.ensures.loss in
    record {
      few = omega (arith, c.self.invariant.few, failed.later);
      came = comes_failed (core_words g.K.Core.takes_record g.K.Core.ticks g.K.Core.works g.K.Core.takes_reply g.K.Core.fails_link) g.Q.Origin.origin
          (λ before out after. g.K.Core.fails_link c.args.worker before out after) old.core new.core (g.K.Core.steps old.core) c.link_failed.result
          (λ out fails. OfFailure c.args.worker out fails) failed.step (λ full. core_same old new (failed.full full).1)
          (core_same_on_err c.link_failed.result old new failed.err) c.self.invariant.came;
    }
