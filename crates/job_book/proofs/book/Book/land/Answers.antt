use Rattle.job_log.specs.Log.{after_landing}
use Rattle.job_book.proofs.Logged.{within_logged}
use Rattle.job_book.proofs.book.Book.land.Goals as goal

pub invariant_of-self : goal.invariant_of-self
invariant_of-self c =
    within_logged c.self.inside.past c.self.inside.jobs c.land.new.self c.id_of.result (λ log. after_landing log c.args.chunk c.land.result) c.land.ensures.done c.self.invariant
