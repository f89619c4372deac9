use Rattle.job_log.specs.Log.{sized}
use Rattle.job_book.proofs.Logged.{within_logged}
use Rattle.job_book.proofs.book.Book.size.Goals as goal

pub invariant_of-self : goal.invariant_of-self
invariant_of-self c =
    within_logged c.self.inside.past c.self.inside.jobs c.size.new.self c.id_of.result (λ log. sized log c.args.len) c.size.ensures c.self.invariant
