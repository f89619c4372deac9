use Rattle.copy_model.specs.Job.{Committed}
use Rattle.job_log.specs.Log.{with_entry}
use Rattle.job_book.proofs.Logged.{within_logged}
use Rattle.job_book.proofs.book.Book.committed.Goals as goal

pub invariant_of-self : goal.invariant_of-self
invariant_of-self c =
    within_logged c.self.inside.past c.self.inside.jobs c.committed.new.self c.id_of.result (λ log. with_entry log Committed) c.committed.ensures c.self.invariant
