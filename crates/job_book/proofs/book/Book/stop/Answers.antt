use Rattle.job_book.specs.Working.{stopped}
use Rattle.job_book.proofs.Logged.{within_logged}
use Rattle.job_book.proofs.book.Book.stop.Goals as goal

pub invariant_of-self : goal.invariant_of-self
invariant_of-self c =
    within_logged c.self.inside.past c.self.inside.jobs c.stop.new.self c.id_of.result (λ log. stopped c.args.cause log) c.stop.ensures c.self.invariant
