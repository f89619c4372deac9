use Rattle.job_log.specs.Log.{given_back}
use Rattle.job_book.proofs.Logged.{within_logged}
use Rattle.job_book.proofs.book.Book.give_back.Goals as goal

pub invariant_of-self : goal.invariant_of-self
invariant_of-self c =
    within_logged c.self.inside.past c.self.inside.jobs c.give_back.new.self c.id_of.result (λ log. given_back log c.args.chunk) c.give_back.ensures c.self.invariant
