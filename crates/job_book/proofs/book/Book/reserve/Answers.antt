use Rattle.job_book.proofs.Logged.{within_roomy}
use Rattle.job_book.proofs.book.Book.reserve.Goals as goal

pub invariant_of-self : goal.invariant_of-self
invariant_of-self c =
    within_roomy c.self.inside.past c.self.inside.jobs c.reserve.new.self c.id_of.result c.args.len c.reserve.result
    c.reserve.ensures.room c.reserve.ensures.err c.self.invariant
