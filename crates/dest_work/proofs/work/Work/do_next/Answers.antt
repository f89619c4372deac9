use Rattle.std.proofs.Common.{◌≡◌, ◌∙◌, sym, ap, Option, Some}
use Rattle.std.proofs.lemmas.Result.{on_err_weaker}
use Rattle.dest_tasks.specs.Tasks.{after_task}
use Rattle.dest_tasks.specs.declared.tasks.Task.{Task}
use Rattle.dest_tasks.specs.declared.tasks.Task.TheVariants.{Read}
use Rattle.job_book.specs.Working.{claimed, with_its}
use Rattle.job_log.specs.Log.{given_back}
use Rattle.nfs_base.specs.declared.limits.TheConstants.{MOST_JOBS}
use Rattle.dest_work.specs.Work.{sight_at}
use Rattle.dest_work.proofs.work.Work.do_next.Goals as goal

-- a chunk that was claimed and is given back leaves the book as it was
pub returns-in-Some-Read-clause-book : goal.returns-in-Some-Read-clause-book
returns-in-Some-Read-clause-book g c =
    let b = c.args.book.now in
    let job = c.in-Some-Read.job in
    let chunk = c.in-Some-Read.chunk in
    let some = c.in-Some-Read.is in
    let read = c.in-Some-Read.field-0-is in
    let is : c.find.result ≡ Some (Read job chunk) = cc in
    let next = c.chunks_are_next.ensures (sight_at c.args.sessions.now c.args.at.now c.args.self.now b.table) MOST_JOBS 0 b job chunk (sym c.find.ensures.task ∙ is) in
    let claims : c.find.new.book ≡ claimed (Some chunk) job b = c.find.ensures.book ∙ ap (λ (t : Option Task). after_task t b) is in
    on_err_weaker c.read_claimed.result
    (λ back. back ∙ (ap (with_its job (λ log. given_back log chunk)) claims ∙ c.claims_go_back.ensures b job chunk next))
    c.read_claimed.ensures.given_back
