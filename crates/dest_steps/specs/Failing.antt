-- A worker's link failed: the call that it awaits is given up, and the job of that call, or of the chunk that it holds, ends
-- where it still can be stopped. A chunk stays held.
use Rattle.std.specs.Prelude.{ℕ, Bool, true, false, List, [], Option, Some, None}
use Rattle.dest_tasks.specs.Posts.{job_in, post_at}
use Rattle.dest_work.specs.Work.{without_call}
use Rattle.job_book.specs.Book.{id_of}
use Rattle.job_table.specs.Table.{is_running}
use Rattle.nfs_base.specs.declared.job.JobName.{JobName}
use Rattle.nfs_base.specs.declared.job.Stop.TheVariants.{LinkFault}
use Rattle.outbox.specs.declared.outgoing.Outgoing.{Outgoing}
use Rattle.dest_steps.specs.Copier.{Around, Codes}
use Rattle.dest_steps.specs.Landing.{stopped_in}
use Rattle.dest_steps.specs.Telling.{stop_telling}
use Rattle.dest_steps.specs.declared.copier.Copier.{Copier}
use Rattle.dest_steps.specs.declared.failing.Failing.{Failing}
use Rattle.dest_steps.specs.declared.failing.Failing.TheVariants as fails

abbrev pub failing_if : (running : Bool) → Codes → Around → JobName → Copier → Failing
failing_if true codes around job x = fails.Stops job (stop_telling codes around job LinkFault x)
failing_if false codes around job x = fails.Nothing

abbrev pub failing_for : Codes → Around → Option JobName → Copier → Failing
failing_for codes around None x = fails.Nothing
failing_for codes around (Some job) x = failing_if (is_running x.copies.book.table (id_of job)) codes around job x

abbrev pub failing : Codes → Around → (place : ℕ) → Copier → Failing
failing codes around place x = failing_for codes around (job_in (post_at x.work.workers place)) x

-- ---- it is done, and what goes out

abbrev pub given_up : (place : ℕ) → Copier → Copier
given_up place x = record x { work = without_call place x.work }

abbrev pub failed : Failing → Copier → Copier × List Outgoing
failed fails.Nothing x = (x, [])
failed (fails.Stops job told) x = (stopped_in job LinkFault told x, told.sent)

abbrev pub link_failed : (place : ℕ) → Failing → Copier → Copier × List Outgoing
link_failed place failing x = failed failing (given_up place x)
