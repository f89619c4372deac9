-- What holds of a destination's jobs from its opening on. Own definitions.
use Rattle.std.specs.Prelude.{◌≡◌, All}
use Rattle.job_book.specs.Book.{IsSound}
use Rattle.job_table.specs.Table.{JobTable}

-- The table is sound, and the log of each job lands its chunks in order where the plan says so.
pub record IsKept (t : JobTable) : Type 0 where
  pub sound : IsSound t
  pub same_order : All (λ job. job.log.consecutive ≡ job.plan.consecutive) t.jobs
