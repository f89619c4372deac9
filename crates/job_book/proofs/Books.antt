-- What holds of every book still does when a job's place ends.
use Rattle.std.proofs.Common.{ℕ, ◌+◌, ◌^◌, ◌<◌, arith}
use Rattle.std.specs.Prelude.{IsSome}
use Rattle.job_table.specs.declared.job.JobId.{JobId}
use Rattle.job_table.specs.Table.{JobTable, is_job, job_of, without}
use Rattle.job_book.specs.Book.{IsWithin}
use Rattle.job_book.proofs.Lists.{fewer}

pub within_less : (past : ℕ) (t : JobTable) (id : JobId) (landed : ℕ) → IsSome (job_of t id) → landed < 2 ^ 64 → IsWithin past t → IsWithin (past + landed) (without t id)
within_less past t id landed there small within = let n = fewer (is_job t.boot id) t.jobs there in omega arith
