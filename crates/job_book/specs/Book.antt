-- The jobs of a destination by name, and how many bytes were landed by those that aren't there any more. RFC 7862 section
-- 4.2; the table itself is that of crate job_table.
use Rattle.std.specs.Prelude.{ℕ, ◌+◌, ◌*◌, ◌^◌, ◌<◌, ◌≤◌, nat_lt, length, Option, Some, None, option_map, sum_by, All, AllPairs, if◌then◌else◌}
use Rattle.copy_model.specs.Job.{IsLawful, landed_bytes}
use Rattle.job_log.specs.Log.{ClaimsAreNew}
use Rattle.job_table.specs.declared.job.Job.{Job}
use Rattle.job_table.specs.declared.job.JobId.{JobId}
use Rattle.job_table.specs.declared.job.JobStatus.{JobStatus}
use Rattle.job_table.specs.declared.job.Plan.{Plan}
use Rattle.job_table.specs.Table.{JobTable, AreApart, complete_of, job_above, job_of, overlapped, with_job, without}
use Rattle.nfs_base.specs.declared.job.JobName.{JobName}
use Rattle.nfs_base.specs.declared.limits.TheConstants.{MOST_JOBS}
use Rattle.job_book.specs.declared.acceptance.Acceptance.{Acceptance}
use Rattle.job_book.specs.declared.acceptance.Acceptance.TheVariants.{Accepted, Overlap, Full, TooFar}

pub record BookView : Type 0 where
  pub table : JobTable
  pub past : ℕ

-- ---- names

-- where the slab has the job doesn't count
abbrev pub id_of : JobName → JobId
id_of name = record { key = 0; boot = name.boot; number = name.number }

abbrev pub name_of : (boot : ℕ) → Job → JobName
name_of boot job = record { boot = boot; number = job.number }

abbrev pub named : JobTable → JobName → Option Job
named t name = job_of t (id_of name)

-- the job with the lowest number above this one
abbrev pub next_name : JobTable → (after : ℕ) → Option JobName
next_name t after = option_map (name_of t.boot) (job_above t after)

-- the client that asked for it
abbrev pub client_of : JobTable → JobName → Option ℕ
client_of t name = option_map (λ job. job.plan.client) (named t name)

-- how far it is
abbrev pub status_of : Job → JobStatus
status_of job = record { landed = landed_bytes job.log.entries; complete = complete_of job.log }

abbrev pub job_status : JobTable → JobName → Option JobStatus
job_status t name = option_map status_of (named t name)

-- ---- a copy is taken as a job, unless its range passes the capacity, or overlaps that of a job that runs, or there are
-- sixteen jobs

abbrev pub next_of : JobTable → JobName
next_of t = record { boot = t.boot; number = t.made + 1 }

abbrev pub accept_apart : Option Job → JobTable → Acceptance
accept_apart (Some job) t = Overlap (name_of t.boot job)
accept_apart None t = if nat_lt (length t.jobs) MOST_JOBS then Accepted (next_of t) else Full

abbrev pub accept_answer : JobTable → Plan → Acceptance
accept_answer t plan = if nat_lt t.capacity (plan.dst_off + plan.count) then TooFar else accept_apart (overlapped t plan) t

abbrev pub after_accept : Acceptance → Plan → BookView → BookView
after_accept (Accepted name) plan b = record b { table = with_job b.table plan }
after_accept (Overlap name) plan b = b
after_accept Full plan b = b
after_accept TooFar plan b = b

-- ---- a job's place ends; what it landed stays counted

abbrev pub landed_at : Option Job → ℕ
landed_at None = 0
landed_at (Some job) = landed_bytes job.log.entries

abbrev pub retired : JobName → BookView → BookView
retired name b = record { table = without b.table (id_of name); past = b.past + landed_at (named b.table name) }

-- ---- what holds of every book

-- each number that was given out stands for one job, and no job lands 2^64 bytes
abbrev pub IsWithin : (past : ℕ) → JobTable → Type 0
IsWithin past t = past + length t.jobs * 2 ^ 64 ≤ t.made * 2 ^ 64

-- The bytes that all jobs landed, those that aren't there any more included.
abbrev pub book_bytes : BookView → ℕ
book_bytes b = b.past + sum_by (λ job. landed_bytes job.log.entries) b.table.jobs

-- Each job's entries are lawful, each claim names a chunk of its job that hasn't landed, and the ranges of two jobs that
-- run have no common byte of one file. There are at most sixteen jobs, by rising numbers that were given out.
pub record IsSound (t : JobTable) : Type 0 where
  pub lawful : All (λ job. IsLawful job.plan.consecutive job.log.entries) t.jobs
  pub claims : All (λ job. ClaimsAreNew job.log) t.jobs
  pub apart : AllPairs (AreApart t.capacity) t.jobs
  pub few : length t.jobs ≤ MOST_JOBS
  pub rising : AllPairs (λ a b. a.number < b.number) t.jobs
  pub given : All (λ job. (0 < job.number) × (job.number ≤ t.made)) t.jobs
