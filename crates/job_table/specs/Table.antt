-- The jobs of a destination as contracts see them: by number, each with its plan and its log. Where the slab has
-- a job isn't seen.
use Rattle.std.specs.Prelude.{◌≡◌, ◌⊎◌, ℕ, ◌+◌, ◌<◌, ◌≤◌, ◌==◌, ◌&&◌, ◌++◌, not, max, min, nat_lt, Bool, true, false, List, [], ◌∷◌, length, Option, None, Some, find, filter, All, AllPairs, if◌then◌else◌, Result, Ok, Err}
use Rattle.copy_model.specs.Job.{size_of, has_ended, is_reported}
use Rattle.nfs_base.specs.declared.job.Stop.{Stop}
use Rattle.nfs_base.specs.declared.job.Stop.TheVariants.{Cancelled, LeaseExpired, ClientGone, SourceRefused, SourceFailed, PastEnd, NoRoom, DiskFault, LinkFault, Worn}
use Rattle.nfs_base.specs.declared.status.Status.{Status}
use Rattle.nfs_base.specs.declared.status.TheConstants.Status.{OK, INVAL, FBIG, IO, SERVERFAULT, PARTNER_NOTSUPP}
use Rattle.job_log.specs.declared.chunk.Chunk.{Chunk}
use Rattle.job_log.specs.declared.chunk.Landing.{Landing}
use Rattle.job_log.specs.declared.chunk.Landing.TheVariants.{Late}
use Rattle.job_log.specs.Log.{JobView, landing_of}
use Rattle.job_table.specs.declared.job.Plan.{Plan}
use Rattle.job_table.specs.declared.job.Job.{Job}
use Rattle.job_table.specs.declared.job.JobId.{JobId}
use Rattle.job_table.specs.declared.job.Refused.{Refused}
use Rattle.job_table.specs.declared.job.Refused.TheVariants.{Overlap, Full}

-- The server's boot number, the capacity of its files, how many numbers were given out, and the jobs that aren't
-- retired, by number.
pub record JobTable : Type 0 where
  pub boot : ℕ
  pub capacity : ℕ
  pub made : ℕ
  pub jobs : List Job

-- ---- which job

-- a job has this name: the key doesn't count
abbrev pub is_job : ℕ → JobId → Job → Bool
is_job boot id job = (id.boot == boot) && (id.number == job.number)

abbrev pub job_of : JobTable → JobId → Option Job
job_of t id = find (is_job t.boot id) t.jobs

-- the name that is given out for a job; its key is any
abbrev pub Names : ℕ → Job → JobId → Type 0
Names boot job id = (id.boot ≡ boot) × (id.number ≡ job.number)

-- the job with the lowest number above this one
abbrev pub job_above : JobTable → ℕ → Option Job
job_above t after = find (λ job. nat_lt after job.number) t.jobs

-- a value is there, and passes
abbrev pub passes : {X : Type 0} → (X → Bool) → Option X → Bool
passes test None = false
passes test (Some x) = test x

-- the first element that passes is changed
abbrev pub changed : {X : Type 0} → (X → Bool) → (X → X) → List X → List X
changed test f [] = []
changed test f (x ∷ xs) = if test x then f x ∷ xs else x ∷ changed test f xs

-- the job of this name has another log
abbrev pub with_log : JobTable → JobId → (JobView → JobView) → JobTable
with_log t id f = record t { jobs = changed (is_job t.boot id) (λ job. record job { log = f job.log }) t.jobs }

-- ---- ranges

-- neither stopped nor committed
abbrev pub is_live : Job → Bool
is_live job = not (has_ended job.log.entries)

abbrev pub open_end : ℕ → ℕ → Option ℕ → ℕ
open_end capacity from None = capacity
open_end capacity from (Some len) = from + len

-- where a range ends, in the destination's file: one without a count reaches to the capacity until it is sized
abbrev pub end_of : ℕ → Plan → Option ℕ → ℕ
end_of capacity plan sized = if plan.count == 0 then open_end capacity plan.dst_off sized else plan.dst_off + plan.count

abbrev pub job_end : ℕ → Job → ℕ
job_end capacity job = end_of capacity job.plan (size_of job.log.entries)

-- a byte of the destination's file lies in the job's range
abbrev pub Covers : ℕ → Job → ℕ → Type 0
Covers capacity job byte = (job.plan.dst_off ≤ byte) × (byte < job_end capacity job)

-- a job is there that runs, that was stopped or committed, of whose end the client was told
abbrev pub is_running : JobTable → JobId → Bool
is_running t id = passes is_live (job_of t id)

abbrev pub is_ended : JobTable → JobId → Bool
is_ended t id = passes (λ job. has_ended job.log.entries) (job_of t id)

abbrev pub is_told : JobTable → JobId → Bool
is_told t id = passes (λ job. is_reported job.log.entries) (job_of t id)

-- two jobs that run have no common byte of one file
abbrev pub AreApart : ℕ → Job → Job → Type 0
AreApart capacity a b =
    a.plan.file ≡ b.plan.file → is_live a ≡ true → is_live b ≡ true
    → (byte : ℕ) → Covers capacity a byte → Covers capacity b byte → ⊥

-- a new range would have a byte in common with that of a job that runs
abbrev pub overlaps : ℕ → Plan → Job → Bool
overlaps capacity plan job =
    is_live job && ((plan.file == job.plan.file)
    && nat_lt (max plan.dst_off job.plan.dst_off) (min (end_of capacity plan None) (job_end capacity job)))

-- the job with the lowest number with which a new range would have a byte in common
abbrev pub overlapped : JobTable → Plan → Option Job
overlapped t plan = find (overlaps t.capacity plan) t.jobs

-- ---- the calls

-- the answer names the job that the range meets
abbrev pub IsOverlap : ℕ → Job → Result JobId Refused → Type 0
IsOverlap boot job (Ok id) = ⊥
IsOverlap boot job (Err (Overlap id)) = Names boot job id
IsOverlap boot job (Err Full) = ⊥

-- a job that was just accepted: nothing came about in it
abbrev pub new_log : Bool → JobView
new_log consecutive = record { consecutive = consecutive; entries = []; cause = None; claims = []; spare = 0 }

abbrev pub new_job : ℕ → Plan → Job
new_job number plan = record { number = number; plan = plan; log = new_log plan.consecutive }

-- the table with a job more, which has the next number
abbrev pub with_job : JobTable → Plan → JobTable
with_job t plan = record t { made = t.made + 1; jobs = t.jobs ++ new_job (t.made + 1) plan ∷ [] }

-- the length that a job may get
pub record CanSize (capacity : ℕ) (job : Job) (len : ℕ) : Type 0 where
  pub not_sized : size_of job.log.entries ≡ None
  pub running : has_ended job.log.entries ≡ false
  pub asked : job.plan.count ≡ 0 ⊎ len ≡ job.plan.count
  pub fits : job.plan.dst_off + len ≤ capacity
  pub room : len ≤ job.log.spare

-- a job has room for this length, and nothing else is changed
pub record GetsRoom (old new : JobTable) (id : JobId) (len : ℕ) : Type 0 where
  pub spare : ℕ
  pub enough : len ≤ spare
  pub only : new ≡ with_log old id (λ log. record log { spare = spare })

abbrev pub landing_at : Option Job → Chunk → Landing
landing_at None chunk = Late
landing_at (Some job) chunk = landing_of job.log chunk

-- what landing a chunk answers: a retired job's is late
abbrev pub table_landing : JobTable → JobId → Chunk → Landing
table_landing t id chunk = landing_at (job_of t id) chunk

-- the job without which the table goes on
abbrev pub without : JobTable → JobId → JobTable
without t id = record t { jobs = filter (λ job. not (is_job t.boot id job)) t.jobs }

-- the status that a client is told of a stopped job
abbrev pub status_of : Stop → Option Status
status_of Cancelled = None
status_of LeaseExpired = None
status_of ClientGone = None
status_of (SourceRefused status) = Some status
status_of (SourceFailed accept_stat) = Some SERVERFAULT
status_of PastEnd = Some INVAL
status_of NoRoom = Some FBIG
status_of DiskFault = Some IO
status_of LinkFault = Some PARTNER_NOTSUPP
status_of Worn = Some SERVERFAULT

abbrev pub complete_at : Option Stop → Bool → Option Status
complete_at None ended = if ended then Some OK else None
complete_at (Some cause) ended = status_of cause

-- what a client is told of a job's end, once it has come
abbrev pub complete_of : JobView → Option Status
complete_of log = complete_at log.cause (has_ended log.entries)

-- ---- what holds of every table

pub record IsTable (capacity made : ℕ) (jobs : List Job) : Type 0 where
  pub rising : AllPairs (λ a b. a.number < b.number) jobs
  pub given : All (λ job. (0 < job.number) × (job.number ≤ made)) jobs
  pub few : length jobs ≤ 16
  pub same_order : All (λ job. job.log.consecutive ≡ job.plan.consecutive) jobs
  pub fits : All (λ job. (job.plan.dst_off + job.plan.count ≤ capacity) × (job_end capacity job ≤ capacity)) jobs
  pub apart : AllPairs (AreApart capacity) jobs
