-- OFFLOAD_STATUS and OFFLOAD_CANCEL of a job. They look at no handle. RFC 7862 sections 15.8 and 15.9.
use Rattle.std.specs.Prelude.{ℕ, ◌==◌, ◌&&◌, Bool, Option, Some, None, if◌then◌else◌}
use Rattle.copy_ops.specs.declared.results.OffloadProgress.{OffloadProgress}
use Rattle.job_table.specs.declared.job.JobStatus.{JobStatus}
use Rattle.job_table.specs.Table.{JobTable}
use Rattle.nfs_base.specs.declared.answer.Answer.{Answer}
use Rattle.nfs_base.specs.declared.answer.Answer.TheVariants.{Done, Refused}
use Rattle.nfs_base.specs.declared.job.JobName.{JobName}
use Rattle.nfs_base.specs.declared.job.Stop.TheVariants.{Cancelled}
use Rattle.nfs_base.specs.declared.state_id.StateId.{StateId}
use Rattle.nfs_base.specs.declared.state_id.TheConstants.StateId.{COPY_OFFLOAD}
use Rattle.nfs_base.specs.declared.status.Status.{Status}
use Rattle.nfs_base.specs.declared.status.TheConstants.Status.{OK, BAD_STATEID}
use Rattle.job_book.specs.Book.{client_of, job_status}
use Rattle.dest_jobs.specs.Ending.{ended, is_client, takes}
use Rattle.dest_jobs.specs.declared.copies.Copies.{Copies}

abbrev pub name_in : StateId → JobName
name_in id = record { boot = id.boot; number = id.number }

-- The job that a stateid names to a client: one of this kind and of its own. The seqid isn't looked at.
abbrev pub is_own : JobTable → (client : ℕ) → StateId → Bool
is_own t client id = (id.kind == COPY_OFFLOAD) && takes (is_client client) (client_of t (name_in id))

abbrev pub own_job : JobTable → (client : ℕ) → StateId → Option JobName
own_job t client id = if is_own t client id then Some (name_in id) else None

-- ---- how far it is: the bytes that have landed, and the status once it has ended

abbrev pub progress_told : Option JobStatus → Answer OffloadProgress
progress_told None = Refused BAD_STATEID
progress_told (Some status) = Done (record { count = status.landed; complete = status.complete })

abbrev pub status_told : JobTable → Option JobName → Answer OffloadProgress
status_told t None = Refused BAD_STATEID
status_told t (Some name) = progress_told (job_status t name)

-- ---- it ends, whatever had come about in it

abbrev pub cancel_status : Option JobName → Status
cancel_status None = BAD_STATEID
cancel_status (Some name) = OK

abbrev pub after_cancel : Option JobName → Copies → Copies
after_cancel None x = x
after_cancel (Some name) x = ended Cancelled name x
