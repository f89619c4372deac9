-- Why jobs were stopped: a stopped job has a cause, and what a client is told of it is a failure. Own definitions.
use Rattle.std.specs.Prelude.{◌≡◌, ◌<◌, ◌^◌, false, Some, None}
use Rattle.std.specs.List.{AllByRecursion}
use Rattle.copy_model.specs.Marks.{is_stopped}
use Rattle.dest_tasks.specs.Completing.{Deed, Stops}
use Rattle.job_log.specs.Log.{JobView}
use Rattle.job_table.specs.Table.{JobTable, status_of}
use Rattle.nfs_base.specs.declared.job.Stop.{Stop}
use Rattle.nfs_base.specs.declared.status.Status.{Status}

abbrev pub Fails : Stop → Type 0
Fails cause = (status : Status) → status_of cause ≡ Some status → (0 < status.number) × (status.number < 2 ^ 32)

pub record HasCause (log : JobView) : Type 0 where
  pub stopped : log.cause ≡ None → is_stopped log.entries ≡ false
  pub fails : (cause : Stop) → log.cause ≡ Some cause → Fails cause

-- a stop is for a cause that fails
abbrev pub StopFails : Deed → Type 0
StopFails (Stops cause name) = Fails cause
StopFails deed = Unit {0}

abbrev pub HaveCauses : JobTable → Type 0
HaveCauses t = AllByRecursion (λ job. HasCause job.log) t.jobs
