-- What is right to tell of a copy: that of a number that was given out, and that all of it is safe only where it is. Own definitions.
use Rattle.std.specs.Prelude.{◌≡◌, ℕ, ◌<◌, ◌≤◌, Bool, true, length}
use Rattle.std.specs.List.{AllByRecursion}
use Rattle.copy_ops.specs.declared.callback.OffloadEnd.{OffloadEnd}
use Rattle.copy_ops.specs.declared.callback.OffloadEnd.TheVariants as ends
use Rattle.dest_back.specs.declared.compound.Ended.{Ended}
use Rattle.dest_jobs.specs.Copying.{offload_id}
use Rattle.dest_laws.specs.Histories.Linked.{name_at}
use Rattle.dest_laws.specs.Names.Told.{EndCanBeTold}
use Rattle.job_table.specs.Table.{JobTable}
use Rattle.nfs_base.specs.declared.job.JobName.{JobName}
use Rattle.nfs_base.specs.declared.limits.TheConstants.{HANDLE_LIMIT}

abbrev pub EndIsRight : (safe : Bool) → OffloadEnd → Type 0
EndIsRight safe (ends.Done response) = (safe ≡ true) × EndCanBeTold (ends.Done response)
EndIsRight safe (ends.Failed status count) = EndCanBeTold (ends.Failed status count)

-- copies have places in the order of their acceptance, of which so many are given out, and some are safe
pub record TellsRight (boot made : ℕ) (safe : ℕ → Bool) (told : Ended) : Type 0 where
  pub place : ℕ
  pub given : place < made
  pub id : told.id ≡ offload_id (name_at boot place)
  pub handle : (1 ≤ length told.file) × (length told.file ≤ HANDLE_LIMIT)
  pub end : EndIsRight (safe place) told.end

-- the copy of this name is safe
pub record IsSafe (boot made : ℕ) (safe : ℕ → Bool) (name : JobName) : Type 0 where
  pub place : ℕ
  pub given : place < made
  pub named : name ≡ name_at boot place
  pub is : safe place ≡ true

-- each job has a number that was given out
abbrev pub AreGiven : JobTable → Type 0
AreGiven t = AllByRecursion (λ job. (0 < job.number) × (job.number ≤ t.made)) t.jobs

-- it is of this opening, and no more numbers were given out
pub record IsWithin (boot made : ℕ) (t : JobTable) : Type 0 where
  pub given : AreGiven t
  pub boot_is : t.boot ≡ boot
  pub few : t.made ≤ made
