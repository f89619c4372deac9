-- What a step of a destination does to its jobs, and why. Own definitions.
use Rattle.std.specs.Prelude.{◌≡◌, ◌⊎◌, ℕ, ◌≤◌, List, [], ◌∷◌, Some, Ok, sum_by}
use Rattle.copy_model.specs.Effect as effects
use Rattle.copy_model.specs.Volume.{Volume}
use Rattle.dest_laws.specs.Deeds.{ByDeeds, accept_in, entry_in}
use Rattle.dest_laws.specs.Histories.Kinds.{TakesAndEnds}
use Rattle.dest_tasks.specs.Completing as does
use Rattle.dest_tasks.specs.Completing.{Comes, Deed}
use Rattle.dest_work.specs.Findings.{len_of as length_for}
use Rattle.job_book.specs.Book.{BookView, named}
use Rattle.job_table.specs.declared.job.Job.{Job}
use Rattle.nfs_base.specs.declared.job.JobName.{JobName}
use Rattle.server_volume.specs.declared.used.Used.{Used}
use Rattle.wire_machine.specs.History.{effect_of}

-- a job was there at some time in the step, which began with this book
pub record WasThere (b : BookView) (name : JobName) : Type 0 where
  pub book : BookView
  pub come : ByDeeds b book
  pub job : Job
  pub found : named book.table name ≡ Some job

-- the size of the source's file gives a job this length
pub record HasLength (b : BookView) (name : JobName) (len : ℕ) : Type 0 where
  pub there : WasThere b name
  pub size : ℕ
  pub gives : length_for there.job.plan b.table.capacity size ≡ Ok len

-- what the step did to the volume is a commit of a job's file
pub record IsCommitted (b : BookView) (name : JobName) (used : List Used) : Type 0 where
  pub there : WasThere b name
  pub call : (v : Volume) → effect_of v used ≡ effects.Commits there.job.plan.file

-- A job gets a length that the source gave, and is committed by a commit of its file.
abbrev pub IsMet : BookView → List Used → Deed → Type 0
IsMet b used (does.Sizes spare len name) = HasLength b name len
IsMet b used (does.Commits name) = IsCommitted b name used
IsMet b used deed = Unit {0}

abbrev pub AllAre : (Deed → Type 0) → List Deed → Type 0
AllAre P [] = Unit {0}
AllAre P (deed ∷ deeds) = P deed × AllAre P deeds

-- From one book to another by deeds that have a property, take so many copies at most, and give so many entries at most.
pub record GoesWell (P : Deed → Type 0) (accepts entries : ℕ) (b c : BookView) : Type 0 where
  pub deeds : List Deed
  pub come : Comes deeds b c
  pub few_accepts : sum_by accept_in deeds ≤ accepts
  pub few_entries : sum_by entry_in deeds ≤ entries
  pub well : AllAre P deeds

-- Copies are taken and jobs end; or one entry at most is given, and no copy taken.
abbrev pub Story : BookView → BookView → List Used → Type 0
Story b c used = TakesAndEnds b c ⊎ GoesWell (IsMet b used) 0 1 b c
