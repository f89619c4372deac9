-- What is seen of a destination's jobs: the plan of each and its entries, as deeds leave them. Own definitions.
use Rattle.std.specs.Prelude.{◌≡◌, ◌≤◌, Bool, List, [], ◌∷◌, ◌++◌, Option, option_map, if◌then◌else◌}
use Rattle.copy_model.specs.Job.{Committed, Entry, Landed, Sized, Stopped}
use Rattle.dest_tasks.specs.Completing as deeds
use Rattle.dest_tasks.specs.Completing.{Deed}
use Rattle.dest_tasks.specs.Posts.{is_same}
use Rattle.job_book.specs.Book.{named}
use Rattle.job_table.specs.Table.{JobTable}
use Rattle.job_table.specs.declared.job.Job.{Job}
use Rattle.job_table.specs.declared.job.Plan.{Plan}
use Rattle.nfs_base.specs.declared.job.JobName.{JobName}

pub record Seen : Type 0 where
  pub plan : Plan
  pub entries : List Entry

-- a job that isn't in the table isn't seen
abbrev pub seen : Option Job → Option Seen
seen job = option_map (λ (j : Job). record { plan = j.plan; entries = j.log.entries }) job

abbrev pub seen_in : JobTable → JobName → Option Seen
seen_in t name = seen (named t name)

-- ---- which entries a deed gives to a job, and some deeds one after another

abbrev pub entries_if : (same : Bool) → Entry → List Entry
entries_if same entry = if same then entry ∷ [] else []

abbrev pub entries_by : JobName → Deed → List Entry
entries_by name (deeds.Accepts plan) = []
entries_by name (deeds.Sizes spare len job) = entries_if (is_same job name) (Sized len)
entries_by name (deeds.Claims job) = []
entries_by name (deeds.GivesBack job chunk) = []
entries_by name (deeds.Lands job chunk) = entries_if (is_same job name) (Landed chunk.off chunk.len)
entries_by name (deeds.Stops cause job) = entries_if (is_same job name) Stopped
entries_by name (deeds.Commits job) = entries_if (is_same job name) Committed
entries_by name (deeds.Retires job) = []

abbrev pub entries_in : JobName → List Deed → List Entry
entries_in name [] = []
entries_in name (deed ∷ more) = entries_by name deed ++ entries_in name more

-- ---- how a job goes on that is there: it keeps its plan, and its entries are those before with these behind them

pub record GrowsBy (more : List Entry) (old new : Seen) : Type 0 where
  pub plan : new.plan ≡ old.plan
  pub entries : new.entries ≡ old.entries ++ more

-- a name was given out
abbrev pub IsGiven : JobTable → JobName → Type 0
IsGiven t name = name.number ≤ t.made

-- tables of one opening, of which the second may have given out more names
pub record Later (old new : JobTable) : Type 0 where
  pub boot : new.boot ≡ old.boot
  pub capacity : new.capacity ≡ old.capacity
  pub made : old.made ≤ new.made
