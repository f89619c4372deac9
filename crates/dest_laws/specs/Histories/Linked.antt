-- How the copies of a history are linked to the jobs of a destination: the copy at a place is the job of the number behind it.
-- Own definitions.
use Rattle.std.specs.Prelude.{◌≡◌, ◌⊎◌, ℕ, ◌+◌, ◌<◌, ◌≤◌, true, false, List, ◌++◌, Option, Some, None}
use Rattle.copy_model.specs.Job.{Entry, Plan as CopyPlan}
use Rattle.dest_laws.specs.Histories.Seen.{Seen, seen_in}
use Rattle.job_table.specs.Table.{JobTable}
use Rattle.job_table.specs.declared.job.Plan.{Plan}
use Rattle.nfs_base.specs.declared.job.JobName.{JobName}
use Rattle.wire_model.specs.Copies.{Job as Copy}

-- jobs are numbered from 1 in the order of their acceptance
abbrev pub name_at : (boot place : ℕ) → JobName
name_at boot place = record { boot = boot; number = place + 1 }

-- as a history has the plan of a job
abbrev pub Planned : Type 0
Planned = Plan → CopyPlan

-- The copy of a job that is there has its plan and its entries, and isn't retired. Any other is.
abbrev pub IsShown : Planned → Option Seen → Copy → Type 0
IsShown plan_of None copy = copy.retired ≡ true
IsShown plan_of (Some s) copy = (copy.retired ≡ false) × (copy.plan ≡ plan_of s.plan) × (copy.entries ≡ s.entries)

-- each copy whose number was given out is linked to its job
abbrev pub AreLinked : Planned → JobTable → (ℕ → Copy) → Type 0
AreLinked plan_of t copy = (place : ℕ) → place < t.made → IsShown plan_of (seen_in t (name_at t.boot place)) (copy place)

-- ---- how a history goes on: a copy has the plan and the entries of its job, or was retired. Whether it is stable is said elsewhere.

abbrev pub looked_up : Planned → Option Seen → Copy → Copy
looked_up plan_of None copy = record copy { retired = true }
looked_up plan_of (Some s) copy = record copy { plan = plan_of s.plan; entries = s.entries }

pub record IsSeenAs (was copy : Copy) : Type 0 where
  pub plan : copy.plan ≡ was.plan
  pub entries : copy.entries ≡ was.entries
  pub retired : copy.retired ≡ was.retired
  pub lost : copy.lost ≡ was.lost

-- at places to which no number belongs yet nothing was seen
pub record GoOn (plan_of : Planned) (before now : JobTable) (old new : ℕ → Copy) : Type 0 where
  pub seen_as : (place : ℕ) → place < now.made → IsSeenAs (looked_up plan_of (seen_in now (name_at now.boot place)) (old place)) (new place)
  pub fresh : (place : ℕ) → before.made ≤ place → (old place).retired ≡ false

-- ---- what follows of a copy that was there: it keeps its plan, stays retired, and gets these entries unless it is retired now

abbrev pub GotOrRetired : List Entry → Copy → Copy → Type 0
GotOrRetired more old new = (new.entries ≡ old.entries ++ more) ⊎ ((new.retired ≡ true) × (new.entries ≡ old.entries))

pub record CopyKeeps (more : List Entry) (old new : Copy) : Type 0 where
  pub plan : new.plan ≡ old.plan
  pub retired : old.retired ≡ true → new.retired ≡ true
  pub lost : new.lost ≡ old.lost
  pub entries : GotOrRetired more old new
