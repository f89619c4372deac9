-- The copies of a destination over its openings, with their names. Own definitions.
use Rattle.std.specs.Prelude.{◌≡◌, ℕ, ◌+◌, ◌-◌, ◌<◌, true, Option, None, Some, List, [], ◌∷◌, ◌++◌, length, map, slice_get, slice_index_or, ⊤}
use Rattle.nfs_base.specs.declared.job.JobName.{JobName}
use Rattle.opening_laws.specs.Anew.{lost}
use Rattle.wire_model.specs.Copies.{Job}

-- a copy of an opening that has ended, with the name that it had
pub record Past : Type 0 where
  pub name : JobName
  pub job : Job

-- the name of the copy of a number in an opening. They are numbered from 1
abbrev pub name_of : (boot number : ℕ) → JobName
name_of boot number = record { boot = boot; number = number }

-- the copies of an opening that a crash ends, by number from this one on
abbrev pub ended : (boot number : ℕ) → List Job → List Past
ended boot number [] = []
ended boot number (job ∷ jobs) = record { name = name_of boot number; job = lost job } ∷ ended boot (number + 1) jobs

-- all that have ended behind that
abbrev pub past_after : (boot : ℕ) → List Past → List Job → List Past
past_after boot past jobs = past ++ ended boot 1 jobs

-- all copies: those of the openings before, in their order, and behind them those of the present one
abbrev pub all_copies : List Past → List Job → List Job
all_copies past jobs = map (λ (p : Past). p.job) past ++ jobs

-- the one at a place; where no copy was accepted it is this one
abbrev pub copy_at : (none : Job) → List Past → List Job → (place : ℕ) → Job
copy_at none past jobs place = slice_index_or (all_copies past jobs) place none

abbrev pub named_by : Option Past → JobName → JobName
named_by None name = name
named_by (Some p) name = p.name

-- its name, in an opening of this number
abbrev pub name_at : (boot : ℕ) → List Past → (place : ℕ) → JobName
name_at boot past place = named_by (slice_get past place) (name_of boot (place - length past + 1))

-- each was lost, and is of an opening before this one
abbrev pub ArePast : (boot : ℕ) → List Past → Type 0
ArePast boot [] = ⊤
ArePast boot (p ∷ past) = ((p.job.lost ≡ true) × (p.name.boot < boot)) × ArePast boot past
