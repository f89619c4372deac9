-- How the slab holds the jobs: a row of keys has the key of each, in the order of their numbers.
use Rattle.std.specs.Prelude.{◌≡◌, ◌≢◌, ℕ, ◌≤◌, List, length, All, AllPairs}
use Rattle.std.specs.List.{filter_map}
use Rattle.nfs_base.specs.declared.limits.TheConstants.{MOST_JOBS}
use Rattle.slab.specs.Slab.{Slab, get, slab_len, ContainsKey}
use Rattle.job_table.specs.declared.job.Job.{Job}
use Rattle.job_table.specs.Table.{IsTable}

-- the jobs under these keys
abbrev pub jobs_at : Slab Job → List ℕ → List Job
jobs_at slots keys = filter_map (λ key. get slots key) keys

-- each key has a job, no two are the same, and the slab has no other job and room for sixteen
pub record IsStored (capacity made : ℕ) (slots : Slab Job) (keys : List ℕ) : Type 0 where
  pub table : IsTable capacity made (jobs_at slots keys)
  pub distinct : AllPairs (λ a b. a ≢ b) keys
  pub filled : All (λ key. ContainsKey slots key) keys
  pub no_other : slab_len slots ≡ length keys
  pub room : MOST_JOBS ≤ slots.capacity
