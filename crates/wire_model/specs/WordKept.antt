-- The client's word: what it says of a copy is so. Own definitions.
use Rattle.std.specs.Prelude.{◌≡◌, ℕ, suc, ◌<◌, ◌≤◌, true, Some, List}
use Rattle.copy_model.specs.Promise.{IsStableBy, IsStill}
use Rattle.nfs_base.specs.declared.seal.End.TheVariants.{Dest, Client}
use Rattle.wire_model.specs.Meaning.{Meaning}
use Rattle.wire_model.specs.Wire.{ForCopy, Call}
use Rattle.wire_model.specs.Told.{WasTold}
use Rattle.wire_model.specs.System.{System, wire_of, plan_at, history}

-- The job at place j is the one that COPY answered for the client's copy n: the destination executed the COPY that
-- the client sent for it, which asked for this plan, accepted the job in that step, and told its name.
pub record IsJobOf (meaning : Meaning) (s : System) (k n j : ℕ) : Type 0 where
  pub there : j < s.made k
  pub known : (s.word k n).name ≡ Some (s.name k j)
  pub call : Call
  pub purpose : call.purpose ≡ ForCopy n
  pub results : List ℕ
  pub told : WasTold (wire_of s Dest) k Client call results
  pub new : s.made told.step ≤ j
  pub accepted : j < s.made (suc told.step)
  pub asks : meaning.copies call.ops ≡ Some (plan_at s k j)
  pub says : meaning.name_in results ≡ Some (s.name k j)

-- the client's copy has a job, which the destination reported as stable at an earlier moment
pub record IsRightlyStable (meaning : Meaning) (s : System) (k n : ℕ) : Type 0 where
  pub job : ℕ
  pub job_of : IsJobOf meaning s k n job
  pub reported : ℕ
  pub earlier : reported < k
  pub stable : IsStableBy (history s) job reported

-- and the source file stood still from its acceptance to its completion
pub record IsRightlyExact (meaning : Meaning) (s : System) (k n : ℕ) : Type 0 where
  pub job : ℕ
  pub job_of : IsJobOf meaning s k n job
  pub reported : ℕ
  pub earlier : reported < k
  pub stable : IsStableBy (history s) job reported
  pub still : IsStill (history s) job (plan_at s k job)

-- The client keeps its word. Each copy that it said to be stable or exact is so; and since what was said stays said,
-- each is said once at most.
pub record IsWordKept (meaning : Meaning) (s : System) : Type 0 where
  pub stable : (k n : ℕ) → (s.word k n).stable ≡ true → IsRightlyStable meaning s k n
  pub exact : (k n : ℕ) → (s.word k n).exact ≡ true → IsRightlyExact meaning s k n
  pub stable_stays : (i k n : ℕ) → i ≤ k → (s.word i n).stable ≡ true → (s.word k n).stable ≡ true
  pub exact_stays : (i k n : ℕ) → i ≤ k → (s.word i n).exact ≡ true → (s.word k n).exact ≡ true
