-- What the destination owes for the names of its copies and for what it reports of them, in the step from moment k
-- to the next.
use Rattle.std.specs.Prelude.{◌≡◌, ℕ, suc, ◌<◌, ◌≤◌, true, Some, List}
use Rattle.copy_model.specs.Job.{Plan}
use Rattle.nfs_base.specs.declared.job.JobName.{JobName}
use Rattle.nfs_base.specs.declared.seal.End.TheVariants.{Dest, Client}
use Rattle.nfs_base.specs.declared.seal.Seal.{Seal}
use Rattle.wire_model.specs.Spelling.{Spelling}
use Rattle.wire_model.specs.Meaning.{Meaning}
use Rattle.wire_model.specs.Wire.{Sends}
use Rattle.wire_model.specs.System.{System, plan_at}

-- the copy of this name was accepted, and is reported as stable
pub record IsReported (s : System) (k : ℕ) (name : JobName) : Type 0 where
  pub copy : ℕ
  pub there : copy < s.made k
  pub named : s.name k copy ≡ name
  pub stable : (s.job k copy).stable ≡ true

-- the step accepts a copy of this plan, under this name
pub record IsAccepted (s : System) (k : ℕ) (plan : Plan) (name : JobName) : Type 0 where
  pub copy : ℕ
  pub new : s.made k ≤ copy
  pub there : copy < s.made (suc k)
  pub plan_is : plan_at s (suc k) copy ≡ plan
  pub named : s.name (suc k) copy ≡ name

-- What results tell of the destination's copies: a COPY that gives a name accepts the copy that was asked for (RFC
-- 7862 section 15.2), and a status is complete only for a copy that is reported with it (RFC 7862 section 15.9).
-- An answer to COMMIT that completes a copy would be one more.
pub record TellsBack (meaning : Meaning) (s : System) (k : ℕ) (ops results : List ℕ) : Type 0 where
  pub copied : (plan : Plan) (name : JobName) → meaning.copies ops ≡ Some plan → meaning.name_in results ≡ Some name
      → IsAccepted s k plan name
  pub status : (name : JobName) → meaning.asks_status ops ≡ Some name → meaning.says_complete results ≡ true
      → IsReported s (suc k) name

-- The laws of names and reports. stays, one: a copy keeps its name, and a new copy's name is that of no other (a
-- stateid, RFC 8881 section 8.2). tells: what results tell is so. reports: a CB_OFFLOAD that is sealed for the
-- client and says FILE_SYNC4 is one of a copy that is reported as stable (RFC 7862 section 16.1).
pub record NameLaws (spell : Spelling) (meaning : Meaning) (s : System) (k : ℕ) : Type 0 where
  pub stays : (j : ℕ) → j < s.made k → s.name (suc k) j ≡ s.name k j
  pub one : (j l : ℕ) → j < l → s.made k ≤ l → l < s.made (suc k) → s.name (suc k) j ≡ s.name (suc k) l → ⊥
  pub tells : (ops results : List ℕ) → (s.acts Dest k).executed ≡ Some (record { ops = ops; results = results })
      → TellsBack meaning s k ops results
  pub reports : (bytes : List ℕ) (seal : Seal) (name : JobName) → Sends (s.acts Dest k) bytes (Some seal) → seal.owner ≡ Client
      → spell.is_callback bytes ≡ true → meaning.reports (spell.ops_of bytes) name ≡ true → IsReported s (suc k) name
