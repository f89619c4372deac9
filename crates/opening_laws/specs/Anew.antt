-- A step in which the destination crashes and is opened anew. Own definitions.
use Rattle.std.specs.Prelude.{◌≡◌, ℕ, suc, ◌<◌, ◌≤◌, true, false, None}
use Rattle.copy_model.specs.Effect.{Effect}
use Rattle.copy_model.specs.Marks.{len_of}
use Rattle.nfs_base.specs.declared.seal.End.TheVariants.{Dest, Source}
use Rattle.wire_model.specs.Copies.{IsBlank, Job, Plain, is_safe}
use Rattle.wire_model.specs.System.{System}
use Rattle.wire_model.specs.Wire.{ForJob}

-- the step is a crash
pub record Crashes (s : System) (k : ℕ) : Type 0 where
  pub effect : Effect
  pub deed : s.deed k ≡ Plain effect

abbrev pub lost : Job → Job
lost job = record job { lost = true }

-- It is a deed of the destination's own that lands nothing; no copy is accepted in it, and each that was is as it was but lost. No
-- worker holds a chunk then, and no call is made for a copy that wasn't accepted. The copies before it kept the laws of a moment: each
-- is as long as its room at most, and one that is reported as stable is safe.
pub record LosesAll (s : System) (k : ℕ) : Type 0 where
  pub crash : Crashes s k
  pub made : s.made (suc k) ≡ s.made k
  pub copy : (j : ℕ) → j < s.made k → s.job (suc k) j ≡ lost (s.job k j)
  pub blank : (j : ℕ) → s.made k ≤ j → IsBlank (s.job (suc k) j)
  pub unretired : (j : ℕ) → s.made k ≤ j → (s.job (suc k) j).retired ≡ false
  pub reach : (j : ℕ) → j < s.made k → len_of (s.job k j).entries ≤ s.reach j
  pub safe : (j : ℕ) → (s.job k j).stable ≡ true → is_safe (s.job k j) ≡ true
  pub none_held : (worker : ℕ) → s.holds (suc k) worker ≡ None
  pub ready : (j : ℕ) → (s.caller Source Dest (suc k)).ready (ForJob j) ≡ true → j < s.made (suc k)

-- no copy is accepted in it, and each that was keeps its name
pub record KeepsNames (s : System) (k : ℕ) : Type 0 where
  pub made : s.made (suc k) ≡ s.made k
  pub names : (j : ℕ) → j < s.made k → s.name (suc k) j ≡ s.name k j
