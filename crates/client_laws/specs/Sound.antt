-- What a copy doesn't know yet: its first change attribute before the steps that want it, and its name before COPY was answered.
use Rattle.std.specs.Prelude.{ℕ, ◌≡◌, Bool, true, false, Some, None}
use Rattle.client_copies.specs.Table.{Copies, copy_at}
use Rattle.client_copies.specs.declared.copy.ClientCopy.{ClientCopy}
use Rattle.client_copies.specs.declared.copy.Stage.{Stage}
use Rattle.client_copies.specs.declared.copy.Stage.TheVariants.{Due, Asked, Accepted, Over}
use Rattle.client_copies.specs.declared.copy.Step.{Step}
use Rattle.client_copies.specs.declared.copy.Step.TheVariants as steps

-- steps before the first change attribute is known, and before the name is
abbrev pub unknown : Step → Bool
unknown steps.OpenSource = true
unknown steps.AllowSource = true
unknown steps.Notify = true
unknown _ = false

abbrev pub nameless : Step → Bool
nameless steps.OpenSource = true
nameless steps.AllowSource = true
nameless steps.Notify = true
nameless steps.OpenDest = true
nameless steps.AllowDest = true
nameless steps.Copy = true
nameless _ = false

abbrev pub in_stage : (Step → Bool) → Stage → Bool
in_stage early (Due step) = early step
in_stage early (Asked step) = early step
in_stage early Accepted = false
in_stage early (Over verdict) = false

-- what isn't known yet isn't there
pub record IsSound (c : ClientCopy) : Type 0 where
  pub first : in_stage unknown c.stage ≡ true → c.first ≡ None
  pub id : in_stage nameless c.stage ≡ true → c.id ≡ None

abbrev pub AreSound : Copies → Type 0
AreSound t = (j : ℕ) (copy : ClientCopy) → copy_at j t ≡ Some copy → IsSound copy
