-- The life of a client's copy over a run of turns.
use Rattle.std.specs.Prelude.{ℕ, ◌≡◌, ◌⊎◌, List, [], Option, Some, None}
use Rattle.client_copies.specs.Copies.{begun}
use Rattle.client_copies.specs.Words.{ran, told_by_run}
use Rattle.client_copies.specs.declared.copy.ClientCopy.{ClientCopy}
use Rattle.client_copies.specs.declared.event.Event.{Event}
use Rattle.client_copies.specs.declared.told.Word.{Word}
use Rattle.nfs_base.specs.declared.copy_spec.CopySpec.{CopySpec}

-- it was begun once; events made of it what it is, and told all that was told of it
pub record HasLived (copy : Option ClientCopy) (told : List Word) : Type 0 where
  pub spec : CopySpec
  pub secret : List ℕ
  pub events : List Event
  pub is : copy ≡ Some (ran events (begun spec secret))
  pub words : told ≡ told_by_run events (begun spec secret)

-- or it wasn't begun, and nothing was told of it
abbrev pub Lives : Option ClientCopy → List Word → Type 0
Lives copy told = ((copy ≡ None) × (told ≡ [])) ⊎ HasLived copy told
