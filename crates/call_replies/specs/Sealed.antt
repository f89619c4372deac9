-- Whose a seal is.
use Rattle.std.specs.Prelude.{◌≡◌, Option, Some}
use Rattle.nfs_base.specs.declared.seal.End.{End}
use Rattle.nfs_base.specs.declared.seal.Seal.{Seal}

-- a seal, if there is one, is this end's
abbrev pub IsSealedBy : End → Option Seal → Type 0
IsSealedBy owner o = (seal : Seal) → o ≡ Some seal → seal.owner ≡ owner
