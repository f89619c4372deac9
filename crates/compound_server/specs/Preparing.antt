-- Operations with the memory that they want. Own.
use Rattle.std.specs.Prelude.{Option, List, [], ◌∷◌}
use Rattle.copy_ops.specs.declared.arg.CopyArg.{CopyArg}
use Rattle.nfs_compound.specs.declared.op.Op.{Op}
use Rattle.nfs_compound.specs.declared.op.Op.TheVariants as ops
use Rattle.compound_server.specs.declared.preparing.Prepared.{Prepared}
use Rattle.compound_server.specs.declared.preparing.Prepared.TheVariants.{File, Copy}

-- the operation
abbrev pub op_of : {R : Type 0} → Prepared R → Op
op_of (File a) = ops.File a
op_of (Copy a room) = ops.Copy a

-- its memory was taken for it
abbrev pub IsSuited : {R C : Type 0} → (R → Option C → CopyArg → Type 0) → Option C → Prepared R → Type 0
IsSuited suits carry (File a) = Unit {0}
IsSuited suits carry (Copy a room) = suits room carry a

abbrev pub AreSuited : {R C : Type 0} → (R → Option C → CopyArg → Type 0) → Option C → List (Prepared R) → Type 0
AreSuited suits carry [] = Unit {0}
AreSuited suits carry (p ∷ ps) = IsSuited suits carry p × AreSuited suits carry ps
