-- Forms of the arguments of an operation, by its number.
use Rattle.std.specs.Prelude.{◌≡◌, ℕ, Bool, true, false, List, [], ◌∷◌, refl}
use Rattle.nfs_base.specs.Forms.{handle}
use Rattle.file_ops.specs.declared.operation.TheConstants.{OP_CLOSE, OP_COMMIT, OP_GETATTR, OP_GETFH, OP_LOOKUP, OP_OPEN, OP_PUTFH, OP_PUTROOTFH, OP_READ, OP_RESTOREFH, OP_SAVEFH, OP_WRITE, OP_EXCHANGE_ID, OP_CREATE_SESSION, OP_DESTROY_SESSION, OP_SEQUENCE, OP_DESTROY_CLIENTID, OP_RECLAIM_COMPLETE, OP_ILLEGAL}
use Rattle.file_ops.specs.declared.opening.Claim.TheVariants.{Null, Other}
use Rattle.file_ops.specs.declared.opening.OpenHow.{OpenHow}
use Rattle.file_ops.specs.declared.opening.OpenHow.TheVariants.{NoCreate, Create}
use Rattle.file_ops.specs.declared.sessions.Protection.{Protection}
use Rattle.file_ops.specs.declared.sessions.Protection.TheVariants.{Unprotected, Protected}
use Rattle.file_ops.specs.declared.args.FileArg.{FileArg}
use Rattle.file_ops.specs.declared.args.FileArg.TheVariants.{Close, Commit, GetAttr, GetFh, Lookup, Open, PutFh, PutRootFh, Read, RestoreFh, SaveFh, Write, ExchangeId, CreateSession, DestroySession, Sequence, DestroyClientId, ReclaimComplete, Illegal}
use Rattle.wire_xdr.specs.Form.{Form}
use Rattle.wire_xdr.specs.Arms.{Case, ArmOf, IsListed, arm, holds, number_of}
use Rattle.wire_xdr.specs.Forms.{hyper, flag, fixed, void, chosen}
use Rattle.file_ops.specs.Free.{bytes, bitmap}
use Rattle.file_ops.specs.Files.{close_args, commit_args, read_args, write_args}
use Rattle.file_ops.specs.Opening.{open_args}
use Rattle.file_ops.specs.Sessions.{exchange_id_args, create_session_args, sequence_args}

abbrev pub arg_case : FileArg → Case FileArg
arg_case (Close v) = holds OP_CLOSE close_args Close v
arg_case (Commit v) = holds OP_COMMIT commit_args Commit v
arg_case (GetAttr v) = holds OP_GETATTR bitmap GetAttr v
arg_case GetFh = holds OP_GETFH void (λ v. GetFh) tt
arg_case (Lookup v) = holds OP_LOOKUP bytes Lookup v
arg_case (Open v) = holds OP_OPEN open_args Open v
arg_case (PutFh v) = holds OP_PUTFH handle PutFh v
arg_case PutRootFh = holds OP_PUTROOTFH void (λ v. PutRootFh) tt
arg_case (Read v) = holds OP_READ read_args Read v
arg_case RestoreFh = holds OP_RESTOREFH void (λ v. RestoreFh) tt
arg_case SaveFh = holds OP_SAVEFH void (λ v. SaveFh) tt
arg_case (Write v) = holds OP_WRITE write_args Write v
arg_case (ExchangeId v) = holds OP_EXCHANGE_ID exchange_id_args ExchangeId v
arg_case (CreateSession v) = holds OP_CREATE_SESSION create_session_args CreateSession v
arg_case (DestroySession v) = holds OP_DESTROY_SESSION (fixed 16) DestroySession v
arg_case (Sequence v) = holds OP_SEQUENCE sequence_args Sequence v
arg_case (DestroyClientId v) = holds OP_DESTROY_CLIENTID hyper DestroyClientId v
arg_case (ReclaimComplete v) = holds OP_RECLAIM_COMPLETE flag ReclaimComplete v
arg_case Illegal = holds OP_ILLEGAL void (λ v. Illegal) tt

abbrev pub arg_arms : List (ArmOf arg_case)
arg_arms =
    arm OP_CLOSE close_args Close (λ v. refl)
    ∷ arm OP_COMMIT commit_args Commit (λ v. refl)
    ∷ arm OP_GETATTR bitmap GetAttr (λ v. refl)
    ∷ arm OP_GETFH void (λ v. GetFh) (λ v. refl)
    ∷ arm OP_LOOKUP bytes Lookup (λ v. refl)
    ∷ arm OP_OPEN open_args Open (λ v. refl)
    ∷ arm OP_PUTFH handle PutFh (λ v. refl)
    ∷ arm OP_PUTROOTFH void (λ v. PutRootFh) (λ v. refl)
    ∷ arm OP_READ read_args Read (λ v. refl)
    ∷ arm OP_RESTOREFH void (λ v. RestoreFh) (λ v. refl)
    ∷ arm OP_SAVEFH void (λ v. SaveFh) (λ v. refl)
    ∷ arm OP_WRITE write_args Write (λ v. refl)
    ∷ arm OP_EXCHANGE_ID exchange_id_args ExchangeId (λ v. refl)
    ∷ arm OP_CREATE_SESSION create_session_args CreateSession (λ v. refl)
    ∷ arm OP_DESTROY_SESSION (fixed 16) DestroySession (λ v. refl)
    ∷ arm OP_SEQUENCE sequence_args Sequence (λ v. refl)
    ∷ arm OP_DESTROY_CLIENTID hyper DestroyClientId (λ v. refl)
    ∷ arm OP_RECLAIM_COMPLETE flag ReclaimComplete (λ v. refl)
    ∷ arm OP_ILLEGAL void (λ v. Illegal) (λ v. refl)
    ∷ []

pub arg_listed : (v : FileArg) → IsListed arg_arms v
arg_listed (Close v) = record { reads = λ otherwise c. refl; whole = refl }
arg_listed _ = record { reads = λ otherwise c. refl; whole = refl }

unfoldable pub file_arg : ℕ → Form FileArg
file_arg = chosen arg_arms arg_listed

abbrev pub file_arg_number : FileArg → ℕ
file_arg_number = number_of arg_case

pub file_arg_own : (number : ℕ) (v : FileArg) → (file_arg number).Fits v → file_arg_number v ≡ number
unfolding file_arg
file_arg_own number v fits = fits.0

-- ---- an operation that is cut: its spelling ends with the word that decides this, and of what a peer
-- sends behind that word nothing is read

abbrev pub how_is_cut : OpenHow → Bool
how_is_cut (NoCreate (Null name)) = false
how_is_cut (NoCreate (Other claim)) = true
how_is_cut (Create mode) = true

abbrev pub protection_is_cut : Protection → Bool
protection_is_cut (Unprotected id) = false
protection_is_cut (Protected how) = true

abbrev pub is_cut : FileArg → Bool
is_cut (Open v) = how_is_cut v.how
is_cut (ExchangeId v) = protection_is_cut v.protection
is_cut _ = false
