-- Forms of what an operation answers, by its number: a status, and with status 0 what it did.
use Rattle.std.specs.Prelude.{◌≡◌, ℕ, List, [], ◌∷◌, refl}
use Rattle.nfs_base.specs.Forms.{handle, state_id, status, answer}
use Rattle.nfs_base.specs.Answers.{answer_status}
use Rattle.nfs_base.specs.declared.status.Status.{Status}
use Rattle.file_ops.specs.declared.operation.TheConstants.{OP_CLOSE, OP_COMMIT, OP_GETATTR, OP_GETFH, OP_LOOKUP, OP_OPEN, OP_PUTFH, OP_PUTROOTFH, OP_READ, OP_RESTOREFH, OP_SAVEFH, OP_WRITE, OP_EXCHANGE_ID, OP_CREATE_SESSION, OP_DESTROY_SESSION, OP_SEQUENCE, OP_DESTROY_CLIENTID, OP_RECLAIM_COMPLETE, OP_ILLEGAL}
use Rattle.file_ops.specs.declared.results.FileRes.{FileRes}
use Rattle.file_ops.specs.declared.results.FileRes.TheVariants.{Close, Commit, GetAttr, GetFh, Lookup, Open, PutFh, PutRootFh, Read, RestoreFh, SaveFh, Write, ExchangeId, CreateSession, DestroySession, Sequence, DestroyClientId, ReclaimComplete, Illegal}
use Rattle.wire_xdr.specs.Form.{Form}
use Rattle.wire_xdr.specs.Arms.{Case, ArmOf, IsListed, arm, holds, number_of}
use Rattle.wire_xdr.specs.Forms.{fixed, chosen}
use Rattle.file_ops.specs.Files.{attributes, read_done, write_done}
use Rattle.file_ops.specs.Opening.{open_done}
use Rattle.file_ops.specs.Sessions.{exchange_id_done, create_session_done, sequence_done}

abbrev pub res_case : FileRes → Case FileRes
res_case (Close v) = holds OP_CLOSE (answer state_id) Close v
res_case (Commit v) = holds OP_COMMIT (answer (fixed 8)) Commit v
res_case (GetAttr v) = holds OP_GETATTR (answer attributes) GetAttr v
res_case (GetFh v) = holds OP_GETFH (answer handle) GetFh v
res_case (Lookup v) = holds OP_LOOKUP status Lookup v
res_case (Open v) = holds OP_OPEN (answer open_done) Open v
res_case (PutFh v) = holds OP_PUTFH status PutFh v
res_case (PutRootFh v) = holds OP_PUTROOTFH status PutRootFh v
res_case (Read v) = holds OP_READ (answer read_done) Read v
res_case (RestoreFh v) = holds OP_RESTOREFH status RestoreFh v
res_case (SaveFh v) = holds OP_SAVEFH status SaveFh v
res_case (Write v) = holds OP_WRITE (answer write_done) Write v
res_case (ExchangeId v) = holds OP_EXCHANGE_ID (answer exchange_id_done) ExchangeId v
res_case (CreateSession v) = holds OP_CREATE_SESSION (answer create_session_done) CreateSession v
res_case (DestroySession v) = holds OP_DESTROY_SESSION status DestroySession v
res_case (Sequence v) = holds OP_SEQUENCE (answer sequence_done) Sequence v
res_case (DestroyClientId v) = holds OP_DESTROY_CLIENTID status DestroyClientId v
res_case (ReclaimComplete v) = holds OP_RECLAIM_COMPLETE status ReclaimComplete v
res_case (Illegal v) = holds OP_ILLEGAL status Illegal v

abbrev pub res_arms : List (ArmOf res_case)
res_arms =
    arm OP_CLOSE (answer state_id) Close (λ v. refl)
    ∷ arm OP_COMMIT (answer (fixed 8)) Commit (λ v. refl)
    ∷ arm OP_GETATTR (answer attributes) GetAttr (λ v. refl)
    ∷ arm OP_GETFH (answer handle) GetFh (λ v. refl)
    ∷ arm OP_LOOKUP status Lookup (λ v. refl)
    ∷ arm OP_OPEN (answer open_done) Open (λ v. refl)
    ∷ arm OP_PUTFH status PutFh (λ v. refl)
    ∷ arm OP_PUTROOTFH status PutRootFh (λ v. refl)
    ∷ arm OP_READ (answer read_done) Read (λ v. refl)
    ∷ arm OP_RESTOREFH status RestoreFh (λ v. refl)
    ∷ arm OP_SAVEFH status SaveFh (λ v. refl)
    ∷ arm OP_WRITE (answer write_done) Write (λ v. refl)
    ∷ arm OP_EXCHANGE_ID (answer exchange_id_done) ExchangeId (λ v. refl)
    ∷ arm OP_CREATE_SESSION (answer create_session_done) CreateSession (λ v. refl)
    ∷ arm OP_DESTROY_SESSION status DestroySession (λ v. refl)
    ∷ arm OP_SEQUENCE (answer sequence_done) Sequence (λ v. refl)
    ∷ arm OP_DESTROY_CLIENTID status DestroyClientId (λ v. refl)
    ∷ arm OP_RECLAIM_COMPLETE status ReclaimComplete (λ v. refl)
    ∷ arm OP_ILLEGAL status Illegal (λ v. refl)
    ∷ []

pub res_listed : (v : FileRes) → IsListed res_arms v
res_listed (Close v) = record { reads = λ otherwise c. refl; whole = refl }
res_listed _ = record { reads = λ otherwise c. refl; whole = refl }

unfoldable pub file_res : ℕ → Form FileRes
file_res = chosen res_arms res_listed

abbrev pub file_res_number : FileRes → ℕ
file_res_number = number_of res_case

pub file_res_own : (number : ℕ) (v : FileRes) → (file_res number).Fits v → file_res_number v ≡ number
unfolding file_res
file_res_own number v fits = fits.0

-- ---- the status of an answer

abbrev pub file_res_status : FileRes → Status
file_res_status (Close v) = answer_status v
file_res_status (Commit v) = answer_status v
file_res_status (GetAttr v) = answer_status v
file_res_status (GetFh v) = answer_status v
file_res_status (Lookup v) = v
file_res_status (Open v) = answer_status v
file_res_status (PutFh v) = v
file_res_status (PutRootFh v) = v
file_res_status (Read v) = answer_status v
file_res_status (RestoreFh v) = v
file_res_status (SaveFh v) = v
file_res_status (Write v) = answer_status v
file_res_status (ExchangeId v) = answer_status v
file_res_status (CreateSession v) = answer_status v
file_res_status (DestroySession v) = v
file_res_status (Sequence v) = answer_status v
file_res_status (DestroyClientId v) = v
file_res_status (ReclaimComplete v) = v
file_res_status (Illegal v) = v
