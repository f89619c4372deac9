-- What a WRITE and a COMMIT of its file promise together (RFC 8881 sections 18.3.3 and 18.32.3): where both are answered with
-- status 0 and one verifier, the bytes of the WRITE that weren't written over are safe from then on.
use Rattle.std.specs.Prelude.{◌≡◌, ◌⊎◌, ℕ, ◌+◌, ◌-◌, ◌<◌, ◌≤◌, Ok, List, [], ◌∷◌, ◌++◌, length, drop}
use Rattle.copy_model.specs.Moment.{seen_dest}
use Rattle.copy_model.specs.Promise.{Shows}
use Rattle.copy_model.specs.Volume.{byte_at}
use Rattle.file_ops.specs.declared.args.FileArg.TheVariants as args
use Rattle.file_ops.specs.declared.files.CommitArgs.{CommitArgs}
use Rattle.file_ops.specs.declared.files.WriteArgs.{WriteArgs}
use Rattle.file_ops.specs.declared.results.FileRes.TheVariants as results
use Rattle.file_server.specs.Handles.{byte_file}
use Rattle.file_server.specs.Writing.{taken_bytes}
use Rattle.nfs_base.specs.declared.answer.Answer.TheVariants.{Done}
use Rattle.nfs_base.specs.declared.written.Stability.{Stability}
use Rattle.nfs_compound.specs.declared.op.Op.TheVariants.{File}
use Rattle.nfs_compound.specs.declared.res.Res.TheVariants as res
use Rattle.server_volume.specs.declared.used.CallAnswer.{CallAnswer}
use Rattle.server_volume.specs.declared.used.CallAnswer.TheVariants.{Done as Through}
use Rattle.server_volume.specs.declared.used.Used.{Used}
use Rattle.server_volume.specs.declared.used.VolumeCall.{VolumeCall}
use Rattle.server_volume.specs.declared.used.VolumeCall.TheVariants as calls
use Rattle.session_server.specs.Host.{Codes, HostState, Rules}
use Rattle.commit_laws.specs.Executing.{Executed}
use Rattle.commit_laws.specs.Run.{Event, executed_in, store_of, used_in}

-- the operation found this file under its current handle
abbrev pub FindsFile : {X : Type 0} → Executed X → (file : ℕ) → Type 0
FindsFile e file = byte_file e.found.going.machine.store e.found.going.held.current ≡ Ok file

-- a WRITE of these bytes at an offset of a file, answered with status 0 and this verifier
pub record IsWrite {X : Type 0} (e : Executed X) (file off : ℕ) (bytes verifier : List ℕ) : Type 0 where
  pub asked : WriteArgs
  pub count : ℕ
  pub how : Stability
  pub op_is : e.op ≡ File (args.Write asked)
  pub file_is : FindsFile e file
  pub off_is : asked.offset ≡ off
  pub bytes_are : taken_bytes asked.bytes ≡ bytes
  pub answer_is : e.answered.res ≡ res.File (results.Write (Done (record { count = count; committed = how; verifier = verifier })))

-- a COMMIT of a file, answered with status 0 and this verifier
pub record IsCommit {X : Type 0} (e : Executed X) (file : ℕ) (verifier : List ℕ) : Type 0 where
  pub asked : CommitArgs
  pub op_is : e.op ≡ File (args.Commit asked)
  pub file_is : FindsFile e file
  pub answer_is : e.answered.res ≡ res.File (results.Commit (Done verifier))

-- ---- what was written over

-- a call of a volume wrote this byte
abbrev pub WritesByte : VolumeCall → CallAnswer → (file place : ℕ) → Type 0
WritesByte (calls.Write at off len) Through file place = (at ≡ file) × (off ≤ place) × (place < off + len)
WritesByte call answer file place = ⊥

-- one of these did
abbrev pub AreWriting : List Used → (file place : ℕ) → Type 0
AreWriting [] file place = ⊥
AreWriting (u ∷ us) file place = WritesByte u.call u.answer file place ⊎ AreWriting us file place

-- the calls of a step behind those up to an operation's end
abbrev pub used_behind : {X : Type 0} → Executed X → List Used → List Used
used_behind e used = drop (length e.answered.course.going.used) used

-- Behind the operation, which was executed in step i, and before moment m a write of the volume reached this byte.
abbrev pub IsWrittenOver : {X : Type 0} → (ℕ → Event) → (i : ℕ) → Executed X → (m : ℕ) → (file place : ℕ) → Type 0
IsWrittenOver event i e m file place =
    AreWriting (used_behind e (used_in (event i))) file place ⊎ ((k : ℕ) × (i < k) × (k < m) × AreWriting (used_in (event k)) file place)

-- ---- the order of operations

-- an operation of some with those before and behind it
pub record IsAmong {X : Type 0} (es : List (Executed X)) (e : Executed X) : Type 0 where
  pub front : List (Executed X)
  pub back : List (Executed X)
  pub is : es ≡ front ++ e ∷ back

-- two of them, in their order
pub record AreAmong {X : Type 0} (es : List (Executed X)) (e f : Executed X) : Type 0 where
  pub front : List (Executed X)
  pub middle : List (Executed X)
  pub back : List (Executed X)
  pub is : es ≡ front ++ e ∷ (middle ++ f ∷ back)

-- One operation was executed in step i and another one behind it in step j: in a later step, or in the same COMPOUND.
abbrev pub ComesBefore : {X C : Type 0} → Rules X C → Codes → (ℕ → HostState X C) → (ℕ → Event) → (i : ℕ) → Executed X → (j : ℕ) → Executed X → Type 0
ComesBefore rules codes host event i e j f =
    ((i < j) × IsAmong (executed_in rules codes (event i) (host i)) e × IsAmong (executed_in rules codes (event j) (host j)) f)
    ⊎ ((i ≡ j) × AreAmong (executed_in rules codes (event j) (host j)) e f)

-- Each byte of a WRITE, once a COMMIT of its file was executed behind it with the same verifier, and as long as no write
-- reached it since: whoever reads it, and whatever a crash leaves there, it is the WRITE's.
abbrev pub KeepsCommits : {X C : Type 0} → Rules X C → Codes → (ℕ → HostState X C) → (ℕ → Event) → Type 0
KeepsCommits {X} rules codes host event =
    (i j m : ℕ) (w c : Executed X) (file off : ℕ) (bytes verifier : List ℕ) (place x : ℕ)
    → ComesBefore rules codes host event i w j c → IsWrite w file off bytes verifier → IsCommit c file verifier
    → j < m → off ≤ place → place < off + length bytes → (IsWrittenOver event i w m file place → ⊥)
    → Shows (seen_dest (store_of (host m)).volume) file place x → x ≡ byte_at bytes (place - off)
