-- Operations that are answered by a status and nothing more, by their numbers. RFC 8881 section 16.2.3.
use Rattle.std.specs.Prelude.{ℕ, ◌==◌, ◌||◌, Bool, Option, Some, None, List, [], ◌∷◌, if◌then◌else◌}
use Rattle.copy_ops.specs.declared.operation.TheConstants.{OP_COPY, OP_COPY_NOTIFY, OP_OFFLOAD_CANCEL, OP_OFFLOAD_STATUS, OP_CLONE}
use Rattle.copy_ops.specs.declared.res.CopyRes.TheVariants as copies
use Rattle.copy_ops.specs.declared.results.CopyAnswer.TheVariants as answers
use Rattle.file_ops.specs.declared.operation.TheConstants.{OP_CLOSE, OP_COMMIT, OP_GETATTR, OP_GETFH, OP_LOOKUP, OP_OPEN, OP_PUTFH, OP_PUTROOTFH, OP_READ, OP_RESTOREFH, OP_SAVEFH, OP_WRITE, OP_EXCHANGE_ID, OP_CREATE_SESSION, OP_DESTROY_SESSION, OP_SEQUENCE, OP_DESTROY_CLIENTID, OP_RECLAIM_COMPLETE, OP_ILLEGAL}
use Rattle.file_ops.specs.declared.results.FileRes.TheVariants as files
use Rattle.nfs_base.specs.declared.answer.Answer.TheVariants.{Refused}
use Rattle.nfs_base.specs.declared.status.Status.{Status}
use Rattle.nfs_base.specs.declared.status.TheConstants.Status as statuses
use Rattle.nfs_compound.specs.declared.res.Res.{Res}
use Rattle.nfs_compound.specs.declared.res.Res.TheVariants.{Copy, File, Bare}
use Rattle.nfs_compound.specs.declared.tail.Tail.{Tail}
use Rattle.nfs_compound.specs.declared.tail.Tail.TheVariants.{Whole, Unreadable, Unsupported, Illegal}
use Rattle.compound_server.specs.declared.refusing.TailRefusal.{TailRefusal}

-- an operation's number, and its result with a status alone
pub record Refusing : Type 0 where
  pub op : ℕ
  pub res : Status → Res

abbrev pub refusings : List Refusing
refusings =
    record { op = OP_CLOSE; res = λ s. File (files.Close (Refused s)) }
    ∷ record { op = OP_COMMIT; res = λ s. File (files.Commit (Refused s)) }
    ∷ record { op = OP_GETATTR; res = λ s. File (files.GetAttr (Refused s)) }
    ∷ record { op = OP_GETFH; res = λ s. File (files.GetFh (Refused s)) }
    ∷ record { op = OP_LOOKUP; res = λ s. File (files.Lookup s) }
    ∷ record { op = OP_OPEN; res = λ s. File (files.Open (Refused s)) }
    ∷ record { op = OP_PUTFH; res = λ s. File (files.PutFh s) }
    ∷ record { op = OP_PUTROOTFH; res = λ s. File (files.PutRootFh s) }
    ∷ record { op = OP_READ; res = λ s. File (files.Read (Refused s)) }
    ∷ record { op = OP_RESTOREFH; res = λ s. File (files.RestoreFh s) }
    ∷ record { op = OP_SAVEFH; res = λ s. File (files.SaveFh s) }
    ∷ record { op = OP_WRITE; res = λ s. File (files.Write (Refused s)) }
    ∷ record { op = OP_EXCHANGE_ID; res = λ s. File (files.ExchangeId (Refused s)) }
    ∷ record { op = OP_CREATE_SESSION; res = λ s. File (files.CreateSession (Refused s)) }
    ∷ record { op = OP_DESTROY_SESSION; res = λ s. File (files.DestroySession s) }
    ∷ record { op = OP_SEQUENCE; res = λ s. File (files.Sequence (Refused s)) }
    ∷ record { op = OP_DESTROY_CLIENTID; res = λ s. File (files.DestroyClientId s) }
    ∷ record { op = OP_RECLAIM_COMPLETE; res = λ s. File (files.ReclaimComplete s) }
    ∷ record { op = OP_ILLEGAL; res = λ s. File (files.Illegal s) }
    ∷ record { op = OP_COPY; res = λ s. Copy (copies.Copy (answers.Refused s)) }
    ∷ record { op = OP_COPY_NOTIFY; res = λ s. Copy (copies.CopyNotify (Refused s)) }
    ∷ record { op = OP_OFFLOAD_CANCEL; res = λ s. Copy (copies.OffloadCancel s) }
    ∷ record { op = OP_OFFLOAD_STATUS; res = λ s. Copy (copies.OffloadStatus (Refused s)) }
    ∷ record { op = OP_CLONE; res = λ s. Copy (copies.Clone s) }
    ∷ []

-- a number that isn't listed has a result of its own kind
abbrev pub refused_among : List Refusing → (op : ℕ) → Status → Res
refused_among [] op s = Bare op s
refused_among (r ∷ rs) op s = if op == r.op then r.res s else refused_among rs op s

-- the result of the operation with this number that is a status alone
unfoldable pub refused : (op : ℕ) → Status → Res
refused op s = refused_among refusings op s

-- ---- where an operation may stand (RFC 8881 sections 2.10.6.2 and 18.46.3)

-- these stand alone in their compound; that they do so behind SEQUENCE too is own
abbrev pub stands_alone : (op : ℕ) → Bool
stands_alone op = (op == OP_EXCHANGE_ID) || (op == OP_CREATE_SESSION) || (op == OP_DESTROY_SESSION) || (op == OP_DESTROY_CLIENTID)

-- why an operation can't stand behind SEQUENCE
abbrev pub place_refusal : (op : ℕ) → Option Status
place_refusal op =
    if op == OP_SEQUENCE then Some statuses.SEQUENCE_POS else (if stands_alone op then Some statuses.NOT_ONLY_OP else None)

-- ---- what stands behind the operations that were read

-- the operation that couldn't be read or isn't served, and its status
abbrev pub tail_refusal : Tail → Option TailRefusal
tail_refusal Whole = None
tail_refusal (Unreadable place op at) = Some (record { op = op; status = statuses.BADXDR })
tail_refusal (Unsupported place op) = Some (record { op = op; status = statuses.NOTSUPP })
tail_refusal (Illegal place op) = Some (record { op = OP_ILLEGAL; status = statuses.OP_ILLEGAL })
