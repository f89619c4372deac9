-- What a CB_COMPOUND is answered by, and what it does to the client's copies (RFC 8881 sections 16.2 and 20, RFC 7862
-- section 16.1): the first operation is CB_SEQUENCE, of the session that belongs to the calling context; evaluation stops
-- at the first status other than 0.
use Rattle.std.specs.Prelude.{ℕ, ◌==◌, ◌∷◌, ◌++◌, nat_lt, bytes_eq, Bool, true, false, if◌then◌else◌, List, [], Option, Some, None}
use Rattle.copy_ops.specs.declared.callback.CbOffload.{CbOffload}
use Rattle.copy_ops.specs.declared.operation.TheConstants.{OP_CB_OFFLOAD}
use Rattle.file_ops.specs.declared.callbacks.CbSeq.{CbSeq}
use Rattle.file_ops.specs.declared.callbacks.CbSeqDone.{CbSeqDone}
use Rattle.file_ops.specs.declared.operation.TheConstants.{OP_CB_SEQUENCE, OP_ILLEGAL}
use Rattle.nfs_base.specs.declared.answer.Answer.TheVariants.{Done, Refused}
use Rattle.nfs_base.specs.declared.limits.TheConstants.{MOST_OPERATIONS}
use Rattle.nfs_base.specs.declared.status.Status.{Status}
use Rattle.nfs_base.specs.declared.status.TheConstants.Status as statuses
use Rattle.nfs_compound.specs.declared.cb_compound.CbCompound.{CbCompound}
use Rattle.nfs_compound.specs.declared.cb_op.CbOp.{CbOp}
use Rattle.nfs_compound.specs.declared.cb_op.CbOp.TheVariants as ops
use Rattle.nfs_compound.specs.declared.cb_res.CbRes.{CbRes}
use Rattle.nfs_compound.specs.declared.cb_res.CbRes.TheVariants as results
use Rattle.nfs_compound.specs.declared.tail.Tail.{Tail}
use Rattle.nfs_compound.specs.declared.tail.Tail.TheVariants as tails
use Rattle.nfs_compound.specs.Callbacks.{cb_op_number}
use Rattle.client_copies.specs.Table.{Copies, offloaded_in}
use Rattle.client_copies.specs.declared.table.Named.{Named}
use Rattle.client_copies.specs.declared.table.Named.TheVariants as named
use Rattle.callbacks.specs.declared.evaluation.Told.{Told}
use Rattle.callbacks.specs.declared.evaluation.TheConstants.{HIGHEST_SLOT}
use Rattle.nfs_compound.specs.declared.compound.TheConstants.{MINOR_VERSION}

-- what is answered: the status, the results, what is told of copies, and the copies behind it
pub record Outcome : Type 0 where
  pub status : Status
  pub results : List CbRes
  pub told : List Told
  pub copies : Copies

abbrev pub answered : Status → CbRes → Copies → Outcome
answered status res t = record { status = status; results = res ∷ []; told = []; copies = t }

-- ---- CB_SEQUENCE (RFC 8881 section 20.9)

abbrev pub is_session : List ℕ → Option (List ℕ) → Bool
is_session session None = false
is_session session (Some own) = bytes_eq own session

abbrev pub sequenced : CbSeq → CbSeqDone
sequenced args = record {
  session = args.session;
  sequence = args.sequence;
  slot = args.slot;
  highest_slot = HIGHEST_SLOT;
  target_highest_slot = HIGHEST_SLOT;
}

abbrev pub sequence_by : Bool → Bool → CbSeq → Copies → Outcome
sequence_by false own args t = answered statuses.SEQUENCE_POS (results.Sequence (Refused statuses.SEQUENCE_POS)) t
sequence_by true false args t = answered statuses.BADSESSION (results.Sequence (Refused statuses.BADSESSION)) t
sequence_by true true args t = answered statuses.OK (results.Sequence (Done (sequenced args))) t

-- ---- CB_OFFLOAD (RFC 7862 section 16.1)

abbrev pub named_status : Named → Status
named_status (named.Copy number said) = statuses.OK
named_status named.Held = statuses.OK
named_status named.Full = statuses.DELAY

abbrev pub named_told : Named → List Told
named_told (named.Copy number said) = (record { copy = number; said = said }) ∷ []
named_told named.Held = []
named_told named.Full = []

abbrev pub named_outcome : Named × Copies → Outcome
named_outcome o = record {
  status = named_status o.0;
  results = results.Offload (named_status o.0) ∷ [];
  told = named_told o.0;
  copies = o.1;
}

abbrev pub offload_by : Bool → CbOffload → Copies → Outcome
offload_by true args t = answered statuses.OP_NOT_IN_SESSION (results.Offload statuses.OP_NOT_IN_SESSION) t
offload_by false args t = named_outcome (offloaded_in args.id args.end t)

-- ---- one operation, and whether it is the first

abbrev pub op_outcome : Option (List ℕ) → Bool → CbOp → Copies → Outcome
op_outcome session first (ops.Sequence args) t = sequence_by first (is_session args.session session) args t
op_outcome session first (ops.Offload args) t = offload_by first args t

-- ---- what can't be read or isn't served

-- the result of an operation that is refused, by its number
abbrev pub refused_res : ℕ → Status → CbRes
refused_res op status =
    if op == OP_CB_SEQUENCE then results.Sequence (Refused status)
    else if op == OP_CB_OFFLOAD then results.Offload status
    else results.Bare op status

abbrev pub done : Copies → Outcome
done t = record { status = statuses.OK; results = []; told = []; copies = t }

abbrev pub tail_outcome : Tail → Copies → Outcome
tail_outcome tails.Whole t = done t
tail_outcome (tails.Unreadable place op at) t = answered statuses.BADXDR (refused_res op statuses.BADXDR) t
tail_outcome (tails.Unsupported place op) t = answered statuses.NOTSUPP (refused_res op statuses.NOTSUPP) t
tail_outcome (tails.Illegal place op) t = answered statuses.OP_ILLEGAL (refused_res OP_ILLEGAL statuses.OP_ILLEGAL) t

-- ---- all operations in order

abbrev pub behind : Outcome → Outcome → Outcome
behind o more = record {
  status = more.status;
  results = o.results ++ more.results;
  told = o.told ++ more.told;
  copies = more.copies;
}

-- the others follow an operation with status 0
abbrev pub if_ok : Bool → Outcome → Outcome → Outcome
if_ok true o more = behind o more
if_ok false o more = o

abbrev pub walked : Option (List ℕ) → Bool → List CbOp → Tail → Copies → Outcome
walked session first [] tail t = tail_outcome tail t
walked session first (op ∷ more) tail t =
    if_ok ((op_outcome session first op t).status.number == 0) (op_outcome session first op t)
    (walked session false more tail (op_outcome session first op t).copies)

-- ---- a compound: its minor version is 2, and it has at most 16 operations

-- the number of the first operation; one whose number is missing is answered under that of ILLEGAL
abbrev pub tail_number : Tail → ℕ
tail_number tails.Whole = OP_ILLEGAL
tail_number (tails.Unreadable place op at) = op
tail_number (tails.Unsupported place op) = op
tail_number (tails.Illegal place op) = OP_ILLEGAL

abbrev pub first_number : List CbOp → Tail → ℕ
first_number [] tail = tail_number tail
first_number (op ∷ more) tail = cb_op_number op

abbrev pub unserved : Copies → Outcome
unserved t = record { status = statuses.MINOR_VERS_MISMATCH; results = []; told = []; copies = t }

abbrev pub counted : Bool → Option (List ℕ) → CbCompound → Copies → Outcome
counted true session c t = answered statuses.TOO_MANY_OPS (refused_res (first_number c.ops c.tail) statuses.TOO_MANY_OPS) t
counted false session c t = walked session true c.ops c.tail t

abbrev pub evaluated_by : Bool → Option (List ℕ) → CbCompound → Copies → Outcome
evaluated_by true session c t = counted (nat_lt MOST_OPERATIONS c.count) session c t
evaluated_by false session c t = unserved t

abbrev pub evaluated : Option (List ℕ) → CbCompound → Copies → Outcome
evaluated session c t = evaluated_by (c.minor == MINOR_VERSION) session c t
