-- The lines of a call's body: the operations of a COMPOUND or a CB_COMPOUND (RFC 8881 sections 16.2 and 20.2),
-- as they stand there or sealed for integrity (RFC 2203 section 5.3.2). No code is checked. Own format.
use Rattle.std.specs.Prelude.{ℕ, ◌+◌, ◌==◌, ◌&&◌, Bool, true, false, nat_lt, List, [], ◌∷◌, ◌++◌, length, drop, Result, Ok, Err, if◌then◌else◌}
use Rattle.wire_xdr.specs.declared.form.bad.BadXdr.{BadXdr}
use Rattle.wire_xdr.specs.Cursor.{Cursor}
use Rattle.wire_xdr.specs.WordReads.{opaque_read}
use Rattle.nfs_base.specs.declared.programs.TheConstants.{NFS_PROGRAM, NFS_VERSION, CALLBACK_PROGRAM, CALLBACK_VERSION, PROC_COMPOUND}
use Rattle.rpc_msg.specs.declared.call.CallHead.{CallHead}
use Rattle.rpc_msg.specs.declared.gss_cred.GssCred.{GssCred}
use Rattle.rpc_msg.specs.GssCred.{gss_cred}
use Rattle.rpc_msg.specs.Messages.{first, whole}
use Rattle.nfs_compound.specs.declared.compound.Compound.{Compound}
use Rattle.nfs_compound.specs.declared.cb_compound.CbCompound.{CbCompound}
use Rattle.nfs_compound.specs.declared.op.Op.{Op}
use Rattle.nfs_compound.specs.declared.cb_op.CbOp.{CbOp}
use Rattle.nfs_compound.specs.declared.tail.Tail.{Tail}
use Rattle.nfs_compound.specs.declared.tail.Tail.TheVariants as tails
use Rattle.nfs_compound.specs.Ops.{op_number}
use Rattle.nfs_compound.specs.Callbacks.{cb_op_number}
use Rattle.nfs_compound.specs.Compounds.{compound_of, cb_compound_of}
use Rattle.wire_show.specs.declared.line.ShownLine.{ShownLine}
use Rattle.wire_show.specs.declared.line.ShownLine.TheVariants as lines

-- a call of COMPOUND, and one of CB_COMPOUND
abbrev pub is_compound : CallHead → Bool
is_compound head = (head.prog == NFS_PROGRAM) && ((head.vers == NFS_VERSION) && (head.proc == PROC_COMPOUND))

abbrev pub is_callback : CallHead → Bool
is_callback head = (head.prog == CALLBACK_PROGRAM) && ((head.vers == CALLBACK_VERSION) && (head.proc == PROC_COMPOUND))

-- ---- the operations that were read, and what stands behind them

-- a line for each, by its place
abbrev pub numbered : {A : Type 0} → (ℕ → A → ShownLine) → ℕ → List A → List ShownLine
numbered line place [] = []
numbered line place (op ∷ ops) = line place op ∷ numbered line (place + 1) ops

abbrev pub op_line : ℕ → Op → ShownLine
op_line place op = lines.Op place (op_number op)

abbrev pub callback_line : ℕ → CbOp → ShownLine
callback_line place op = lines.Callback place (cb_op_number op)

abbrev pub tail_lines : Tail → List ShownLine
tail_lines tails.Whole = []
tail_lines (tails.Unreadable place op at) = lines.Unreadable place ∷ []
tail_lines (tails.Unsupported place op) = lines.Unsupported place ∷ []
tail_lines (tails.Illegal place op) = lines.Illegal place ∷ []

-- ---- the arguments of a call, which begin at a place of the record

abbrev pub compound_lines : ℕ → Result Compound ℕ → List ShownLine
compound_lines at (Ok compound) = numbered op_line 0 compound.ops ++ tail_lines compound.tail
compound_lines at (Err place) = lines.Unread (at + place) ∷ []

abbrev pub callback_lines : ℕ → Result CbCompound ℕ → List ShownLine
callback_lines at (Ok compound) = numbered callback_line 0 compound.ops ++ tail_lines compound.tail
callback_lines at (Err place) = lines.Unread (at + place) ∷ []

abbrev pub args_lines : Bool → ℕ → List ℕ → List ShownLine
args_lines true at bytes = callback_lines at (cb_compound_of bytes)
args_lines false at bytes = compound_lines at (compound_of bytes)

-- Sealed arguments stand behind the length of what is sealed and a sequence number.
abbrev pub behind_number : Bool → ℕ → List ℕ → List ShownLine
behind_number callback at sealed = if nat_lt (length sealed) 4 then lines.Unread (at + 4) ∷ [] else args_lines callback (at + 8) (drop 4 sealed)

abbrev pub sealed_lines : Bool → ℕ → Result (List ℕ × Cursor) ℕ → List ShownLine
sealed_lines callback at (Ok sealed) = behind_number callback at sealed.0
sealed_lines callback at (Err place) = lines.Unread (at + place) ∷ []

-- ---- the body of a call, which begins at a place of the record

-- the credential says that data is sealed for integrity
abbrev pub is_sealed : Result GssCred BadXdr → Bool
is_sealed (Ok cred) = (cred.gss_proc == 0) && (cred.service == 2)
is_sealed (Err bad) = false

-- by the flavor of the credential; under no other flavor the body is shown
abbrev pub by_flavor : CallHead → Bool → ℕ → List ℕ → List ShownLine
by_flavor head callback at body =
    if head.cred.flavor == 0 then args_lines callback at body
    else if (head.cred.flavor == 6) && is_sealed (whole (gss_cred.read (first head.cred.body)))
    then sealed_lines callback at (opaque_read 4294967295 (first body))
    else []

unfoldable pub body_lines : CallHead → ℕ → List ℕ → List ShownLine
body_lines head at body =
    if is_callback head then by_flavor head true at body
    else if is_compound head then by_flavor head false at body
    else []
