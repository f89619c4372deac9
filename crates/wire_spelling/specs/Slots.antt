-- What a call says by a slot: the operations that its sealed body carries, of which the first is SEQUENCE (RFC 2203 section
-- 5.3.2, RFC 8881 sections 2.10.6 and 18.46).
use Rattle.std.specs.Prelude.{ℕ, ◌==◌, ◌&&◌, nat_le, Bool, if◌then◌else◌, List, [], ◌∷◌, drop, take, Option, Some, None, Result, Ok, Err}
use Rattle.std.specs.Int.{w32, from_be_bytes}
use Rattle.file_ops.specs.declared.args.FileArg.TheVariants.{Sequence}
use Rattle.file_ops.specs.declared.sessions.SequenceArgs.{SequenceArgs}
use Rattle.gss_ctx.specs.Seals.{cred_of, two_opaques}
use Rattle.nfs_base.specs.declared.programs.TheConstants.{NFS_PROGRAM, PROC_COMPOUND}
use Rattle.nfs_compound.specs.Compounds.{compound_of}
use Rattle.nfs_compound.specs.VolumeCalls.{volume_calls}
use Rattle.nfs_compound.specs.declared.compound.Compound.{Compound}
use Rattle.nfs_compound.specs.declared.op.Op.{Op}
use Rattle.nfs_compound.specs.declared.op.Op.TheVariants.{File}
use Rattle.rpc_msg.specs.declared.numbers.TheConstants.{RPCSEC_GSS_DATA}
use Rattle.wire_model.specs.Spelling.{SlotName}
use Rattle.wire_xdr.specs.All.{value_of}
use Rattle.wire_spelling.specs.Calls.{ReadCall, asks_for, call_in}

-- ---- what a sealed body carries behind its sequence number; whether its code is right isn't looked at

abbrev pub carried_by : Option (List ℕ × List ℕ) → List ℕ
carried_by None = []
carried_by (Some parts) = drop 4 parts.0

abbrev pub carried_in : List ℕ → List ℕ
carried_in body = carried_by (value_of two_opaques body)

-- ---- the operations of a call: the arguments of COMPOUND, whole (RFC 8881 section 16.2)

abbrev pub ops_in : Option ReadCall → List ℕ
ops_in None = []
ops_in (Some c) = carried_in c.body

abbrev pub ops_of : List ℕ → List ℕ
ops_of bytes = ops_in (call_in bytes)

-- they call a volume once at most; what can't be read calls none
abbrev pub calls_in : Result Compound ℕ → ℕ
calls_in (Ok c) = volume_calls c.ops
calls_in (Err at) = 0

abbrev pub is_simple : List ℕ → Bool
is_simple ops = nat_le (calls_in (compound_of ops)) 1

-- ---- the slot: a session stands by the number in its ID, behind the boot number (own)

abbrev pub session_in : List ℕ → ℕ
session_in id = from_be_bytes w32 (take 4 (drop 4 id))

abbrev pub slot_named : SequenceArgs → SlotName
slot_named a = record { session = session_in a.session; slot = a.slot; number = a.sequence }

abbrev pub first_slot : List Op → Option SlotName
first_slot (File (Sequence a) ∷ ops) = Some (slot_named a)
first_slot _ = None

abbrev pub slot_asked : Result Compound ℕ → Option SlotName
slot_asked (Ok c) = first_slot c.ops
slot_asked (Err at) = None

-- it is named by DATA on COMPOUND of NFS
abbrev pub asks_compound : ReadCall → Bool
asks_compound c =
    (c.head.prog == NFS_PROGRAM) && (c.head.proc == PROC_COMPOUND) && asks_for RPCSEC_GSS_DATA (cred_of c.head)

abbrev pub slot_in : Option ReadCall → Option SlotName
slot_in None = None
slot_in (Some c) = if asks_compound c then slot_asked (compound_of (carried_in c.body)) else None

abbrev pub slot_of : List ℕ → Option SlotName
slot_of bytes = slot_in (call_in bytes)
