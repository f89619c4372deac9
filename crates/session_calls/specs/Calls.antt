-- The compounds that these ends send: a SEQUENCE and what is asked behind it, or an operation that stands alone
-- (RFC 8881 sections 2.10 and 18, RFC 7862 section 15). Where the RFC leaves a field to the caller, what they say
-- there is their own choice.
use Rattle.std.specs.Prelude.{◌≡◌, ℕ, ◌≤◌, ◌<◌, false, Option, Some, None, List, [], ◌∷◌, length}
use Rattle.nfs_base.specs.declared.limits.TheConstants.{DATA_LIMIT, MOST_OPERATIONS, NAME_LIMIT, SLOTS}
use Rattle.nfs_base.specs.declared.net_loc.NetLoc.{NetLoc}
use Rattle.nfs_base.specs.declared.programs.TheConstants.{CALLBACK_PROGRAM}
use Rattle.nfs_base.specs.declared.state_id.StateId.{StateId}
use Rattle.nfs_base.specs.declared.written.Stability.TheVariants.{Unstable}
use Rattle.nfs_base.specs.Forms.{net_loc}
use Rattle.copy_ops.specs.declared.arg.CopyArg.TheVariants as copies
use Rattle.file_ops.specs.declared.args.FileArg.{FileArg}
use Rattle.file_ops.specs.declared.args.FileArg.TheVariants as files
use Rattle.file_ops.specs.declared.opening.Claim.TheVariants.{Null}
use Rattle.file_ops.specs.declared.opening.OpenHow.TheVariants.{NoCreate}
use Rattle.file_ops.specs.declared.parms.ChannelAttrs.{ChannelAttrs}
use Rattle.file_ops.specs.declared.parms.SecParm.{SecParm}
use Rattle.file_ops.specs.declared.parms.SecParm.TheVariants.{Gss}
use Rattle.file_ops.specs.declared.sessions.TheConstants.{CONN_BACK_CHAN}
use Rattle.file_ops.specs.declared.sessions.Protection.TheVariants.{Unprotected}
use Rattle.nfs_compound.specs.declared.compound.Compound.{Compound}
use Rattle.nfs_compound.specs.declared.compound.TheConstants.{MINOR_VERSION}
use Rattle.nfs_compound.specs.declared.op.Op.{Op}
use Rattle.nfs_compound.specs.declared.op.Op.TheVariants.{Copy, File}
use Rattle.nfs_compound.specs.declared.tail.Tail.TheVariants.{Whole}
use Rattle.file_ops.specs.declared.files.TheConstants.{ATTR_CHANGE}
use Rattle.session_calls.specs.declared.answer.TheConstants.{ATTRS_CHANGE_AND_SIZE}
use Rattle.nfs_compound.specs.Compounds.{CompoundFits, compound_bytes}
use Rattle.session_calls.specs.declared.compound.TheConstants.{LONGEST_CALL}
use Rattle.session_calls.specs.declared.slot_call.TheConstants.{HIGHEST_SLOT, ACCESS_BOTH}
use Rattle.session_calls.specs.declared.slot_call.CopyRange.{CopyRange}
use Rattle.session_calls.specs.declared.slot_call.FileCall.{FileCall}
use Rattle.session_calls.specs.declared.slot_call.FileCall.TheVariants as asks
use Rattle.session_calls.specs.declared.slot_call.SlotCall.{SlotCall}
use Rattle.session_calls.specs.declared.slot_call.SlotCall.TheVariants as slots
use Rattle.session_calls.specs.declared.slot_call.SlotUse.{SlotUse}
use Rattle.session_calls.specs.declared.sole_call.BackChannel.{BackChannel}
use Rattle.session_calls.specs.declared.sole_call.SoleCall.{SoleCall}
use Rattle.session_calls.specs.declared.sole_call.SoleCall.TheVariants as soles
use Rattle.rpc_msg.specs.declared.numbers.TheConstants.{RPC_GSS_SVC_INTEGRITY}
use Rattle.rpc_msg.specs.declared.records.TheConstants.{RECORD_LIMIT}

-- the compound of these operations: no tag, and minor version 2
abbrev pub whole : List Op → Compound
whole ops = record { tag = []; minor = MINOR_VERSION; count = length ops; ops = ops; tail = Whole }

-- ---- in a slot

-- SEQUENCE (section 18.46): no slot above the fifteenth is used, and no reply need be kept
abbrev pub sequence_op : SlotUse → Op
sequence_op slot = File (files.Sequence (record {
  session = slot.session;
  sequence = slot.number;
  slot = slot.slot;
  highest_slot = HIGHEST_SLOT;
  cache_this = false;
}))

-- OPEN (section 18.16) of a file by its name, to read and to write, without creation and denying nothing
abbrev pub open_op : ℕ → List ℕ → List ℕ → Op
open_op client owner name = File (files.Open (record {
  seqid = 0;
  access = ACCESS_BOTH;
  deny = 0;
  client = client;
  owner = owner;
  how = NoCreate (Null name);
}))

-- GETATTR (section 18.7) of these attributes, a word of bits
abbrev pub attributes_op : ℕ → Op
attributes_op mask = File (files.GetAttr (mask ∷ []))

-- what is asked of one file
abbrev pub file_op : FileCall → Op
file_op (asks.Close id) = File (files.Close (record { seqid = 0; state_id = id }))
file_op (asks.Write id offset bytes) = File (files.Write (record { state_id = id; offset = offset; stable = Unstable; bytes = bytes }))
file_op asks.Commit = File (files.Commit (record { offset = 0; count = 0 }))
file_op asks.Change = attributes_op ATTR_CHANGE
file_op asks.ChangeAndSize = attributes_op ATTRS_CHANGE_AND_SIZE
file_op (asks.Read id offset count) = File (files.Read (record { state_id = id; offset = offset; count = count }))
file_op (asks.Status id) = Copy (copies.OffloadStatus id)
file_op (asks.Cancel id) = Copy (copies.OffloadCancel id)

-- COPY_NOTIFY (RFC 7862 section 15.3) to this destination
abbrev pub notify_op : StateId → NetLoc → Op
notify_op id destination = Copy (copies.CopyNotify (record { src_id = id; destination = destination }))

-- COPY (RFC 7862 section 15.2) from this source alone, which isn't to wait until the copy is done
abbrev pub copy_op : StateId → StateId → CopyRange → NetLoc → Op
copy_op source_id id range source = Copy (copies.Copy (record {
  src_id = source_id;
  dst_id = id;
  src_off = range.src_off;
  dst_off = range.dst_off;
  count = range.count;
  consecutive = range.consecutive;
  synchronous = false;
  sources = source ∷ [];
}))

-- what is asked for, behind SEQUENCE
abbrev pub slot_ops : SlotCall → List Op
slot_ops slots.ReclaimComplete = File (files.ReclaimComplete false) ∷ []
slot_ops (slots.Open client owner name) = File files.PutRootFh ∷ open_op client owner name ∷ File files.GetFh ∷ []
slot_ops (slots.OnFile file call) = File (files.PutFh file) ∷ file_op call ∷ []
slot_ops (slots.Notify file id destination) = File (files.PutFh file) ∷ attributes_op ATTR_CHANGE ∷ notify_op id destination ∷ []
slot_ops (slots.Copy source_file source_id file id range source) =
    File (files.PutFh source_file) ∷ File files.SaveFh ∷ File (files.PutFh file) ∷ copy_op source_id id range source ∷ []

abbrev pub slot_compound : SlotUse → SlotCall → Compound
slot_compound slot call = whole (sequence_op slot ∷ slot_ops call)

-- ---- alone

-- the attributes of a channel (section 18.36): those that these servers answer
abbrev pub channel : ChannelAttrs
channel = record {
  header_padding = 0;
  max_request = RECORD_LIMIT;
  max_response = RECORD_LIMIT;
  max_cached_response = RECORD_LIMIT;
  max_operations = MOST_OPERATIONS;
  max_requests = SLOTS;
  rdma = None;
}

-- under which contexts the server may call back
abbrev pub back_parm : BackChannel → SecParm
back_parm back = Gss (record { service = RPC_GSS_SVC_INTEGRITY; handle_from_server = back.from_server; handle_from_client = back.from_client })

-- CREATE_SESSION (section 18.36), with a back channel or without one
abbrev pub create_op : ℕ → ℕ → Option BackChannel → FileArg
create_op client sequence None = files.CreateSession (record {
  client = client;
  sequence = sequence;
  flags = 0;
  fore = channel;
  back = channel;
  program = 0;
  parms = [];
})
create_op client sequence (Some back) = files.CreateSession (record {
  client = client;
  sequence = sequence;
  flags = CONN_BACK_CHAN;
  fore = channel;
  back = channel;
  program = CALLBACK_PROGRAM;
  parms = back_parm back ∷ [];
})

abbrev pub sole_op : SoleCall → FileArg
sole_op (soles.ExchangeId verifier owner) = files.ExchangeId (record { verifier = verifier; owner = owner; flags = 0; protection = Unprotected None })
sole_op (soles.CreateSession client sequence back) = create_op client sequence back
sole_op (soles.DestroySession session) = files.DestroySession session
sole_op (soles.DestroyClientId client) = files.DestroyClientId client

abbrev pub sole_compound : SoleCall → Compound
sole_compound call = whole (File (sole_op call) ∷ [])

-- ---- what has a spelling: names and data within their limits

abbrev pub FileCallFits : FileCall → Type 0
FileCallFits (asks.Write id offset bytes) = length bytes ≤ DATA_LIMIT
FileCallFits _ = Unit {0}

abbrev pub SlotCallFits : SlotCall → Type 0
SlotCallFits (slots.Open client owner name) = (length owner ≤ NAME_LIMIT) × (length name ≤ NAME_LIMIT)
SlotCallFits (slots.OnFile file call) = FileCallFits call
SlotCallFits (slots.Notify file id destination) = net_loc.Fits destination
SlotCallFits (slots.Copy source_file source_id file id range source) = net_loc.Fits source
SlotCallFits _ = Unit {0}

abbrev pub SoleCallFits : SoleCall → Type 0
SoleCallFits (soles.ExchangeId verifier owner) = length owner ≤ NAME_LIMIT
SoleCallFits _ = Unit {0}

-- a compound that can go out: all of it is there, it has a spelling, and that is shorter than a record
pub record IsSendable (c : Compound) : Type 0 where
  pub all : c.tail ≡ Whole
  pub fits : CompoundFits c
  pub short : length (compound_bytes c) < LONGEST_CALL
