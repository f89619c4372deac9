-- CB_OFFLOAD in a compound behind CB_SEQUENCE, and what says that it was done (RFC 7862 section 16.1, RFC 8881 section 20.9).
-- Where the RFC leaves a field to the server, what stands there is its own choice.
use Rattle.std.specs.Prelude.{◌==◌, ◌&&◌, Bool, false, List, [], ◌∷◌, if◌then◌else◌}
use Rattle.copy_ops.specs.declared.callback.OffloadEnd.{OffloadEnd}
use Rattle.copy_ops.specs.declared.callback.OffloadEnd.TheVariants as ends
use Rattle.nfs_base.specs.Answers.{answer_status}
use Rattle.nfs_base.specs.declared.status.Status.{Status}
use Rattle.nfs_base.specs.declared.status.TheConstants.Status.{SERVERFAULT}
use Rattle.nfs_compound.specs.declared.cb_compound.CbCompound.{CbCompound}
use Rattle.nfs_compound.specs.declared.cb_op.CbOp.{CbOp}
use Rattle.nfs_compound.specs.declared.cb_op.CbOp.TheVariants as ops
use Rattle.nfs_compound.specs.declared.cb_reply.CbReply.{CbReply}
use Rattle.nfs_compound.specs.declared.cb_res.CbRes.{CbRes}
use Rattle.nfs_compound.specs.declared.cb_res.CbRes.TheVariants as results
use Rattle.nfs_compound.specs.declared.compound.TheConstants.{MINOR_VERSION}
use Rattle.nfs_compound.specs.declared.tail.Tail.TheVariants.{Whole}
use Rattle.session_calls.specs.declared.slot_call.SlotUse.{SlotUse}
use Rattle.dest_back.specs.declared.compound.Ended.{Ended}
use Rattle.dest_back.specs.declared.compound.TheConstants.{HIGHEST_SLOT}

-- no slot above the fifteenth is used, and no reply need be kept
abbrev pub sequence_op : SlotUse → CbOp
sequence_op at = ops.Sequence (record {
  session = at.session;
  sequence = at.number;
  slot = at.slot;
  highest_slot = HIGHEST_SLOT;
  cache_this = false;
  referring = [];
})

-- A failure is told by a status other than 0, since by 0 all of it would be said to be copied. Every cause has such a status;
-- where one had none, it would be SERVERFAULT.
abbrev pub failure : Status → Status
failure status = if status.number == 0 then SERVERFAULT else status

abbrev pub end_told : OffloadEnd → OffloadEnd
end_told (ends.Done response) = ends.Done response
end_told (ends.Failed status count) = ends.Failed (failure status) count

abbrev pub offload_op : Ended → CbOp
offload_op told = ops.Offload (record { handle = told.file; id = told.id; end = end_told told.end })

abbrev pub offload_compound : SlotUse → Ended → CbCompound
offload_compound at told = record {
  tag = [];
  minor = MINOR_VERSION;
  ident = 0;
  count = 2;
  ops = sequence_op at ∷ offload_op told ∷ [];
  tail = Whole;
}

-- ---- a reply says that it was done: both operations are answered, with status 0

abbrev pub is_sequence : CbRes → Bool
is_sequence (results.Sequence answer) = (answer_status answer).number == 0
is_sequence (results.Offload status) = false
is_sequence (results.Bare op status) = false

abbrev pub is_offload : CbRes → Bool
is_offload (results.Sequence answer) = false
is_offload (results.Offload status) = status.number == 0
is_offload (results.Bare op status) = false

abbrev pub are_done : List CbRes → Bool
are_done [] = false
are_done (first ∷ []) = false
are_done (first ∷ second ∷ []) = is_sequence first && is_offload second
are_done (first ∷ second ∷ third ∷ more) = false

abbrev pub is_done : CbReply → Bool
is_done reply = (reply.status.number == 0) && are_done reply.results
