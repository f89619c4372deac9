use Rattle.std.proofs.Common.{◌≡◌, ap, refl, false, length, ◌∷◌, List}
use Rattle.std.specs.List.{AllByRecursion}
use Rattle.nfs_compound.specs.Ops.{op_is_cut}
use Rattle.nfs_compound.specs.declared.op.Op.{Op}
use Rattle.session_calls.specs.Calls.{file_op, sequence_op, slot_compound, slot_ops}
use Rattle.session_calls.specs.declared.slot_call.FileCall.{FileCall}
use Rattle.session_calls.specs.declared.slot_call.FileCall.TheVariants as asks
use Rattle.session_calls.specs.declared.slot_call.SlotCall.{SlotCall}
use Rattle.session_calls.specs.declared.slot_call.SlotCall.TheVariants as slots
use Rattle.session_calls.specs.declared.slot_call.SlotUse.{SlotUse}
use Rattle.wire_meaning.proofs.laws.questions_are_read.Goals as goal
use Rattle.wire_meaning.specs.Meaning.{cb_ops_read, ops_read}

-- no operation that is asked in a slot is cut
file_whole : (call : FileCall) → op_is_cut (file_op call) ≡ false
file_whole (asks.Close id) = refl
file_whole (asks.Write id offset bytes) = refl
file_whole asks.Commit = refl
file_whole asks.Change = refl
file_whole asks.ChangeAndSize = refl
file_whole (asks.Read id offset count) = refl
file_whole (asks.Status id) = refl
file_whole (asks.Cancel id) = refl

slot_whole : (slot : SlotUse) (call : SlotCall) → AllByRecursion (λ (op : Op). op_is_cut op ≡ false) (sequence_op slot ∷ slot_ops call)
slot_whole slot slots.ReclaimComplete = (refl, (refl, tt))
slot_whole slot (slots.Open client owner name) = (refl, (refl, (refl, (refl, tt))))
slot_whole slot (slots.OnFile file call) = (refl, (refl, (file_whole call, tt)))
slot_whole slot (slots.Notify file id destination) = (refl, (refl, (refl, (refl, tt))))
slot_whole slot (slots.Copy source_file source_id file id range source) = (refl, (refl, (refl, (refl, (refl, tt)))))

pub returns : goal.returns
returns c = record {
  asked = λ slot call bytes fits.
      ap ops_read (c.written_compounds_are_read.ensures.compound (slot_compound slot call) bytes refl refl fits (slot_whole slot call));
  told = λ back bytes whole counted fits.
      ap cb_ops_read (c.written_compounds_are_read.ensures.cb_compound back bytes whole counted fits);
}
