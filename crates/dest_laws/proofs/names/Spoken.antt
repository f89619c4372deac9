-- A callback is read as it was told, whatever the numbers of bytes, of its slot and of the client's program are.
use Rattle.std.proofs.Common.{◌≡◌, ℕ, ◌+◌, ◌<◌, ◌≤◌, ◌^◌, Bool, List, [], ◌++◌, length, refl, ap, subst, ◌∙◌, arith, lit<, lit≤}
use Rattle.std.specs.Prelude.{◌==◌, ◌&&◌, ◌||◌, if◌then◌else◌, true, false}
use Rattle.caller_laws.specs.CredLaws.{short_cred}
use Rattle.copy_ops.specs.Forms.{cb_offload, offload_end, offload_end_arms}
use Rattle.copy_ops.specs.declared.callback.OffloadEnd.{OffloadEnd}
use Rattle.copy_ops.specs.declared.callback.OffloadEnd.TheVariants as ends
use Rattle.dest_back.specs.Compounds.{end_told, failure, offload_compound, offload_op, sequence_op}
use Rattle.dest_back.specs.Telling.{callback_head, sealed_callback}
use Rattle.dest_back.specs.declared.compound.Ended.{Ended}
use Rattle.dest_laws.proofs.names.Low.{hyper_low, low_hyper, low_word, word_low}
use Rattle.dest_laws.specs.Names.Told.{CanBeTold, EndCanBeTold}
use Rattle.file_ops.specs.Callbacks.{cb_seq, referring_calls}
use Rattle.gss_ctx.specs.Calls.{Side, call_cred, verified, with_cred}
use Rattle.gss_ctx.specs.Init.{asked_cred}
use Rattle.gss_ctx.specs.Seals.{Mic, header_of, sealed_body}
use Rattle.gss_mech.specs.Tokens.{IsSized}
use Rattle.nfs_base.specs.Forms.{handle, stability, state_id, status, write_response}
use Rattle.nfs_base.specs.declared.job.JobName.{JobName}
use Rattle.nfs_base.specs.declared.status.Status.{Status}
use Rattle.nfs_base.specs.declared.status.TheConstants.Status.{SERVERFAULT}
use Rattle.nfs_base.specs.declared.written.Stability.{Stability}
use Rattle.nfs_base.specs.declared.written.Stability.TheVariants.{DataSync, FileSync, Unstable}
use Rattle.nfs_compound.specs.CallLengthLaws.{cb_compound_sized}
use Rattle.nfs_compound.specs.Callbacks.{cb_arg, cb_operation}
use Rattle.nfs_compound.specs.Compounds.{CbCompoundFits, cb_compound_bytes, cb_compound_of}
use Rattle.nfs_compound.specs.declared.cb_compound.CbCompound.{CbCompound}
use Rattle.nfs_compound.specs.declared.tail.Tail.TheVariants.{Whole}
use Rattle.rpc_msg.specs.Heads.{auth, call}
use Rattle.rpc_msg.specs.declared.call.CallHead.{CallHead}
use Rattle.rpc_msg.specs.declared.numbers.TheConstants.{RPCSEC_GSS_DATA}
use Rattle.session_calls.specs.declared.slot_call.SlotUse.{SlotUse}
use Rattle.slot_calls.specs.BytesLaws.{ops_are_bytes}
use Rattle.wire_meaning.specs.Meaning.{cb_ops_read, ends_stable, is_name, job_named, meaning, reported_by}
use Rattle.wire_spelling.specs.ReadLaws.{ops_back}
use Rattle.wire_spelling.specs.Slots.{ops_of}
use Rattle.wire_xdr.specs.Arms.{is_listed}
use Rattle.wire_xdr.specs.Cursor.{IsBytes}
use Rattle.wire_xdr.specs.Parts.{list_spell, option_spell}
use Rattle.wire_xdr.specs.Words.{fixed_bytes, flag_bytes, opaque_bytes, word_bytes}

-- ---- the same with numbers that have a spelling

abbrev low_end : OffloadEnd → OffloadEnd
low_end (ends.Done response) = ends.Done (record response { count = low_hyper response.count })
low_end (ends.Failed status count) = ends.Failed status (low_hyper count)

abbrev low_slot : SlotUse → SlotUse
low_slot slot = record { session = slot.session; slot = low_word slot.slot; number = low_word slot.number }

abbrev low_told : Ended → Ended
low_told told = record told { end = low_end told.end }

end_low : (end : OffloadEnd) → offload_end.spell (end_told end) ≡ offload_end.spell (end_told (low_end end))
unfolding offload_end write_response
end_low (ends.Done response) =
    ap (λ (count : List ℕ). word_bytes 0 ++ (option_spell state_id response.callback_id ++ (count ++ (stability.spell response.committed ++ fixed_bytes response.verifier))))
    (hyper_low response.count)
end_low (ends.Failed status count) = ap (λ (n : List ℕ). word_bytes (failure status).number ++ n) (hyper_low count)

offload_low : (told : Ended) → cb_operation.spell (offload_op told) ≡ cb_operation.spell (offload_op (low_told told))
unfolding cb_operation cb_arg cb_offload
offload_low told = ap (λ (end : List ℕ). word_bytes 15 ++ (handle.spell told.file ++ (state_id.spell told.id ++ end))) (end_low told.end)

sequence_low : (slot : SlotUse) → cb_operation.spell (sequence_op slot) ≡ cb_operation.spell (sequence_op (low_slot slot))
unfolding cb_operation cb_arg cb_seq
sequence_low slot =
    let spelled : List ℕ → List ℕ → List ℕ =
    λ number place. word_bytes 11 ++ (fixed_bytes slot.session ++ (number ++ (place ++ (word_bytes 15 ++ (flag_bytes false ++ list_spell referring_calls []))))) in
    ap (λ (number : List ℕ). spelled number (word_bytes slot.slot)) (word_low slot.number)
    ∙ ap (λ (place : List ℕ). spelled (word_bytes (low_word slot.number)) place) (word_low slot.slot)

compound_low : (slot : SlotUse) (told : Ended) → cb_compound_bytes (offload_compound slot told) ≡ cb_compound_bytes (offload_compound (low_slot slot) (low_told told))
unfolding cb_compound_bytes list_spell
compound_low slot told =
    let spelled : List ℕ → List ℕ → List ℕ =
    λ first second. opaque_bytes [] ++ (word_bytes 2 ++ (word_bytes 0 ++ (word_bytes 2 ++ (first ++ (second ++ []))))) in
    ap (λ (first : List ℕ). spelled first (cb_operation.spell (offload_op told))) (sequence_low slot)
    ∙ ap (λ (second : List ℕ). spelled (cb_operation.spell (sequence_op (low_slot slot))) second) (offload_low told)

-- ---- these have a spelling

stability_fits : (s : Stability) → stability.Fits s
unfolding stability
stability_fits Unstable = (lit< tt, tt)
stability_fits DataSync = (lit< tt, tt)
stability_fits FileSync = (lit< tt, tt)

low_small : (n : ℕ) → low_word n < 2 ^ 32
low_small n = omega arith

-- a status that a failure is told by isn't 0
failure_by : (s : Status) (zero : Bool) → (s.number == 0) ≡ zero → s.number < 2 ^ 32
    → ((if zero then SERVERFAULT else s).number < 2 ^ 32) × (is_listed offload_end_arms (if zero then SERVERFAULT else s).number ≡ false)
failure_by s true is small = (lit< tt, refl)
failure_by s false is small = (small, ap (λ (b : Bool). b || false) is)

end_fits : (end : OffloadEnd) → EndCanBeTold end → offload_end.Fits (end_told (low_end end))
unfolding offload_end write_response
end_fits (ends.Done response) can = (lit< tt, refl, (can.0, (omega arith, (stability_fits response.committed, can.1))))
end_fits (ends.Failed status count) can = let by = failure_by status (status.number == 0) refl can in (by.0, by.1, omega arith)

offload_fits : (told : Ended) → CanBeTold told → cb_operation.Fits (offload_op (low_told told))
unfolding cb_operation cb_arg cb_offload handle
offload_fits told can = (lit< tt, (refl, (can.handle, (can.id, end_fits told.end can.end))))

sequence_fits : (slot : SlotUse) → length slot.session ≡ 16 → cb_operation.Fits (sequence_op (low_slot slot))
unfolding cb_operation cb_arg cb_seq
sequence_fits slot whole = (lit< tt, (refl, (whole, (low_small slot.number, (low_small slot.slot, (lit< tt, (tt, (lit≤ tt, tt))))))))

compound_fits : (slot : SlotUse) (told : Ended) → length slot.session ≡ 16 → CanBeTold told → CbCompoundFits (offload_compound (low_slot slot) (low_told told))
compound_fits slot told whole can = record {
  tag = lit≤ tt;
  minor = lit< tt;
  ident = lit< tt;
  ops = (lit≤ tt, (sequence_fits slot whole, (offload_fits told can, tt)));
}

-- ---- the head of the call

abbrev head_asked : Side → ℕ → ℕ → CallHead
head_asked side xid program = with_cred (callback_head xid program) (call_cred side.handle side.next (asked_cred RPCSEC_GSS_DATA))

abbrev head_sent : Mic → Side → ℕ → ℕ → CallHead
head_sent mic side xid program = verified mic side.key (head_asked side xid program)

-- the code is of the program's number as it is
abbrev low_head : Mic → Side → ℕ → ℕ → CallHead
low_head mic side xid program = record (head_sent mic side xid program) { prog = low_word program }

head_low : (mic : Mic) (side : Side) (xid program : ℕ) → call.spell (head_sent mic side xid program) ≡ call.spell (low_head mic side xid program)
unfolding call
head_low mic side xid program =
    let head = head_sent mic side xid program in
    ap (λ (prog : List ℕ). word_bytes xid ++ (word_bytes 0 ++ ((word_bytes 2 ++ (prog ++ (word_bytes 1 ++ word_bytes 1))) ++ (auth.spell head.cred ++ auth.spell head.verf))))
    (word_low program)

head_fits : (mic : Mic) (side : Side) (xid program : ℕ) → IsSized mic → length side.handle ≡ 8 → xid < 2 ^ 32 → call.Fits (low_head mic side xid program)
unfolding call auth
head_fits mic side xid program sized eight small =
    let short = short_cred (call_cred side.handle side.next (asked_cred RPCSEC_GSS_DATA)) eight in
    let code = sized side.key 0 (header_of 0 (head_asked side xid program)) in
    (small, (lit< tt, ((lit< tt, (low_small program, (lit< tt, lit< tt))), ((lit< tt, short), (lit< tt, omega arith)))))

-- ---- all of it

-- what is told is read back
abbrev pub AreRead : Type 0
AreRead = (c : CbCompound) → IsBytes (cb_compound_bytes c) → c.tail ≡ Whole → c.count ≡ length c.ops → CbCompoundFits c → cb_ops_read (cb_compound_of (cb_compound_bytes c)) ≡ c.ops

or_false : (b : Bool) → (b || false) ≡ b
or_false true = refl
or_false false = refl

stable_low : (end : OffloadEnd) → ends_stable (end_told (low_end end)) ≡ ends_stable end
stable_low (ends.Done response) = refl
stable_low (ends.Failed status count) = refl

pub callback_says : (mic : Mic) → IsSized mic → AreRead → (side : Side) (xid program : ℕ) (slot : SlotUse) (told : Ended) → length side.handle ≡ 8 → xid < 2 ^ 32
    → length slot.session ≡ 16 → CanBeTold told → IsBytes (sealed_callback mic side xid program slot told).bytes
    → (name : JobName) → meaning.reports (ops_of (sealed_callback mic side xid program slot told).bytes) name ≡ (ends_stable told.end && is_name name (job_named told.id))
callback_says mic sized read side xid program slot told eight small whole can are name =
    let bytes : List ℕ = (sealed_callback mic side xid program slot told).bytes in
    let c : CbCompound = offload_compound (low_slot slot) (low_told told) in
    let args : List ℕ = cb_compound_bytes c in
    let fits = compound_fits slot told whole can in
    let head : CallHead = low_head mic side xid program in
    let body : List ℕ → List ℕ = λ args. sealed_body (mic side.key 0) side.next args in
    let same : bytes ≡ call.spell head ++ body args =
    ap (λ (front : List ℕ). front ++ body (cb_compound_bytes (offload_compound slot told))) (head_low mic side xid program)
    ∙ ap (λ (asked : List ℕ). call.spell head ++ body asked) (compound_low slot told) in
    let short : length args + 4 < 4294967296 = omega (arith, cb_compound_sized c fits) in
    let ops : ops_of bytes ≡ args =
    ap ops_of same ∙ ops_back (mic side.key 0) head side.next args (sized side.key 0) (head_fits mic side xid program sized eight small) short in
    let again : cb_ops_read (cb_compound_of args) ≡ c.ops = read c (subst IsBytes ops (ops_are_bytes bytes are)) refl refl fits in
    let id = is_name name (job_named told.id) in
    ap (λ (asked : List ℕ). reported_by name (cb_ops_read (cb_compound_of asked))) ops
    ∙ ap (reported_by name) again
    ∙ or_false (ends_stable (end_told (low_end told.end)) && id)
    ∙ ap (λ (stable : Bool). stable && id) (stable_low told.end)
