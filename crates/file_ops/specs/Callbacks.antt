-- Forms of CB_SEQUENCE, operation 11 of a callback (RFC 8881 section 20.9).
use Rattle.std.specs.Prelude.{ℕ, Bool, List, refl}
use Rattle.file_ops.specs.declared.callbacks.ReferringCall.{ReferringCall}
use Rattle.file_ops.specs.declared.callbacks.ReferringCalls.{ReferringCalls}
use Rattle.file_ops.specs.declared.callbacks.CbSeq.{CbSeq}
use Rattle.file_ops.specs.declared.callbacks.CbSeqDone.{CbSeqDone}
use Rattle.wire_xdr.specs.Form.{Form}
use Rattle.wire_xdr.specs.Forms.{word, flag, fixed, both, seen_as}
use Rattle.file_ops.specs.Free.{list_of}

unfoldable pub referring_call : Form ReferringCall
referring_call = seen_as (λ v. record { sequence = v.0; slot = v.1 }) (λ v. (v.sequence, v.slot)) (λ v. refl) (λ v. refl) (both word word)

unfoldable pub referring_calls : Form ReferringCalls
referring_calls = seen_as (λ v. record { session = v.0; calls = v.1 }) (λ v. (v.session, v.calls)) (λ v. refl) (λ v. refl) (both (fixed 16) (list_of referring_call))

abbrev pub cb_seq_of : List ℕ × (ℕ × (ℕ × (ℕ × (Bool × List ReferringCalls)))) → CbSeq
cb_seq_of v = record { session = v.0; sequence = v.1.0; slot = v.1.1.0; highest_slot = v.1.1.1.0; cache_this = v.1.1.1.1.0; referring = v.1.1.1.1.1 }

unfoldable pub cb_seq : Form CbSeq
cb_seq = seen_as cb_seq_of (λ v. (v.session, (v.sequence, (v.slot, (v.highest_slot, (v.cache_this, v.referring)))))) (λ v. refl) (λ v. refl) (both (fixed 16) (both word (both word (both word (both flag (list_of referring_calls))))))

abbrev pub cb_seq_done_of : List ℕ × (ℕ × (ℕ × (ℕ × ℕ))) → CbSeqDone
cb_seq_done_of v = record { session = v.0; sequence = v.1.0; slot = v.1.1.0; highest_slot = v.1.1.1.0; target_highest_slot = v.1.1.1.1 }

unfoldable pub cb_seq_done : Form CbSeqDone
cb_seq_done = seen_as cb_seq_done_of (λ v. (v.session, (v.sequence, (v.slot, (v.highest_slot, v.target_highest_slot))))) (λ v. refl) (λ v. refl) (both (fixed 16) (both word (both word (both word word))))
