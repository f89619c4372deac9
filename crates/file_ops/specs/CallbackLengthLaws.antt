-- How many bytes CB_SEQUENCE and its answer have, by their parts.
use Rattle.std.proofs.Common.{ℕ, ◌+◌, ◌*◌, length, arith}
use Rattle.std.specs.Prelude.{sum_by}
use Rattle.std.proofs.lemmas.List.{length-append}
use Rattle.wire_xdr.specs.LengthLaws.{IsBounded, IsSized, word_length, flag_length, list_length, sum_bounded, list_sized}
use Rattle.nfs_base.specs.Forms.{answer}
use Rattle.nfs_base.specs.LengthLaws.{sixteen_bounded, answer_bounded}
use Rattle.file_ops.specs.declared.callbacks.ReferringCalls.{ReferringCalls}
use Rattle.file_ops.specs.declared.callbacks.CbSeq.{CbSeq}
use Rattle.file_ops.specs.Callbacks.{referring_call, referring_calls, cb_seq, cb_seq_done}

referring_call_bounded : IsBounded referring_call 8
unfolding referring_call
referring_call_bounded v fits = grind (arith, length-append, word_length)

-- a session and its calls
abbrev pub referring_size : ReferringCalls → ℕ
referring_size v = 20 + length v.calls * 8

referring_sized : IsSized referring_calls referring_size
unfolding referring_calls
referring_sized v fits =
    let session = sixteen_bounded v.session fits.0 in
    let listed = list_length referring_call v.calls in
    let calls = sum_bounded referring_call 8 referring_call_bounded v.calls fits.1.1 in
    grind (arith, length-append)

abbrev pub cb_seq_size : CbSeq → ℕ
cb_seq_size v = 36 + sum_by referring_size v.referring

pub cb_seq_sized : IsSized cb_seq cb_seq_size
unfolding cb_seq
cb_seq_sized v fits =
    let session = sixteen_bounded v.session fits.0 in
    let referring = list_sized referring_calls referring_size referring_sized v.referring fits.1.1.1.1.1.1 in
    grind (arith, length-append, word_length, flag_length)

cb_seq_done_bounded : IsBounded cb_seq_done 32
unfolding cb_seq_done
cb_seq_done_bounded v fits =
    let session = sixteen_bounded v.session fits.0 in
    grind (arith, length-append, word_length)

-- a status, and what was done
pub cb_seq_answer_bounded : IsBounded (answer cb_seq_done) 36
cb_seq_answer_bounded = answer_bounded cb_seq_done 32 cb_seq_done_bounded
