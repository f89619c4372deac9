use Rattle.std.proofs.Common.{◌≡◌, ℕ, List, ◌++◌, refl, sym}
use Rattle.file_ops.specs.declared.operation.TheConstants.{OP_SEQUENCE}
use Rattle.file_ops.specs.declared.sessions.SequenceArgs.{SequenceArgs}
use Rattle.file_ops.specs.Free.{zero_word}
use Rattle.file_ops.specs.Results.{file_res}
use Rattle.file_ops.specs.Sessions as forms
use Rattle.nfs_base.specs.Forms.{answer}
use Rattle.nfs_compound.specs.Results.{outcome, res_body}
use Rattle.wire_xdr.specs.Words.{word_bytes, fixed_bytes}
use Rattle.compound_server.specs.Compounds.{sequence_done}
use Rattle.compound_server.specs.PageLaws.{added_then, added_as}
use Rattle.compound_server.proofs.replying.put_sequence.Goals as goal

abbrev text_of : SequenceArgs → List ℕ
text_of a =
    word_bytes OP_SEQUENCE ++ (word_bytes 0 ++ (fixed_bytes a.session ++ (word_bytes a.sequence ++ (word_bytes a.slot ++ (word_bytes 15 ++ (word_bytes 15 ++ word_bytes 0))))))

spelled : (a : SequenceArgs) → outcome.spell (sequence_done a) ≡ text_of a
unfolding outcome res_body file_res answer forms.sequence_done zero_word word_bytes
spelled a = refl

pub returns-clause-added : goal.returns-clause-added
returns-clause-added c =
    added_as (sym (spelled c.args.args.now))
    (added_then c.u32.ensures.added (added_then c.u32-2.ensures.added (added_then c.put_session.ensures.added
    (added_then c.u32-3.ensures.added (added_then c.u32-4.ensures.added (added_then c.u32-5.ensures.added
    (added_then c.u32-6.ensures.added c.u32-7.ensures.added)))))))
