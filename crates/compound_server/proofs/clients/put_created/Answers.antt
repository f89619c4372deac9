use Rattle.std.proofs.Common.{◌≡◌, ℕ, Bool, List, ◌++◌, refl, sym, ap, ◌∙◌}
use Rattle.file_ops.specs.declared.operation.TheConstants.{OP_CREATE_SESSION}
use Rattle.file_ops.specs.declared.results.FileRes.TheVariants as results
use Rattle.file_ops.specs.Parms.{channel_attrs}
use Rattle.file_ops.specs.Results.{file_res}
use Rattle.file_ops.specs.Sessions.{create_session_done}
use Rattle.nfs_base.specs.declared.answer.Answer.TheVariants.{Done}
use Rattle.nfs_base.specs.Forms.{answer}
use Rattle.nfs_compound.specs.declared.res.Res.TheVariants.{File}
use Rattle.nfs_compound.specs.Results.{outcome, res_body}
use Rattle.wire_xdr.specs.Words.{word_bytes, fixed_bytes}
use Rattle.compound_server.specs.Clients.{channel, create_done, granted_flags}
use Rattle.compound_server.specs.PageLaws.{added_then, added_as}
use Rattle.compound_server.proofs.clients.put_created.Goals as goal

abbrev text_of : (session : List ℕ) (sequence flags : ℕ) → List ℕ
text_of session sequence flags =
    word_bytes OP_CREATE_SESSION ++ (word_bytes 0 ++ (fixed_bytes session ++ (word_bytes sequence ++ (word_bytes flags
    ++ (channel_attrs.spell channel ++ channel_attrs.spell channel)))))

spelled : (session : List ℕ) (sequence : ℕ) (asked : Bool)
    → outcome.spell (File (results.CreateSession (Done (create_done session sequence asked)))) ≡ text_of session sequence (granted_flags asked)
unfolding outcome res_body file_res answer create_session_done word_bytes
spelled session sequence asked = refl

pub returns-clause-added : goal.returns-clause-added
returns-clause-added c =
    added_as (ap (λ (flags : ℕ). text_of c.args.session.now c.args.sequence flags) c.granted_flags.ensures ∙ sym (spelled c.args.session.now c.args.sequence c.args.asked))
    (added_then c.u32.ensures.added (added_then c.u32-2.ensures.added (added_then c.put_session.ensures.added (added_then c.u32-3.ensures.added
    (added_then c.u32-4.ensures.added (added_then c.put_channel.ensures.added c.put_channel-2.ensures.added))))))
