use Rattle.std.proofs.Common.{◌≡◌, ℕ, Bool, List, ◌++◌, sym, ap, ◌∙◌, append_assoc, w64}
use Rattle.std.specs.Int.{to_be_bytes}
use Rattle.file_ops.specs.declared.operation.TheConstants.{OP_EXCHANGE_ID}
use Rattle.file_ops.specs.declared.results.FileRes.TheVariants as results
use Rattle.file_ops.specs.Free.{zero_word}
use Rattle.file_ops.specs.Results.{file_res}
use Rattle.file_ops.specs.Sessions.{exchange_id_done}
use Rattle.nfs_base.specs.declared.answer.Answer.TheVariants.{Done}
use Rattle.nfs_base.specs.Forms.{answer}
use Rattle.nfs_compound.specs.declared.res.Res.TheVariants.{File}
use Rattle.nfs_compound.specs.Results.{outcome, res_body}
use Rattle.wire_xdr.specs.Parts.{option_spell}
use Rattle.wire_xdr.specs.Words.{word_bytes, hyper_bytes, flag_bytes, opaque_bytes}
use Rattle.compound_server.specs.Clients.{exchange_done, exchange_flags}
use Rattle.compound_server.specs.PageLaws.{added_then, added_as}
use Rattle.compound_server.proofs.clients.put_exchanged.Goals as goal

abbrev text_of : (name : List ℕ) → (client sequence flags : ℕ) → List ℕ
text_of name client sequence flags =
    word_bytes OP_EXCHANGE_ID ++ (word_bytes 0 ++ (hyper_bytes client ++ (word_bytes sequence ++ (word_bytes flags ++ (word_bytes 0
    ++ (hyper_bytes 0 ++ (opaque_bytes name ++ (opaque_bytes name ++ word_bytes 0))))))))

-- the first four parts stand together
first_four : (a b c d rest : List ℕ) → (a ++ (b ++ (c ++ d))) ++ rest ≡ a ++ (b ++ (c ++ (d ++ rest)))
first_four a b c d rest =
    append_assoc a (b ++ (c ++ d)) rest
    ∙ ap (λ (bytes : List ℕ). a ++ bytes) (append_assoc b (c ++ d) rest ∙ ap (λ (bytes : List ℕ). b ++ bytes) (append_assoc c d rest))

spelled : (name : List ℕ) (client sequence : ℕ) (confirmed : Bool)
    → outcome.spell (File (results.ExchangeId (Done (exchange_done name client sequence confirmed)))) ≡ text_of name client sequence (exchange_flags confirmed)
unfolding outcome res_body file_res answer exchange_id_done zero_word option_spell flag_bytes word_bytes
spelled name client sequence confirmed =
    ap (λ (bytes : List ℕ). word_bytes OP_EXCHANGE_ID ++ (word_bytes 0 ++ bytes))
    (first_four (hyper_bytes client) (word_bytes sequence) (word_bytes (exchange_flags confirmed)) (word_bytes 0)
    (hyper_bytes 0 ++ (opaque_bytes name ++ (opaque_bytes name ++ word_bytes 0))))

named : (n : ℕ) (name : List ℕ) → name ≡ to_be_bytes w64 n → name ≡ hyper_bytes n
unfolding hyper_bytes
named n name is = is

pub returns-clause-added : goal.returns-clause-added
returns-clause-added c =
    let name = c.to_be_bytes-name.result in
    added_as (ap (λ (flags : ℕ). text_of name c.args.client c.args.sequence flags) c.exchange_flags.ensures
    ∙ ap (λ (bytes : List ℕ). text_of bytes c.args.client c.args.sequence (exchange_flags c.args.confirmed)) (named c.args.volume_tag name c.to_be_bytes-name.ensures)
    ∙ sym (spelled (hyper_bytes c.args.volume_tag) c.args.client c.args.sequence c.args.confirmed))
    (added_then c.u32.ensures.added (added_then c.u32-2.ensures.added (added_then c.u64.ensures.added
    (added_then c.u32-3.ensures.added (added_then c.u32-4.ensures.added (added_then c.u32-5.ensures.added
    (added_then c.u64-2.ensures.added (added_then c.opaque.ensures.added (added_then c.opaque-2.ensures.added c.u32-6.ensures.added)))))))))
