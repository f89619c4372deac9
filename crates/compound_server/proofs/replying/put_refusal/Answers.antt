use Rattle.std.proofs.Common.{ℕ, List, ◌++◌, sym, ap, ◌∙◌}
use Rattle.wire_xdr.specs.Words.{word_bytes, opaque_bytes}
use Rattle.compound_server.specs.PageLaws.{added_then}
use Rattle.compound_server.proofs.Replies.{refusal_spelled}
use Rattle.compound_server.proofs.replying.put_refusal.Goals as goal

pub returns-clause-bytes : goal.returns-clause-bytes
returns-clause-bytes c =
    let number = c.args.status.number in
    let text : List ℕ = (word_bytes number ++ (opaque_bytes c.args.tag.now ++ word_bytes 1)) ++ (word_bytes c.args.op ++ word_bytes number) in
    (added_then c.put_head.ensures.added (added_then c.u32.ensures.added c.u32-2.ensures.added)).is
    ∙ ap (λ (bytes : List ℕ). bytes ++ text) c.requires.empty ∙ sym (refusal_spelled c.args.tag.now c.args.op c.args.status)
