use Rattle.std.proofs.Common.{ℕ, Bool, List, [], ◌∷◌, ◌++◌, map-id, ap, sym, ◌∙◌, rules}
use Rattle.std.proofs.lemmas.Iterator.Adapters.{YieldsList-from_vec}
use Rattle.std.proofs.lemmas.Iterator.Consumers.{YieldsList-end}
use Rattle.std.proofs.lemmas.List.{map-append}
use Rattle.outbox.specs.declared.outgoing.Outgoing.{Outgoing}
use Rattle.wire_log.specs.declared.kept.Kept.{Kept}
use Rattle.wire_log.specs.Keeping.{all_kept, kept_of}
use Rattle.wire_log.proofs.log.made_of.Goals as goal
use Rattle.wire_spelling.specs.Replies.{is_reply}

pub loop-outgoing-preserved : goal.loop-outgoing-preserved
loop-outgoing-preserved c =
    let at = c.args.at in
    let out = c.in-Some.outgoing in
    let reply = c.in_ok-is_reply.ensures ∙ ap (λ (bytes : List ℕ). is_reply bytes) c.as_slice.ensures in
    let one = c.record_sent.ensures ∙ ap (λ (b : Bool). kept_of at out b) reply in
    c.in_ok-push.ensures.items ∙ ap (λ (ks : List Kept). ks ++ c.record_sent.result ∷ []) c.loop-outgoing.invariant
    ∙ ap (λ (k : Kept). all_kept at c.loop-outgoing.yielded ++ k ∷ []) one
    ∙ sym (map-append (λ (out : Outgoing). kept_of at out (is_reply out.bytes)) c.loop-outgoing.yielded (out ∷ []))

pub returns : goal.returns
returns c =
    let end = YieldsList-end (YieldsList-from_vec {s = c.into_iter-outgoing-iterator.result} c.args.sent.items (search rules) (search rules))
    c.loop-outgoing.yielded c.loop-outgoing.outgoing-iterator c.loop-outgoing.yielded_by c.next.result c.next.new.self c.in-None.is c.next.ensures.steps in
    c.loop-outgoing.invariant ∙ ap (λ (outs : List Outgoing). all_kept c.args.at outs) (sym (map-id c.loop-outgoing.yielded) ∙ end.0)
