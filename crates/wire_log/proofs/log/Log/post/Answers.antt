use Rattle.std.proofs.Common.{◌≡◌, ℕ, ◌+◌, ◌≤◌, List, ◌++◌, length, ap, sym, ◌∙◌, subst, arith}
use Rattle.outbox.specs.declared.outgoing.Outgoing.{Outgoing}
use Rattle.wire_log.specs.declared.kept.Kept.{Kept}
use Rattle.wire_log.specs.declared.kept.TheConstants.{MOST_RECORDS}
use Rattle.wire_log.specs.Keeping.{AreKept, all_kept, bytes_at, posted_all, sent_bytes}
use Rattle.wire_log.proofs.Grown.{kept_sent, posted_sent}
use Rattle.wire_log.proofs.Stored.{length_posted}
use Rattle.wire_log.proofs.log.Log.post.Goals as goal
use Rattle.wire_machine.specs.World.{Posted, all_posted}

pub invariant_of-self : goal.invariant_of-self
invariant_of-self c = subst (λ (ks : List Kept). AreKept ks c.self.inside.bytes) (sym c.in_err-append.ensures.items) c.self.invariant

pub invariant_of-self-2 : goal.invariant_of-self-2
invariant_of-self-2 c =
    let kept = c.self.inside.records.items in
    let items : c.append.new.self.items ≡ kept ++ all_kept c.args.at c.args.sent =
    c.in_ok-append.ensures.items ∙ ap (λ (ks : List Kept). kept ++ ks) (c.in_ok-made.ensures ∙ ap (λ (outs : List Outgoing). all_kept c.args.at outs) c.into_vec.ensures) in
    let bytes : c.bytes_in-bytes.result ≡ sent_bytes c.args.sent = c.bytes_in-bytes.ensures ∙ ap (λ (outs : List Outgoing). sent_bytes outs) c.as_slice.ensures in
    let count : length kept ≡ length c.args.self.now = sym (length_posted kept) ∙ ap (λ (log : List Posted). length log) c.self.view_is in
    let took : c.args.at.took ≤ length kept = omega (arith, count) in
    let few : length kept + length c.args.sent ≤ MOST_RECORDS =
    let before = c.self.invariant.few in
    let stored = c.self.inside.records.ok.0 in
    let len = c.len.ensures in
    let len2 = c.len-2.ensures in
    let test = c.if-len.false in
    omega arith in
    subst (λ (ks : List Kept). AreKept ks (c.self.inside.bytes + c.bytes_in-bytes.result)) (sym items)
    (subst (λ (n : ℕ). AreKept (kept ++ all_kept c.args.at c.args.sent) (c.self.inside.bytes + n)) (sym bytes)
    (kept_sent kept c.self.inside.bytes c.args.at c.args.sent c.self.invariant took few))

pub returns-clause-ok : goal.returns-clause-ok
returns-clause-ok c =
    let kept = c.self.inside.records.items in
    let at = c.args.at in
    let items : c.append.new.self.items ≡ kept ++ all_kept at c.args.sent =
    c.in_ok-append.ensures.items ∙ ap (λ (ks : List Kept). kept ++ ks) (c.in_ok-made.ensures ∙ ap (λ (outs : List Outgoing). all_kept at outs) c.into_vec.ensures) in
    let count : length kept ≡ length c.args.self.now = sym (length_posted kept) ∙ ap (λ (log : List Posted). length log) c.self.view_is in
    let took : at.took ≤ length kept = omega (arith, count) in
    ap (λ (ks : List Kept). posted_all ks) items
    ∙ posted_sent kept at c.args.sent c.self.invariant.each took
    ∙ ap (λ (log : List Posted). log ++ all_posted at.from at.step at.opening (bytes_at log at.took) c.args.sent) c.self.view_is
