use Rattle.std.proofs.Common.{◌≡◌, ap, sym, ◌∙◌, arith}
use Rattle.dest_back.specs.Callbacks.{CallbackTable}
use Rattle.dest_back.specs.declared.hearing.Hearing.TheVariants as hears
use Rattle.dest_back.proofs.Nexts.{hear_next}
use Rattle.dest_back.proofs.callbacks.Callbacks.+hear_from.Goals as goal

pub returns-in-Unmatched : goal.returns-in-Unmatched
returns-in-Unmatched g t c =
    let same : c.self.inside.posts ≡ c.args.self.now.posts = ap (λ (b : CallbackTable). b.posts) c.self.view_is in
    let unmatched : c.in_ok-hear_at.field-0 ≡ hears.Unmatched = cc in
    hear_next g.M.Mechanism.mic_of c.args.record_.now c.self.inside.posts c.args.self.now.posts c.args.left c.args.seat c.index-self-seat.result c.hear_from.result
    c.if-left-eq0.false same (omega arith) (sym c.in_ok-hear_at.ensures ∙ unmatched) c.hear_from.ensures
