use Rattle.std.proofs.Common.{ℕ, List, length, ◌∙◌, ap}
use Rattle.disk_model.specs.Replay.{base_of}
use Rattle.disk_model.proofs.Whole.{front_whole}
use Rattle.disk_model.proofs.store.apply.Goals as goal

pub returns-clause-whole : goal.returns-clause-whole
returns-clause-whole c = λ whole b.
    ap (λ (l : List ℕ). length l) (c.loop-call.invariant.torn b)
    ∙ front_whole c.args.left.now c.args.pick c.loop-call.call-index c.args.calls.now (base_of c.args.left.now) c.requires whole b
