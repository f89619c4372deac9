use Rattle.std.proofs.Common.{◌≡◌, List, ℕ, length, ◌∙◌, ap, arith}
use Rattle.std.proofs.lemmas.Grind.{common_steps}
use Rattle.disk_model.specs.Disk.{zero_block}
use Rattle.disk_model.specs.Replay.{base_of}
use Rattle.disk_model.proofs.Whole.{zero_whole}
use Rattle.disk_model.proofs.store.Store.new.Goals as goal

pub invariant_of-result-clause-whole : goal.invariant_of-result-clause-whole
invariant_of-result-clause-whole c = λ b.
    let none : base_of c.new.result b ≡ zero_block = grind (arith, common_steps) in
    ap (λ (l : List ℕ). length l) none ∙ zero_whole
