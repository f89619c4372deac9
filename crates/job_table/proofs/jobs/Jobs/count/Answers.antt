use Rattle.std.proofs.Common.{ℕ, List, length, ap, sym, ◌∙◌}
use Rattle.slab.specs.Slab.{get}
use Rattle.job_table.specs.Table.{JobTable}
use Rattle.job_table.proofs.KeyRows.{length_values}
use Rattle.job_table.proofs.jobs.Jobs.count.Goals as goal

pub returns : goal.returns
returns c =
    ap (λ (ks : List ℕ). length ks) c.as_slice.ensures.value ∙ sym (length_values (λ k. get c.self.inside.slots k) c.self.inside.keys.items c.self.invariant.filled)
    ∙ ap (λ (t : JobTable). length t.jobs) c.self.view_is
