use Rattle.std.proofs.Common.{ℕ, List, length, ap, arith}
use Rattle.slab.specs.Slab.{get}
use Rattle.job_table.specs.Table.{JobTable}
use Rattle.job_table.proofs.KeyRows.{length_values}
use Rattle.job_table.proofs.jobs.Jobs.landed.Goals as goal

pub landed_by-requires-clause-few : goal.landed_by-requires-clause-few
landed_by-requires-clause-few c =
    let few = c.self.invariant.table.few in
    let same = length_values (λ k. get c.self.inside.slots k) c.self.inside.keys.items c.self.invariant.filled in
    let keys = ap (λ (ks : List ℕ). length ks) c.as_slice-keys.ensures.value in
    omega arith

pub returns-clause-bound : goal.returns-clause-bound
returns-clause-bound c =
    let same = length_values (λ k. get c.self.inside.slots k) c.self.inside.keys.items c.self.invariant.filled in
    let keys = ap (λ (ks : List ℕ). length ks) c.as_slice-keys.ensures.value in
    let seen = ap (λ (t : JobTable). length t.jobs) c.self.view_is in
    let bound = c.landed_by.ensures.bound in
    omega arith
