use Rattle.std.proofs.Common.{subst}
use Rattle.std.specs.Prelude.{AllPairs}
use Rattle.job_table.specs.Table.{JobTable, AreApart}
use Rattle.job_table.proofs.jobs.Jobs.made.Goals as goal

pub returns-clause-apart : goal.returns-clause-apart
returns-clause-apart c =
    let P : JobTable → Type 0 = λ t. AllPairs (AreApart t.capacity) t.jobs in
    subst P c.self.view_is c.self.invariant.table.apart
