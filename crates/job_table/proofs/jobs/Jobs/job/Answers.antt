use Rattle.std.proofs.Common.{ap, ◌∙◌}
use Rattle.job_table.specs.Table.{JobTable, is_job, job_of}
use Rattle.job_table.proofs.Writes.{searched, found_job, found_none}
use Rattle.job_table.proofs.jobs.Jobs.job.Goals as goal

pub returns-in-Some : goal.returns-in-Some
returns-in-Some c =
    found_job (is_job c.self.inside.boot c.args.id) c.self.inside.slots c.self.inside.keys.items c.key_of.result c.in-Some.key _ (searched c.self.inside.boot c.self.inside.slots c.args.id c.key_of.ensures c.as_slice.ensures.value).is c.in-Some.is c.get.ensures
    ∙ ap (λ (t : JobTable). job_of t c.args.id) c.self.view_is

pub returns-in-None : goal.returns-in-None
returns-in-None c =
    found_none (is_job c.self.inside.boot c.args.id) c.self.inside.slots c.self.inside.keys.items c.key_of.result (searched c.self.inside.boot c.self.inside.slots c.args.id c.key_of.ensures c.as_slice.ensures.value).is c.in-None.is
    ∙ ap (λ (t : JobTable). job_of t c.args.id) c.self.view_is
