use Rattle.std.proofs.Common.{List, take}
use Rattle.std.proofs.lemmas.List.Elements.{All-push}
use Rattle.job_table.specs.declared.job.Job.{Job}
use Rattle.job_table.specs.Fits.{PlanIsFit}
use Rattle.job_table.specs.Stored.{jobs_at}
use Rattle.job_table.proofs.Writes.{jobs_taken}
use Rattle.job_table.proofs.fits.plans_are_fit.Goals as goal

pub loop-key-preserved : goal.loop-key-preserved
loop-key-preserved c =
    let grow = jobs_taken c.args.slots.now c.args.keys.now c.loop-key.key-index c.index.result.now c.loop-key-test.true c.index.ensures in
    let before : List Job = jobs_at c.args.slots.now (take c.loop-key.key-index c.args.keys.now) in
    rw grow (All-push (λ (job : Job). PlanIsFit job.plan) before c.index.result.now c.loop-key.invariant c.plan_is_fit.ensures)
