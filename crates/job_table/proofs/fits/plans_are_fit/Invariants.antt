use Rattle.std.proofs.Common.{take}
use Rattle.std.specs.Prelude.{All}
use Rattle.job_table.specs.Fits.{PlanIsFit}
use Rattle.job_table.specs.Stored.{jobs_at}
use Rattle.job_table.proofs.fits.plans_are_fit.Given as goal

abbrev pub invariant-loop-key : goal.invariant-loop-key
invariant-loop-key l = All (λ job. PlanIsFit job.plan) (jobs_at l.slots (take l.key-index l.keys))
