-- A job's plan, as the book lends it.
use Rattle.std.proofs.Common.{◌≡◌, ap, refl}
use Rattle.std.specs.Prelude.{Option, Some, None, option_copied, IfSome, IsSome, MatchOption}
use denote.Ref.{Bor}
use Rattle.job_table.specs.declared.job.Job.{Job}
use Rattle.job_table.specs.declared.job.Plan.{Plan}
use Rattle.dest_work.specs.Work.{plan_in}

pub plan_lent : (lent : Option (Bor Plan)) (job : Option Job) → IfSome lent (λ plan. IfSome job (λ j. plan.now ≡ j.plan))
    → MatchOption lent (job ≡ None) (λ _. IsSome job) → option_copied lent ≡ plan_in job
plan_lent None None found exactly = refl
plan_lent None (Some j) found exactly = absurd (cc)
plan_lent (Some plan) None found exactly = absurd (cc)
plan_lent (Some plan) (Some j) found exactly = ap Some found
