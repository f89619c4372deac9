use Rattle.std.proofs.Common.{sym, subst}
use Rattle.wire_run.specs.Stage.{HasFitPlans}
use Rattle.wire_run.proofs.ends.DestEnd.has_fit_plans.Goals as goal

pub returns : goal.returns
returns g c = subst HasFitPlans (sym c.in-Open.is) c.landed.ensures.plans
