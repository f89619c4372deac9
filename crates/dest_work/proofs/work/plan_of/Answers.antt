use Rattle.dest_work.proofs.Plans.{plan_lent}
use Rattle.dest_work.proofs.work.plan_of.Goals as goal

pub returns : goal.returns
returns c = plan_lent c.plan.result _ c.plan.ensures.found c.plan.ensures.exactly
