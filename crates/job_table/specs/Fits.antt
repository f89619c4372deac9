-- Plans whose numbers are below the bounds of their types, and whose users are bytes.
use Rattle.std.specs.Prelude.{All}
use Rattle.job_table.specs.declared.job.Plan.{Plan}
use Rattle.job_table.specs.Table.{JobTable}
use Rattle.nfs_base.specs.Bounds.{HandleFits, StateIdFits}
use Rattle.wire_xdr.specs.Cursor.{IsBytes}

-- of a plan: the file at the source, the stateid there, and the user
pub record PlanIsFit (plan : Plan) : Type 0 where
  pub source : HandleFits plan.source
  pub src_id : StateIdFits plan.src_id
  pub user : IsBytes plan.user

abbrev pub PlansAreFit : JobTable → Type 0
PlansAreFit t = All (λ job. PlanIsFit job.plan) t.jobs
