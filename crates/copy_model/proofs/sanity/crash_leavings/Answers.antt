use Rattle.copy_model.proofs.Leavings.{left_may_be, may_be_left}
use Rattle.copy_model.proofs.sanity.crash_leavings.Goals as goal

pub returns-clause-may_leave : goal.returns-clause-may_leave
returns-clause-may_leave c = left_may_be

pub returns-clause-leaves : goal.returns-clause-leaves
returns-clause-leaves c = may_be_left
