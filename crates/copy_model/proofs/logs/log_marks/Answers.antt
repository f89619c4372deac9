use Rattle.copy_model.proofs.Sound.{stopped_ended, committed_ended, all_covered}
use Rattle.copy_model.proofs.logs.log_marks.Goals as goal

pub returns-clause-stopped : goal.returns-clause-stopped
returns-clause-stopped c = stopped_ended

pub returns-clause-committed : goal.returns-clause-committed
returns-clause-committed c = committed_ended

pub returns-clause-landed : goal.returns-clause-landed
returns-clause-landed c = all_covered
