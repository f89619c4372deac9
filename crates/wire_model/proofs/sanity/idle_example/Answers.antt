use Rattle.wire_model.proofs.Idle.{idle_is_lawful, idle_is_truthful}
use Rattle.wire_model.proofs.sanity.idle_example.Goals as goal

pub returns-clause-lawful : goal.returns-clause-lawful
returns-clause-lawful c = idle_is_lawful

pub returns-clause-truthful : goal.returns-clause-truthful
returns-clause-truthful c = idle_is_truthful
