use Rattle.large_copy.proofs.Admitted.{schedule_admitted}
use Rattle.large_copy.proofs.laws.large_schedules_are_admitted.Goals as goal

pub returns : goal.returns
returns c = schedule_admitted
