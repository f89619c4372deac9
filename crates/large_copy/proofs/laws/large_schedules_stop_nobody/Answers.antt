use Rattle.large_copy.proofs.Quiet.{none_stops}
use Rattle.large_copy.proofs.laws.large_schedules_stop_nobody.Goals as goal

pub returns : goal.returns
returns c = none_stops
