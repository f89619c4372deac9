use Rattle.volume_stops.proofs.Pendings.{pending, stays_certain}
use Rattle.volume_stops.proofs.laws.failed_commits_are_pending.Goals as goal

pub returns : goal.returns
returns c = record { pending = pending; certain = stays_certain }
