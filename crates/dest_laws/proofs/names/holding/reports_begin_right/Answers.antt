use Rattle.dest_laws.proofs.names.Begun.{begins_right}
use Rattle.dest_laws.proofs.names.holding.reports_begin_right.Goals as goal

pub returns : goal.returns
returns g c = begins_right
