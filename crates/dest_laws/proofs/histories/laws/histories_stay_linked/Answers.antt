use Rattle.dest_laws.proofs.histories.Linked.{copy_keeps, links}
use Rattle.dest_laws.proofs.histories.laws.histories_stay_linked.Goals as goal

pub returns : goal.returns
returns c = record { linked = links; keeps = copy_keeps }
