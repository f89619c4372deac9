use Rattle.own_laws.proofs.Grows.{Counts, counted}
use Rattle.own_laws.proofs.StepParts.{turn_goes}
use Rattle.own_laws.proofs.laws.own_parts_give_few.Goals as goal

pub returns : goal.returns
returns g c given mech one = turn_goes (Counts given) _ (counted given _ one) _ _ _
