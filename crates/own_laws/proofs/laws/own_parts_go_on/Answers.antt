use Rattle.own_laws.proofs.Grows.{however_far}
use Rattle.own_laws.proofs.StepParts.{turn_goes}
use Rattle.own_laws.proofs.laws.own_parts_go_on.Goals as goal

pub returns : goal.returns
returns g c = record {
  step = λ mech. turn_goes _ _ (however_far _ _ _ _ g.met.R.Following.follows) _ _ _;
  second = λ now s. g.met.R.Following.follows.lapse _ _;
}
