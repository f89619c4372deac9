use Rattle.run_promise.proofs.system.laws.moments_are_steps.Goals as goal
use Rattle.run_promise.specs.System.Moments.{made_at}

pub returns : goal.returns
returns g c spell meaning first steps k s are is = made_at _ _ spell meaning first steps k s are is
