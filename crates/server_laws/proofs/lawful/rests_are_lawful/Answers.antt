use Rattle.server_laws.specs.View.{view}
use Rattle.server_laws.proofs.LawfulSteps.{rests}
use Rattle.server_laws.proofs.lawful.rests_are_lawful.Goals as goal

pub returns-clause-tick : goal.returns-clause-tick
returns-clause-tick g c spell owner now s = rests spell owner (view s)
