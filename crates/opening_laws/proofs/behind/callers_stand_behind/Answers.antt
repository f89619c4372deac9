use Rattle.opening_laws.proofs.Callers.{callers_behind}
use Rattle.opening_laws.proofs.behind.callers_stand_behind.Goals as goal

pub returns : goal.returns
returns c = callers_behind
