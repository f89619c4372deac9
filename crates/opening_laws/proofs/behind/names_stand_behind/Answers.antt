use Rattle.opening_laws.proofs.Names.{names_behind}
use Rattle.opening_laws.proofs.behind.names_stand_behind.Goals as goal

pub returns : goal.returns
returns c = names_behind
