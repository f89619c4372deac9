use Rattle.opening_laws.proofs.Copies.{copies_behind}
use Rattle.opening_laws.proofs.behind.copies_stand_behind.Goals as goal

pub returns : goal.returns
returns c = copies_behind
