use Rattle.dest_laws.proofs.Goes.{found_goes}
use Rattle.dest_laws.proofs.laws.found_tasks_go_out.Goals as goal

pub returns : goal.returns
returns c = found_goes c.chunks_are_next.ensures
