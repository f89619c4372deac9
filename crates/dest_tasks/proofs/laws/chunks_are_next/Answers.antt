use Rattle.dest_tasks.specs.Tasks.{task_from}
use Rattle.dest_tasks.proofs.Nexts.{all_next, read_is_next}
use Rattle.dest_tasks.proofs.laws.chunks_are_next.Goals as goal

pub returns : goal.returns
returns c see left after b name chunk is = read_is_next b (task_from see left after b) name chunk (all_next see b left after) is
