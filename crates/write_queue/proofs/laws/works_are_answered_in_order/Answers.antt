use Rattle.write_queue.proofs.Order.{run_keeps}
use Rattle.write_queue.proofs.laws.works_are_answered_in_order.Goals as goal

pub returns : goal.returns
returns c = run_keeps
