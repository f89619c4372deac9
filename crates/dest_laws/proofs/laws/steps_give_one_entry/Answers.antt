use Rattle.dest_laws.proofs.Ends.{all_end_does, cancel_does, copy_does}
use Rattle.dest_laws.proofs.Steps.{failure_does, hearing_does, record_does, turn_does}
use Rattle.dest_laws.proofs.Turns.{due_does}
use Rattle.dest_laws.proofs.laws.steps_give_one_entry.Goals as goal

pub returns : goal.returns
returns c = record {
  due = due_does c.chunks_are_next.ensures;
  turn = turn_does;
  heard = record_does;
  failure = failure_does;
  reply = hearing_does;
  copy = copy_does;
  cancel = cancel_does;
  clients = all_end_does;
}
