use Rattle.sess_slots.proofs.Runs as laws
use Rattle.sess_slots.proofs.laws.a_number_runs_once.Goals as goal

pub returns-clause-in_order : goal.returns-clause-in_order
returns-clause-in_order c = laws.in_order

pub returns-clause-once : goal.returns-clause-once
returns-clause-once c = laws.once
