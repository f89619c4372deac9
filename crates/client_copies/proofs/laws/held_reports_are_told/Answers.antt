use Rattle.client_copies.proofs.Holding as laws
use Rattle.client_copies.proofs.laws.held_reports_are_told.Goals as goal

pub returns-clause-said : goal.returns-clause-said
returns-clause-said c = laws.held_said

pub returns-clause-after : goal.returns-clause-after
returns-clause-after c = laws.held_after
