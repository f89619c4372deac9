use Rattle.state_ids.proofs.Gone as laws
use Rattle.state_ids.proofs.laws.what_is_closed_is_gone.Goals as goal

pub returns-clause-closed : goal.returns-clause-closed
returns-clause-closed c = laws.closed_gone

pub returns-clause-ended : goal.returns-clause-ended
returns-clause-ended c = laws.client_gone
