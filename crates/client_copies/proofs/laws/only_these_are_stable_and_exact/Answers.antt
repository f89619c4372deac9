use Rattle.client_copies.proofs.Causes as laws
use Rattle.client_copies.proofs.laws.only_these_are_stable_and_exact.Goals as goal

pub returns-clause-stable : goal.returns-clause-stable
returns-clause-stable c = laws.said_stable

pub returns-clause-exact : goal.returns-clause-exact
returns-clause-exact c = laws.said_exact
