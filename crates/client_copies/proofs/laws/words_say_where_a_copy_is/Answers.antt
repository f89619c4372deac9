use Rattle.client_copies.proofs.Courses as laws
use Rattle.client_copies.proofs.laws.words_say_where_a_copy_is.Goals as goal

pub returns-clause-place : goal.returns-clause-place
returns-clause-place c = laws.run_leads

pub returns-clause-stable_once : goal.returns-clause-stable_once
returns-clause-stable_once c = laws.stable_once

pub returns-clause-last : goal.returns-clause-last
returns-clause-last c = laws.final_is_last
