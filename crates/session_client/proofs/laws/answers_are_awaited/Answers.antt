use Rattle.session_client.proofs.Directed.{answer_xid, answer_answers}
use Rattle.session_client.proofs.laws.answers_are_awaited.Goals as goal

pub returns-clause-xid : goal.returns-clause-xid
returns-clause-xid c = answer_xid

pub returns-clause-answers : goal.returns-clause-answers
returns-clause-answers c = answer_answers
