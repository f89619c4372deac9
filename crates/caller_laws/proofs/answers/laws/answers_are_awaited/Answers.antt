use Rattle.caller_laws.proofs.answers.Answering.{awaited_so}
use Rattle.caller_laws.proofs.answers.laws.answers_are_awaited.Goals as goal

pub returns : goal.returns
returns c = awaited_so
