use Rattle.callbacks.proofs.Written.{answer_writable}
use Rattle.callbacks.proofs.laws.answers_can_be_written.Goals as goal

pub returns : goal.returns
returns c = answer_writable
