use Rattle.client_laws.proofs.Whence.{deed_comes}
use Rattle.client_laws.proofs.word.answers_come_to_what_they_say.Goals as goal

pub returns : goal.returns
returns c = deed_comes
