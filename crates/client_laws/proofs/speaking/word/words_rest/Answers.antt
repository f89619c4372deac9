use Rattle.client_laws.proofs.speaking.Ready.{rests_lawful}
use Rattle.client_laws.proofs.speaking.word.words_rest.Goals as goal

pub returns : goal.returns
returns g c = rests_lawful
