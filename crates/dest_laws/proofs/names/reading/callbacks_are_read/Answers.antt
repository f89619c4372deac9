use Rattle.dest_laws.proofs.names.Spoken.{callback_says}
use Rattle.dest_laws.proofs.names.reading.callbacks_are_read.Goals as goal

pub returns : goal.returns
returns g c = callback_says _ c.tokens_agree.ensures.codes c.questions_are_read.ensures.told
