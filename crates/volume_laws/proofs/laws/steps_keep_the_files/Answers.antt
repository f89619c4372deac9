use Rattle.volume_laws.proofs.Kept.{ran_keeps}
use Rattle.volume_laws.proofs.laws.steps_keep_the_files.Goals as goal

pub returns : goal.returns
returns c = ran_keeps
