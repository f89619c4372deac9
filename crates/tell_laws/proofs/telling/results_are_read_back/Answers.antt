use Rattle.tell_laws.proofs.ReadBack.{reads_back}
use Rattle.tell_laws.proofs.telling.results_are_read_back.Goals as goal

pub returns : goal.returns
returns c = reads_back
