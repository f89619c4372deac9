use Rattle.dest_laws.proofs.Falls.{left_falls}
use Rattle.dest_laws.proofs.laws.chunks_left_never_rise.Goals as goal

pub returns : goal.returns
returns c = left_falls
