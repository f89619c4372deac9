use Rattle.dest_laws.proofs.landings.FitMounts.{all_spelled}
use Rattle.dest_laws.proofs.landings.spelled.what_is_awaited_is_spelled.Goals as goal

pub returns : goal.returns
returns c = all_spelled
