use Rattle.volume_laws.proofs.Broken.{ran_broken, ran_once, ran_refused, ran_whole}
use Rattle.volume_laws.proofs.laws.volumes_break_where_calls_fail.Goals as goal

pub returns : goal.returns
returns c = record { whole = ran_whole; broken = ran_broken; once = ran_once; refused = ran_refused }
