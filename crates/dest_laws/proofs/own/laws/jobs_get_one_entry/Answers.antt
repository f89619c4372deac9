use Rattle.dest_laws.proofs.own.OneEntry.{gets_one}
use Rattle.dest_laws.proofs.own.laws.jobs_get_one_entry.Goals as goal

pub returns : goal.returns
returns c = gets_one c.entries_grow_by_deeds.ensures.grows
