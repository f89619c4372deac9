use Rattle.context_laws.specs.TableLaws.{counted_follows, ended_follows, new_follows, new_is}
use Rattle.context_laws.proofs.tables.contexts_follow.Goals as goal

pub returns : goal.returns
returns g c = record { counted = counted_follows; ended = ended_follows; new = new_follows; new_is = new_is }
