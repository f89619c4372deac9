use Rattle.run_promise.proofs.dest.Beginning.{anew_begins}
use Rattle.run_promise.proofs.dest.begun.destinations_begin_anew.Goals as goal

pub returns : goal.returns
returns g c s t used kept is = anew_begins s used kept t is
