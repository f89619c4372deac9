use Rattle.run_ends.specs.Ends.{count_gives, machines, words_of}
use Rattle.run_promise.proofs.opening.Along.{is_opening}
use Rattle.run_promise.proofs.opening.Moments.{fresh}
use Rattle.run_promise.proofs.opening.openings.openings_are_runs.Goals as goal
use Rattle.run_promise.specs.System.System.{telling}
use Rattle.session_server.specs.Host.{Codes}

pub returns : goal.returns
returns g c spell meaning first steps are k =
    let M = g.M.Mechanism in
    let words = words_of M.mic_of M.derived M.started M.accepted M.finished count_gives in
    let codes : Codes = record { mic = M.mic_of; derived = M.derived } in
    is_opening (machines words) (telling codes) spell meaning first steps are (fresh words codes spell meaning first steps are) k
