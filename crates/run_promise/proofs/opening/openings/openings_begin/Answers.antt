use Rattle.run_ends.specs.Ends.{count_gives, words_of}
use Rattle.run_promise.proofs.opening.Moments.{begins, mech_at, new_at}
use Rattle.run_promise.proofs.opening.openings.openings_begin.Goals as goal
use Rattle.session_server.specs.Host.{Codes}

pub returns : goal.returns
returns g c =
    let M = g.M.Mechanism in
    let words = words_of M.mic_of M.derived M.started M.accepted M.finished count_gives in
    let codes : Codes = record { mic = M.mic_of; derived = M.derived } in
    record {
      begins = λ spell meaning first steps are k. begins words codes spell meaning first steps are k;
      new = λ mech spell meaning first steps new are keep k. new_at words codes spell meaning first steps are keep mech new k;
      mechanism = λ spell meaning first steps are keep k. mech_at words codes spell meaning first steps are keep k;
    }
