use Rattle.run_ends.specs.Ends.{count_gives, words_of}
use Rattle.run_promise.proofs.opening.Losing.{unsent, untold}
use Rattle.run_promise.proofs.opening.Moments.{stops_at}
use Rattle.run_promise.proofs.opening.stops.stops_open_anew.Goals as goal
use Rattle.session_server.specs.Host.{Codes}

pub returns : goal.returns
returns g c =
    let M = g.M.Mechanism in
    let words = words_of M.mic_of M.derived M.started M.accepted M.finished count_gives in
    let codes : Codes = record { mic = M.mic_of; derived = M.derived } in
    record {
      anew = λ spell meaning first steps are k kept some. stops_at words codes spell meaning first steps are k kept some;
      untold = λ spell meaning seen first steps purposes k kept some. untold words codes spell meaning seen first steps purposes k kept some;
      unsent = λ spell meaning seen first steps purposes are k kept some.
          let at = stops_at words codes spell meaning first steps are k kept some in
          unsent words codes spell meaning seen first steps purposes k kept some at.step at.is at.sent;
    }
