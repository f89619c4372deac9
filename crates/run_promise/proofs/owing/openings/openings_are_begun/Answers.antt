use Rattle.run_ends.specs.Ends.{count_gives, machines, words_of}
use Rattle.run_promise.proofs.owing.Begun.{begun_at}
use Rattle.run_promise.proofs.owing.openings.openings_are_begun.Goals as goal
use Rattle.session_server.specs.Host.{Codes}

pub returns : goal.returns
returns g c mech spell meaning first steps begun are k =
    let M = g.M.Mechanism in
    let words = words_of M.mic_of M.derived M.started M.accepted M.finished count_gives in
    let codes : Codes = record { mic = M.mic_of; derived = M.derived } in
    let begin = c.openings_begin.ensures in
    begun_at (machines words) codes spell meaning mech first steps begun (λ s t used kept. c.destinations_begin_anew.ensures s t used kept)
    (λ l. begin.mechanism spell meaning first steps are c.steps_keep_openings.ensures l) k (begin.begins spell meaning first steps are k)
