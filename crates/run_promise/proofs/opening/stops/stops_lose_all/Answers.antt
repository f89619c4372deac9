use Rattle.run_ends.specs.Ends.{count_gives, words_of}
use Rattle.run_promise.proofs.opening.Behind.{all_safe}
use Rattle.run_promise.proofs.opening.Known.{AreOrdered, TheyEnd, TheyStay}
use Rattle.run_promise.proofs.opening.Losing.{keeps_names, loses_all}
use Rattle.run_promise.proofs.opening.Moments.{fresh, keeps_at, rises, stops_at, table_at}
use Rattle.run_promise.proofs.opening.New.{new_holds, new_made}
use Rattle.run_promise.proofs.opening.stops.stops_lose_all.Goals as goal
use Rattle.session_server.specs.Host.{Codes}

pub returns : goal.returns
returns g c =
    let M = g.M.Mechanism in
    let words = words_of M.mic_of M.derived M.started M.accepted M.finished count_gives in
    let codes : Codes = record { mic = M.mic_of; derived = M.derived } in
    let in_order = c.copies_stand_in_order.ensures in
    let of_past = c.copies_of_the_past_stay.ensures in
    let at_end = c.crashes_end_openings.ensures in
    let ordered : AreOrdered = record { count = in_order.count; copies = in_order.copies; names = in_order.names } in
    let stay : TheyStay = record { copies = of_past.copies; names = of_past.names; gone = of_past.gone; others = of_past.others } in
    let ended : TheyEnd = record { count = at_end.count; copies = at_end.copies; names = at_end.names; blank = at_end.blank; past = at_end.past } in
    let counted = c.one_stop_is_one_crash.ensures.boot in
    record {
      lost = λ mech spell meaning seen first steps purposes new are keep safe k kept some.
          let opened = (stops_at words codes spell meaning first steps are k kept some).anew.opened in
          loses_all words codes spell meaning seen first steps purposes ordered stay ended
          (λ l uncut. (keeps_at words codes spell meaning first steps are keep l uncut).volume)
          (rises words codes spell meaning first steps are keep counted) (fresh words codes spell meaning first steps are) k kept some
          (all_safe words codes spell meaning seen first steps purposes ordered stay ended (λ l. c.openings_are_runs.ensures spell meaning first steps are l)
          (λ l uncut. (keeps_at words codes spell meaning first steps are keep l uncut).volume)
          (rises words codes spell meaning first steps are keep counted) (fresh words codes spell meaning first steps are) safe k)
          (new_holds _ _ opened) (new_made _ _ opened);
      names = λ mech spell meaning seen first steps purposes new are keep k kept some.
          keeps_names words codes spell meaning seen first steps purposes ordered stay ended
          (λ l uncut. (keeps_at words codes spell meaning first steps are keep l uncut).volume)
          (rises words codes spell meaning first steps are keep counted) (fresh words codes spell meaning first steps are) k kept some
          (table_at words codes spell meaning first steps are keep mech new k);
    }
