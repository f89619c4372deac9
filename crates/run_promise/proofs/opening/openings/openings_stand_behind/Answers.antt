use Rattle.run_ends.specs.Ends.{count_gives, machines, words_of}
use Rattle.run_promise.proofs.opening.Behind.{goes_behind, shows, volumes}
use Rattle.run_promise.proofs.opening.Known.{AreOrdered, TheyEnd, TheyStay}
use Rattle.run_promise.proofs.opening.Lasting.{are_past}
use Rattle.run_promise.proofs.opening.Moments.{fresh, keeps_at, rises, table_at}
use Rattle.run_promise.proofs.opening.openings.openings_stand_behind.Goals as goal
use Rattle.run_promise.specs.System.System.{telling}
use Rattle.session_server.specs.Host.{Codes}

pub returns : goal.returns
returns g c =
    let M = g.M.Mechanism in
    let words = words_of M.mic_of M.derived M.started M.accepted M.finished count_gives in
    let codes : Codes = record { mic = M.mic_of; derived = M.derived } in
    let in_order = c.copies_stand_in_order.ensures in
    let of_past = c.copies_of_the_past_stay.ensures in
    let at_end = c.crashes_end_openings.ensures in
    let ordered : AreOrdered = record { count = in_order.count; copies = in_order.copies; names = in_order.names } in
    let stay : TheyStay = record { copies = of_past.copies; names = of_past.names; gone = of_past.gone; others = of_past.others } in
    let ended : TheyEnd = record { count = at_end.count; copies = at_end.copies; names = at_end.names; blank = at_end.blank; past = at_end.past } in
    let counted = c.one_stop_is_one_crash.ensures.boot in
    record {
      behind = λ mech spell meaning seen first steps purposes new are keep safe k none.
          goes_behind words codes spell meaning seen first steps purposes ordered stay ended (λ l. c.openings_are_runs.ensures spell meaning first steps are l)
          (λ l uncut. (keeps_at words codes spell meaning first steps are keep l uncut).volume)
          (rises words codes spell meaning first steps are keep counted) (fresh words codes spell meaning first steps are) safe
          (table_at words codes spell meaning first steps are keep mech new) k none;
      shows = λ spell meaning seen first steps purposes are k.
          shows words codes spell meaning seen first steps purposes ordered stay ended k (c.openings_are_runs.ensures spell meaning first steps are k);
      volumes = λ spell meaning seen first steps purposes are k none.
          volumes words codes spell meaning seen first steps purposes ordered stay ended k (c.openings_are_runs.ensures spell meaning first steps are k) none;
      past = λ mech spell meaning first steps new are keep k.
          are_past (machines words) (telling codes) spell meaning first steps ordered stay ended
          (λ l uncut. (keeps_at words codes spell meaning first steps are keep l uncut).volume)
          (rises words codes spell meaning first steps are keep counted) (fresh words codes spell meaning first steps are) k;
    }
