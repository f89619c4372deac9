use Rattle.std.proofs.Common.{◌≡◌, ℕ, suc, ◌+◌, Some, None, refl, arith}
use Rattle.run_ends.specs.Ends.{count_gives, machines, words_of}
use Rattle.run_promise.proofs.owing.Carried.{AreKnown, Behind, Stops, copies_start, either_by, owes_all, start_shown}
use Rattle.run_promise.proofs.owing.Stopped.{at_first, boot_is}
use Rattle.run_promise.proofs.owing.whole.runs_owe_all.Goals as goal
use Rattle.run_promise.specs.Opening.Openings.{began, cut_at, opened_at, segment}
use Rattle.run_promise.specs.Opening.Systems.{OpeningsAreSafe, StepsKeepOpenings, base_at, own_system, turn_at}
use Rattle.run_promise.specs.Owing.Owing.{OwesAll}
use Rattle.run_promise.specs.System.System.{system_of, telling}
use Rattle.session_server.specs.Host.{Codes}
use Rattle.volume_stops.specs.declared.kept.Kept.{Kept}
use Rattle.wire_meaning.specs.Meaning.{meaning}
use Rattle.wire_spelling.specs.Spelling.{spelling}

pub returns : goal.returns
returns g c mech events first steps accepts whose seen purposes is_first are owns gives tokens =
    let M = g.M.Mechanism in
    let words = words_of M.mic_of M.derived M.started M.accepted M.finished count_gives in
    let codes : Codes = record { mic = M.mic_of; derived = M.derived } in
    let m = machines words in
    let spell = spelling accepts whose in
    let keep : StepsKeepOpenings m = c.steps_keep_openings.ensures in
    let begun = c.destinations_begin_fresh.ensures mech events first is_first in
    let is = λ (k : ℕ). c.openings_are_runs.ensures spell meaning first steps are k in
    let cut = λ (k : ℕ). cut_at m (telling codes) spell meaning first steps k in
    let run = system_of m codes spell meaning seen first steps purposes in
    let own = λ (k : ℕ). own_system m codes spell meaning seen first steps purposes k in
    let opened = λ (k : ℕ). opened_at m (telling codes) spell meaning first steps k in
    let turns = λ (k : ℕ). segment m (telling codes) spell meaning first steps k in
    let for = λ (k i : ℕ). purposes (began m (telling codes) spell meaning first steps k + i) in
    let begun_at = λ (k : ℕ). c.openings_are_begun.ensures mech spell meaning first steps begun are k in
    let owing : (k : ℕ) → OwesAll spell meaning (own k) = λ k.
    c.openings_owe_all.ensures.all mech (opened k) (turns k) accepts whose seen (for k) (begun_at k) (is k).are (is k).never owns gives tokens in
    let safe : OpeningsAreSafe m codes spell meaning seen first steps purposes = λ k i.
    c.openings_owe_all.ensures.safe mech (opened k) (turns k) accepts whose seen (for k) (begun_at k) (is k).are (is k).never owns gives tokens i in
    let stand = c.openings_stand_behind.ensures in
    let shows = λ (k : ℕ). stand.shows spell meaning seen first steps purposes are k in
    let behind : (k : ℕ) → cut k ≡ None → Behind spell meaning run k = λ k none.
    let volumes = stand.volumes spell meaning seen first steps purposes are k none in
    record {
      base = base_at m codes spell meaning seen first steps purposes k;
      own = own k;
      turn = turn_at m codes spell meaning seen first steps purposes k;
      goes = stand.behind mech spell meaning seen first steps purposes begun.opened are keep safe k none;
      dest_now = volumes.0;
      dest_then = volumes.1;
      owes = owing k;
    } in
    let stops : (k : ℕ) (kept : Kept) → cut k ≡ Some kept → Stops spell meaning run k = λ k kept some.
    let at = c.stops_open_anew.ensures.anew spell meaning first steps are k kept some in
    let counted = c.one_stop_is_one_crash.ensures.boot _ _ at.step.parts.dest.out.used kept at.anew.stops in
    let was = boot_is m codes spell meaning seen first steps purposes k in
    let now = boot_is m codes spell meaning seen first steps purposes (suc k) in
    record {
      loses = c.stops_lose_all.ensures.lost mech spell meaning seen first steps purposes begun.opened are keep safe k kept some;
      names = c.stops_lose_all.ensures.names mech spell meaning seen first steps purposes begun.opened are keep k kept some;
      untold = c.stops_open_anew.ensures.untold spell meaning seen first steps purposes k kept some;
      unsent = c.stops_open_anew.ensures.unsent spell meaning seen first steps purposes are k kept some;
      rises = omega (arith, counted, was, now);
      begins =
          start_shown _ (own (suc k)) _ run (suc k) (shows (suc k)) (at_first m codes spell meaning seen first steps purposes k kept some)
          (owing (suc k)).calls.start;
      crashes = c.destinations_are_lawful_servers.ensures.crashes mech events first steps accepts whose seen purposes is_first are k at.step kept at.is at.cut;
    } in
    let known : AreKnown = record {
      callers_anew = λ a b d e f h. c.callers_open_anew.ensures a b d e f h;
      copies_lost = λ a b d e. c.crashes_lose_all_copies.ensures a b d e;
      names_kept = λ a b d e. c.crashes_keep_names.ensures a b d e;
      callers_behind = λ a b d e f h i. c.callers_stand_behind.ensures a b d e f h i;
      copies_behind = λ a b d e f h i. c.copies_stand_behind.ensures a b d e f h i;
      names_behind = λ a b d e f h i. c.names_stand_behind.ensures a b d e f h i;
    } in
    owes_all spell meaning run known (start_shown 0 (own 0) 0 run 0 (shows 0) refl (owing 0).calls.start) (copies_start (own 0) run (shows 0) (owing 0).start)
    (λ k. either_by spell meaning run k (cut k) (cut k) refl (behind k) (stops k))
