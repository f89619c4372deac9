use Rattle.dest_laws.proofs.sound.Deeds.{none_kept, takes_keep}
use Rattle.dest_laws.proofs.sound.Logs.{LogLaws}
use Rattle.dest_laws.proofs.sound.Steps.{failure_keeps, reply_keeps, tick_keeps, work_keeps}
use Rattle.dest_laws.proofs.sound.laws.tables_stay_sound.Goals as goal
use Rattle.dest_laws.specs.Own.Going.{jobs_in}

pub returns : goal.returns
returns g c =
    let grow = c.logs_grow.ensures in
    let logs : LogLaws = record { same = grow.same; first = grow.first; stays = grow.stays; fails = grow.fails; none = c.first_chunks.ensures.none } in
    let quiet = c.steps_give_one_entry.ensures.begin in
    record {
      begin = none_kept;
      record_ = λ mech conn message now s before after t is kept.
          takes_keep logs (jobs_in s) (jobs_in t.host) (c.records_take_and_end.ensures.record_ mech conn message now s before after t is) kept;
      work = work_keeps _ logs quiet;
      reply = reply_keeps _ logs quiet;
      failure = failure_keeps _ logs quiet;
      tick = tick_keeps _ logs quiet;
    }
