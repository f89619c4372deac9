use Rattle.dest_laws.proofs.own.Steps.{EntryLaws, begins, failure_does, reply_does, tick_does, work_does}
use Rattle.dest_laws.proofs.own.laws.steps_give_one_entry.Goals as goal

pub returns : goal.returns
returns g c =
    let told = c.steps_give_one_entry.ensures in
    let laws : EntryLaws = record { due = told.due; turn_is = told.turn; heard = told.heard; failure = told.failure; clients = told.clients } in
    record { begin = begins laws _; work = work_does laws _; reply = reply_does laws; failure = failure_does laws; tick = tick_does laws }
