use Rattle.run_ends.specs.Ends.{count_gives, run_machines, words_of}
use Rattle.run_promise.proofs.Premises.{calls_none}
use Rattle.run_promise.proofs.dest.Records.{AreServed}
use Rattle.run_promise.proofs.dest.Volumes.{AreDue, AreOrderly, GoOn}
use Rattle.run_promise.proofs.dest.Whole.{volumes}
use Rattle.run_promise.proofs.dest.dests.volumes_are_lawful.Goals as goal
use Rattle.run_promise.specs.System.System.{opening_of}
use Rattle.wire_meaning.specs.Meaning.{meaning}
use Rattle.wire_model.specs.System.{System}
use Rattle.wire_spelling.specs.Spelling.{spelling}

pub returns : goal.returns
returns g c mech first steps accepts whose seen purposes is are never spelled at simple =
    let k = g.M.Mechanism in
    let words = words_of k.mic_of k.derived k.started k.accepted k.finished count_gives in
    let shown = c.destinations_are_shown.ensures in
    let asks = c.workers_ask_by_plans.ensures in
    let lands = c.landings_are_due.ensures in
    let going = c.volumes_go_on.ensures in
    let served : AreServed words = record {
      good = c.contexts_stay.ensures.good;
      owner = c.steps_are_lawful.ensures.owner;
      changes = λ mech. c.servers_change_volumes_lawfully.ensures.laws mech calls_none;
      writes = c.servers_change_volumes_lawfully.ensures.writes;
    } in
    let orderly : AreOrderly words = record { record_ = asks.record_; work = asks.work; reply = asks.reply; tick = asks.tick } in
    let s : System =
    opening_of (run_machines k.mic_of k.derived k.started k.accepted k.finished) (record { mic = k.mic_of; derived = k.derived }) (spelling accepts whose) meaning seen first steps purposes in
    let due : AreDue words accepts whose s = record {
      record_ = lands.record_ (spelling accepts whose) meaning s;
      work = lands.work (spelling accepts whose) meaning s;
      reply = lands.reply accepts whose s;
    } in
    let go_on : GoOn words accepts whose s = record {
      work = going.work (spelling accepts whose) meaning s;
      reply = going.reply (spelling accepts whose) meaning s;
      tick = going.tick (spelling accepts whose) meaning s;
      rest = going.rest s;
    } in
    volumes words accepts whose first steps mech is never served (shown.did mech first steps (spelling accepts whose) meaning is are never)
    c.contexts_rest.ensures.start s (shown.step mech first steps (spelling accepts whose) meaning seen purposes is are never) orderly due go_on
    (λ at. (shown.kept mech first steps (spelling accepts whose) meaning is are never at).sound) spelled asks.begin at simple
