use Rattle.run_ends.specs.Ends.{count_gives, words_of}
use Rattle.run_promise.proofs.serving.DestRuns.{AreKnownDest, crashes_lawfully, dest_lawful}
use Rattle.run_promise.proofs.Premises.{calls_none}
use Rattle.run_promise.proofs.serving.servers.destinations_are_lawful_servers.Goals as goal

pub returns : goal.returns
returns g c =
    let k = g.M.Mechanism in
    let words = words_of k.mic_of k.derived k.started k.accepted k.finished count_gives in
    let known : AreKnownDest words = record {
      laws = c.steps_are_lawful.ensures.laws;
      owner = c.steps_are_lawful.ensures.owner;
      good = c.contexts_stay.ensures.good;
      boot = c.contexts_stay.ensures.boot;
      sessions = c.slots_are_kept.ensures.sessions;
      once = λ mech. c.steps_call_once.ensures.once mech calls_none;
      spares = λ mech. c.steps_call_once.ensures.root mech calls_none;
      by_calls = c.steps_change_by_calls.ensures;
      work_once = c.workers_call_once.ensures.work;
      reply_once = c.workers_call_once.ensures.reply;
      numbered = c.volumes_stay_fitting.ensures.opening;
      tick_good = c.contexts_rest.ensures.good;
      tick_slots = c.slots_rest.ensures.tick;
      begins = c.rests_are_lawful.ensures.start;
      begins_good = c.contexts_rest.ensures.start;
      begins_slots = c.slots_rest.ensures.start;
      alone = c.heard_records_are_not_answered.ensures;
      stops = record {
        boot = c.one_stop_is_one_crash.ensures.boot;
        allowed = c.one_stop_is_one_crash.ensures.allowed;
        crashes = c.one_stop_is_one_crash.ensures.crashes;
      };
      anew = c.servers_open_anew.ensures;
    } in
    record {
      laws = λ mech events first steps accepts whose seen purposes is are. dest_lawful words known accepts whose mech events first steps seen purposes is are;
      crashes = λ mech events first steps accepts whose seen purposes is are. crashes_lawfully words known accepts whose mech events first steps seen purposes is are;
    }
