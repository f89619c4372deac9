use Rattle.run_ends.specs.Ends.{count_gives, words_of}
use Rattle.run_promise.proofs.serving.SourceRuns.{AreKnown, source_lawful}
use Rattle.run_promise.proofs.serving.servers.sources_are_lawful.Goals as goal

pub returns : goal.returns
returns g c mech events first steps accepts whose seen purposes is few are =
    let k = g.M.Mechanism in
    let known : AreKnown (words_of k.mic_of k.derived k.started k.accepted k.finished count_gives) = record {
      laws = c.steps_are_lawful.ensures.laws;
      owner = c.steps_are_lawful.ensures.owner;
      good = c.contexts_stay.ensures.good;
      boot = c.contexts_stay.ensures.boot;
      sessions = c.slots_are_kept.ensures.sessions;
      changes = c.source_steps_are_right.ensures.laws;
      fitting = c.source_steps_are_right.ensures.fitting;
      opening = c.source_steps_are_right.ensures.opening;
      tells = c.source_steps_are_right.ensures.tells;
      seals = c.steps_are_lawful.ensures.seals;
      replies = c.steps_are_lawful.ensures.replies;
      once = λ mech. c.steps_call_once.ensures.once mech c.own_operations_call_none.ensures;
      spares = λ mech. c.steps_call_once.ensures.root mech c.own_operations_call_none.ensures;
      by_calls = c.steps_change_by_calls.ensures;
      fits = c.volumes_stay_fitting.ensures.words;
      tick_laws = c.rests_are_lawful.ensures.tick;
      tick_view = c.contexts_rest.ensures.tick;
      tick_good = c.contexts_rest.ensures.good;
      tick_slots = c.slots_rest.ensures.tick;
      begins = c.rests_are_lawful.ensures.start;
      begins_good = c.contexts_rest.ensures.start;
      begins_slots = c.slots_rest.ensures.start;
      formats = c.volumes_stay_fitting.ensures.start;
      stays = record {
        came = c.volumes_stay_fitting.ensures.came;
        under = c.volumes_stay_fitting.ensures.under;
        crash = c.volumes_stay_fitting.ensures.crash;
      };
      stops = record {
        boot = c.one_stop_is_one_crash.ensures.boot;
        allowed = c.one_stop_is_one_crash.ensures.allowed;
        crashes = c.one_stop_is_one_crash.ensures.crashes;
      };
      anew = c.servers_open_anew.ensures;
    } in
    source_lawful (words_of k.mic_of k.derived k.started k.accepted k.finished count_gives) known accepts whose mech events first steps seen purposes is few are
