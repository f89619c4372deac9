use Rattle.std.proofs.Common.{refl, slice_get}
use Rattle.run_ends.specs.Ends.{count_gives, machines, words_of}
use Rattle.run_promise.proofs.dest.DestGoes.{AreKnown}
use Rattle.run_promise.proofs.dest.Moments.{AreFolds, did_at, quiet_by, seen_at}
use Rattle.run_promise.proofs.dest.Shown.{begins, reaches, shows_as, shows_at, starts}
use Rattle.run_promise.proofs.dest.copies.destinations_are_shown.Goals as goal
use Rattle.run_promise.specs.System.System.{telling}
use Rattle.wire_machine.specs.History.{at_moment}

pub returns : goal.returns
returns g c =
    let k = g.M.Mechanism in
    let words = words_of k.mic_of k.derived k.started k.accepted k.finished count_gives in
    let stories = c.steps_have_stories.ensures in
    let kept = c.tables_stay_sound.ensures in
    let stays = c.openings_stay.ensures in
    let known : AreKnown words = record {
      record_ = λ mech conn message now s before after t is. record {
        story = stories.record_ mech conn message now s before after t is;
        kept = kept.record_ mech conn message now s before after t is;
        boot = stays.record_ mech conn message now s before after t is;
      };
      work = λ started codes place now s before after t is. record {
        story = stories.work started codes place now s before after t is;
        kept = kept.work started codes place now s before after t is;
        boot = stays.work started codes place now s before after t is;
      };
      reply = λ codes finish place message now s t is. record {
        story = stories.reply codes finish place message now s t is;
        kept = kept.reply codes finish place message now s t is;
        boot = stays.reply codes finish place message now s t is;
      };
      tick = λ codes now s. record { story = stories.tick codes now s; kept = kept.tick codes now s; boot = stays.tick codes now s };
      rest = λ s used. record { story = stories.rest s used; kept = λ sound. sound; boot = refl };
    } in
    let folds : AreFolds = record {
      later = c.entries_grow_by_deeds.ensures.later;
      linked = c.histories_stay_linked.ensures.linked;
      count = c.histories_are_folds.ensures.count;
      past = c.histories_are_folds.ensures.past;
      on = c.histories_show_jobs.ensures.on;
      marked = c.histories_show_jobs.ensures.marked;
    } in
    record {
      run = λ mech first steps spell meaning seen purposes is are never.
          shows_as words known folds spell meaning seen purposes first steps (begins words known folds spell meaning first steps mech is kept.begin) are never;
      step = λ mech first steps spell meaning seen purposes is are never.
          shows_at words known folds spell meaning seen purposes first steps (begins words known folds spell meaning first steps mech is kept.begin) are never;
      did = λ mech first steps spell meaning is are never k s made.
          did_at words known folds spell meaning first steps (begins words known folds spell meaning first steps mech is kept.begin) are never k s made;
      quiet = λ first steps spell meaning place none.
          quiet_by words known folds spell meaning
          (at_moment (machines words) (telling (record { mic = k.mic_of; derived = k.derived })) spell meaning first steps place).world (slice_get steps place) none;
      start = λ mech first steps spell meaning seen purposes is.
          starts words known folds spell meaning seen purposes first steps mech is kept.begin c.opened_destinations_show_nothing.ensures.copies;
      last = λ first steps spell meaning seen purposes. reaches words known folds spell meaning seen purposes first steps;
      kept = λ mech first steps spell meaning is are never k.
          (seen_at words known folds spell meaning first steps (begins words known folds spell meaning first steps mech is kept.begin) are never k).kept;
      opening = λ mech first steps spell meaning is are never k.
          (seen_at words known folds spell meaning first steps (begins words known folds spell meaning first steps mech is kept.begin) are never k).boot;
    }
