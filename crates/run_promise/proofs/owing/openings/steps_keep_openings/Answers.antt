use Rattle.dest_laws.specs.Own.Going.{jobs_in}
use Rattle.run_ends.specs.Ends.{count_gives, words_of}
use Rattle.run_promise.proofs.owing.Keeping.{ActsKeep, steps_keep}
use Rattle.run_promise.proofs.owing.openings.steps_keep_openings.Goals as goal

pub returns : goal.returns
returns g c =
    let M = g.M.Mechanism in
    let words = words_of M.mic_of M.derived M.started M.accepted M.finished count_gives in
    let volume = c.openings_stay.ensures in
    let mech = c.mechanisms_stay.ensures in
    let deeds = c.steps_go_by_deeds.ensures in
    let later = c.entries_grow_by_deeds.ensures.later in
    let keep : ActsKeep words = record {
      record_ = λ by conn message now s before after t is.
          let goes = deeds.record_ by conn message now s before after t is in
          record {
            volume = volume.record_ by conn message now s before after t is;
            table = (later goes.0 (jobs_in s) (jobs_in t.host) goes.1).boot;
            mech = mech.record_ by conn message now s before after t is;
          };
      work = λ started codes place now s before after t is.
          let goes = deeds.work started codes place now s before after t is in
          record {
            volume = volume.work started codes place now s before after t is;
            table = (later goes.0 (jobs_in s) (jobs_in t.host) goes.1).boot;
            mech = mech.work started codes place now s before after t is;
          };
      reply = λ codes finish place message now s t is.
          let goes = deeds.reply codes finish place message now s t is in
          record {
            volume = volume.reply codes finish place message now s t is;
            table = (later goes.0 (jobs_in s) (jobs_in t.host) goes.1).boot;
            mech = mech.reply codes finish place message now s t is;
          };
      tick = λ codes now s.
          let goes = deeds.tick codes now s in
          record {
            volume = volume.tick codes now s;
            table = (later goes.0 (jobs_in s) _ goes.1).boot;
            mech = mech.tick codes now s;
          };
    } in
    steps_keep words keep
