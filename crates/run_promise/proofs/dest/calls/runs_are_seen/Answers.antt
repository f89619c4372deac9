use Rattle.std.proofs.Common.{◌∙◌}
use Rattle.caller_laws.specs.Good.{Identity}
use Rattle.dest_laws.specs.Own.Going.{jobs_in}
use Rattle.nfs_base.specs.declared.seal.End.TheVariants.{Dest}
use Rattle.run_ends.specs.Ends.{count_gives, words_of}
use Rattle.run_ends.specs.Setting.{dest_name}
use Rattle.run_promise.proofs.dest.CallerRuns.{no_deeds, run_seen}
use Rattle.run_promise.proofs.dest.RunSteps.{AreKnown}
use Rattle.run_promise.proofs.dest.calls.runs_are_seen.Goals as goal

pub returns : goal.returns
returns g c mech first steps accepts whose own are never =
    let k = g.M.Mechanism in
    let me : Identity = record { accepts = accepts; whose = whose; own = Dest } in
    let known : AreKnown (words_of k.mic_of k.derived k.started k.accepted k.finished count_gives) me mech = record {
      work = λ started place now s before after t speaker executed settled within tokens turn.
          c.workers_turns_are_seen.ensures mech dest_name me started place now s before after t speaker executed settled within tokens turn;
      reply = λ place now message s t speaker executed settled comes turn.
          c.replies_are_seen.ensures mech dest_name me place now message s t speaker executed settled comes turn;
      tick = λ now s speaker executed settled. c.ticks_are_seen.ensures mech dest_name me now s speaker executed settled;
      record_ = λ conn message now s before after t speaker executed settled owner comes turn.
          c.records_are_seen.ensures mech dest_name me conn message now s before after t speaker executed settled owner comes turn;
      rest = λ s shown settled accepted out. c.rests_are_seen.ensures mech dest_name me s shown settled accepted out;
      record_deeds = λ conn message now s before after t turn. c.steps_go_by_deeds.ensures.record_ mech conn message now s before after t turn;
      work_deeds = λ started codes place now s before after t turn. c.steps_go_by_deeds.ensures.work started codes place now s before after t turn;
      reply_deeds = λ codes finish place message now s t turn. c.steps_go_by_deeds.ensures.reply codes finish place message now s t turn;
      tick_deeds = λ codes now s. c.steps_go_by_deeds.ensures.tick codes now s;
      none_deeds = λ s. no_deeds (jobs_in s);
      record_kept = λ conn message now s before after t turn kept. record {
        owner = c.contexts_stay_own.ensures.record_ mech conn message now s before after t turn ∙ kept.owner;
        principal = c.principals_stay.ensures.record_ mech conn message now s before after t turn ∙ kept.principal;
        mech_is = c.mechanisms_stay.ensures.record_ mech conn message now s before after t turn ∙ kept.mech_is;
      };
      work_kept = λ started codes place now s before after t turn kept. record {
        owner = c.contexts_stay_own.ensures.work started codes place now s before after t turn ∙ kept.owner;
        principal = c.principals_stay.ensures.work started codes place now s before after t turn ∙ kept.principal;
        mech_is = c.mechanisms_stay.ensures.work started codes place now s before after t turn ∙ kept.mech_is;
      };
      reply_kept = λ codes finish place message now s t turn kept. record {
        owner = c.contexts_stay_own.ensures.reply codes finish place message now s t turn ∙ kept.owner;
        principal = c.principals_stay.ensures.reply codes finish place message now s t turn ∙ kept.principal;
        mech_is = c.mechanisms_stay.ensures.reply codes finish place message now s t turn ∙ kept.mech_is;
      };
      tick_kept = λ codes now s kept. record {
        owner = c.contexts_stay_own.ensures.tick codes now s ∙ kept.owner;
        principal = c.principals_stay.ensures.tick codes now s ∙ kept.principal;
        mech_is = c.mechanisms_stay.ensures.tick codes now s ∙ kept.mech_is;
      };
    } in
    run_seen (words_of k.mic_of k.derived k.started k.accepted k.finished count_gives) accepts whose mech first steps known own are never
