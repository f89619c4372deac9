use Rattle.std.proofs.Common.{refl}
use Rattle.dest_laws.proofs.landings.Plans.{DeedLaws}
use Rattle.dest_laws.proofs.landings.Silent.{record_silent, reply_silent, work_silent}
use Rattle.dest_laws.proofs.landings.Stays.{failure_posted, opened_orderly, record_posted, record_same, reply_posted, tick_posted, work_posted}
use Rattle.dest_laws.proofs.landings.Turns.{SendLaws}
use Rattle.dest_laws.proofs.landings.asked.workers_ask_by_plans.Goals as goal

pub returns : goal.returns
returns g c =
    let all = c.what_goes_out_is_counted.ensures in
    let sends : SendLaws = record { begin = all.begin; anew = all.anew; step = all.step; slot = all.slot; create = all.create } in
    let entries = c.entries_grow_by_deeds.ensures in
    let laws : DeedLaws = record { later = entries.later; grows = entries.grows; gone = entries.gone } in
    let deeds = c.steps_go_by_deeds.ensures in
    record {
      begin = opened_orderly;
      record_ = λ mech conn message now d before after t is orderly. record {
        silent = record_silent _ _ _ conn message now d before after t orderly.silent is;
        posted = record_posted laws d t (deeds.record_ mech conn message now d before after t is)
            (record_same _ _ _ (c.own_parts_go_on.ensures.step mech) conn message now d before after t is) orderly.posted;
      };
      work = λ started codes place now d before after t is sound orderly. record {
        silent = work_silent _ started codes place now d before after t is;
        posted = work_posted sends laws _ started codes place now d before after t (deeds.work started codes place now d before after t is) sound is orderly.posted;
      };
      reply = λ codes finish place message now d t is orderly. record {
        silent = reply_silent codes finish place message now d t is;
        posted = reply_posted laws codes finish place message now d t (deeds.reply codes finish place message now d t is) is orderly.posted;
      };
      failure = λ codes place d orderly. record { silent = refl; posted = failure_posted laws codes place d (deeds.failure codes place d) orderly.posted };
      tick = λ codes now d orderly. record { silent = refl; posted = tick_posted laws codes now d (deeds.tick codes now d) orderly.posted };
    }
