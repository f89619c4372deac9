use Rattle.dest_laws.proofs.landings.Plans.{DeedLaws}
use Rattle.dest_laws.proofs.landings.Stays.{record_same}
use Rattle.dest_laws.proofs.landings.Turns.{SendLaws}
use Rattle.dest_laws.proofs.landings.Whole.{failure_well, record_well, reply_well, tick_well, work_well}
use Rattle.dest_laws.proofs.landings.lands.landings_are_due.Goals as goal

pub returns : goal.returns
returns g c =
    let all = c.what_goes_out_is_counted.ensures in
    let sends : SendLaws = record { begin = all.begin; anew = all.anew; step = all.step; slot = all.slot; create = all.create } in
    let entries = c.entries_grow_by_deeds.ensures in
    let laws : DeedLaws = record { later = entries.later; grows = entries.grows; gone = entries.gone } in
    let keeps = c.histories_stay_linked.ensures.keeps in
    let due = c.steps_give_one_entry.ensures.due in
    let ends = c.records_take_and_end.ensures in
    record {
      record_ = λ spell meaning s k took speaker executed mech conn message now d before after t shows call is.
          record_well keeps spell meaning s k took speaker executed d t shows (ends.record_ mech conn message now d before after t is)
          (record_same _ _ _ (c.own_parts_go_on.ensures.step mech) conn message now d before after t is) call;
      work = λ spell meaning s k took speaker executed started codes place now d before after t shows worker is sound orderly.
          work_well sends due keeps laws spell meaning s k took speaker executed _ started codes place now d before after t shows worker is sound orderly;
      reply = λ accepts whose s k speaker executed codes finish place message now d t shows worker is all_bytes sound orderly spelled.
          reply_well keeps laws c.questions_are_read.ensures.asked c.answers_are_awaited.ensures accepts whose s k speaker executed codes finish place message now d t shows worker is all_bytes sound orderly spelled;
      failure = λ spell meaning s k took speaker executed codes place d shows. failure_well keeps spell meaning s k took speaker executed d codes place shows;
      tick = λ spell meaning s k took speaker executed codes now d shows.
          tick_well keeps spell meaning s k took speaker executed d codes now (ends.tick codes now d) shows;
    }
