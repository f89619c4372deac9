use Rattle.run_promise.proofs.dest.Along.{both_at, orderly_at, volume_at}
use Rattle.run_promise.proofs.dest.lands.runs_land_well.Goals as goal
use Rattle.run_promise.specs.Dest.Ways.{words_at}
use Rattle.wire_meaning.specs.Meaning.{meaning}
use Rattle.wire_spelling.specs.Spelling.{spelling}

pub returns : goal.returns
returns g c =
    let asks = c.workers_ask_by_plans.ensures in
    let due = c.landings_are_due.ensures in
    let rests = c.rests_owe_nothing.ensures in
    let volumes = c.volumes_go_on.ensures in
    record {
      orderly = λ mech started finished accepts whose s host step ways run first goes.
          orderly_at _ (words_at _ g.M.Mechanism.accepted mech started finished _) accepts whose s host step ways run first goes
          (record { record_ = λ k. asks.record_ (mech k); work = λ k. asks.work; reply = asks.reply; failure = asks.failure; tick = asks.tick });
      lands = λ mech started finished accepts whose s host step ways run first goes k.
          (both_at _ (words_at _ g.M.Mechanism.accepted mech started finished _) accepts whose s host step ways run first goes
          (record { record_ = λ k. asks.record_ (mech k); work = λ k. asks.work; reply = asks.reply; failure = asks.failure; tick = asks.tick })
          (record {
            record_ = λ k took speaker executed. due.record_ (spelling accepts whose) meaning s k took speaker executed (mech k);
            work = due.work (spelling accepts whose) meaning s;
            reply = due.reply accepts whose s;
            failure = due.failure (spelling accepts whose) meaning s;
            tick = due.tick (spelling accepts whose) meaning s;
            rest_lands = rests.lands (spelling accepts whose) meaning s;
            rest_holds = rests.holds (spelling accepts whose) meaning s;
          }) k).0;
      holds = λ mech started finished accepts whose s host step ways run first goes k.
          (both_at _ (words_at _ g.M.Mechanism.accepted mech started finished _) accepts whose s host step ways run first goes
          (record { record_ = λ k. asks.record_ (mech k); work = λ k. asks.work; reply = asks.reply; failure = asks.failure; tick = asks.tick })
          (record {
            record_ = λ k took speaker executed. due.record_ (spelling accepts whose) meaning s k took speaker executed (mech k);
            work = due.work (spelling accepts whose) meaning s;
            reply = due.reply accepts whose s;
            failure = due.failure (spelling accepts whose) meaning s;
            tick = due.tick (spelling accepts whose) meaning s;
            rest_lands = rests.lands (spelling accepts whose) meaning s;
            rest_holds = rests.holds (spelling accepts whose) meaning s;
          }) k).1;
      volumes = λ mech started finished accepts whose s host step ways run first goes few k.
          volume_at _ (words_at _ g.M.Mechanism.accepted mech started finished _) accepts whose s host step ways run first goes
          (record { record_ = λ k. asks.record_ (mech k); work = λ k. asks.work; reply = asks.reply; failure = asks.failure; tick = asks.tick })
          (record {
            record_ = λ k took speaker executed. due.record_ (spelling accepts whose) meaning s k took speaker executed (mech k);
            work = due.work (spelling accepts whose) meaning s;
            reply = due.reply accepts whose s;
            failure = due.failure (spelling accepts whose) meaning s;
            tick = due.tick (spelling accepts whose) meaning s;
            rest_lands = rests.lands (spelling accepts whose) meaning s;
            rest_holds = rests.holds (spelling accepts whose) meaning s;
          })
          (record {
            work = volumes.work (spelling accepts whose) meaning s;
            reply = volumes.reply (spelling accepts whose) meaning s;
            failure = volumes.failure (spelling accepts whose) meaning s;
            tick = volumes.tick (spelling accepts whose) meaning s;
            rest = volumes.rest s;
          }) few k;
    }
