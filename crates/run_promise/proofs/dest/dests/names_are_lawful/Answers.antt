use Rattle.std.proofs.Common.{ℕ, List, Option}
use Rattle.nfs_base.specs.declared.seal.End.{End}
use Rattle.run_ends.specs.Ends.{count_gives, run_machines, words_of}
use Rattle.run_promise.proofs.dest.Names.{IsNamed, StaysRight, Steps}
use Rattle.run_promise.proofs.Premises.{calls_none}
use Rattle.run_promise.proofs.dest.Records.{AreServed}
use Rattle.run_promise.proofs.dest.Runs.{KeepOpening}
use Rattle.run_promise.proofs.dest.Whole.{host, names, rights}
use Rattle.run_promise.proofs.dest.dests.names_are_lawful.Goals as goal
use Rattle.run_promise.specs.System.System.{opening_of}
use Rattle.wire_meaning.specs.Meaning.{meaning}
use Rattle.wire_model.specs.System.{System}
use Rattle.wire_spelling.specs.Spelling.{spelling}

pub returns : goal.returns
returns g c =
    let k = g.M.Mechanism in
    let words = words_of k.mic_of k.derived k.started k.accepted k.finished count_gives in
    let shown = c.destinations_are_shown.ensures in
    let keeps = c.openings_stay.ensures in
    let answers = c.answers_are_right.ensures in
    let reports = c.reports_stay_right.ensures in
    let called = c.names_are_lawful.ensures in
    let served : AreServed words = record {
      good = c.contexts_stay.ensures.good;
      owner = c.steps_are_lawful.ensures.owner;
      changes = λ mech. c.servers_change_volumes_lawfully.ensures.laws mech calls_none;
      writes = c.servers_change_volumes_lawfully.ensures.writes;
    } in
    let keep : KeepOpening words = record { record_ = keeps.record_; work = keeps.work; reply = keeps.reply } in
    let stays : (accepts : List ℕ → Option (List ℕ)) (whose : List ℕ → Option End) (s : System) → Steps words accepts whose s (StaysRight words accepts whose s) = λ accepts whose s. record {
      record_ = λ k speaker mech conn message now d before after t is shows fair right. (answers accepts whose s k speaker mech conn message now d before after t is shows fair right).0;
      work = λ k speaker started place now d before after t is shows fair right. (reports.work accepts whose s k speaker started place now d before after t is shows fair right).0;
      reply = λ k speaker finish place message now d t is all shows fair right. (reports.reply accepts whose s k speaker finish place message now d t is all shows fair right).0;
      tick = λ k speaker now d shows fair right. (reports.tick accepts whose s k speaker now d shows fair right).0;
      rest = λ k took speaker d t shows same sent right. (reports.rest accepts whose s k took speaker d t shows same sent right).0;
    } in
    record {
      laws = λ mech first steps accepts whose seen purposes is are never own at.
          let s : System =
          opening_of (run_machines k.mic_of k.derived k.started k.accepted k.finished) (record { mic = k.mic_of; derived = k.derived }) (spelling accepts whose) meaning seen first steps purposes in
          let named : Steps words accepts whose s (IsNamed words accepts whose s) = record {
            record_ = called.record_ accepts whose s;
            work = called.work accepts whose s;
            reply = called.reply accepts whose s;
            tick = called.tick accepts whose s;
            rest = called.rest accepts whose s;
          } in
          names words accepts whose first steps mech is never served (shown.did mech first steps (spelling accepts whose) meaning is are never)
          c.contexts_rest.ensures.start s (shown.step mech first steps (spelling accepts whose) meaning seen purposes is are never) keep
          (shown.opening mech first steps (spelling accepts whose) meaning is are never)
          (c.jobs_are_few.ensures mech first steps accepts whose is are never) own c.reports_begin_right.ensures (stays accepts whose s) named at;
      safe = λ mech first steps accepts whose seen purposes is are never own at.
          let s : System =
          opening_of (run_machines k.mic_of k.derived k.started k.accepted k.finished) (record { mic = k.mic_of; derived = k.derived }) (spelling accepts whose) meaning seen first steps purposes in
          called.stable s at (host words accepts whose first steps at)
          (rights words accepts whose first steps mech is never served (shown.did mech first steps (spelling accepts whose) meaning is are never)
          c.contexts_rest.ensures.start s (shown.step mech first steps (spelling accepts whose) meaning seen purposes is are never) keep
          (shown.opening mech first steps (spelling accepts whose) meaning is are never)
          (c.jobs_are_few.ensures mech first steps accepts whose is are never) own c.reports_begin_right.ensures (stays accepts whose s) at);
    }
