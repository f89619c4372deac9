use Rattle.dest_core.specs.Stepping.{failure_step, tick_step}
use Rattle.dest_laws.proofs.names.Laws.{silent, whole}
use Rattle.dest_laws.proofs.names.Sealed.{good_own}
use Rattle.dest_laws.proofs.names.Shown.{rests_by}
use Rattle.dest_laws.proofs.names.whole.names_are_lawful.Goals as goal
use Rattle.dest_steps.specs.Copier.{Codes as StepCodes}
use Rattle.wire_meaning.specs.Meaning.{meaning}
use Rattle.wire_spelling.specs.Spelling.{spelling}

pub returns : goal.returns
returns g c =
    let names = c.names_stay.ensures in
    let goes = c.steps_go_by_deeds.ensures in
    let tells = c.reports_stay_right.ensures in
    let codes : StepCodes = record { mic = g.M.Mechanism.mic_of; derived = g.M.Mechanism.derived } in
    record {
      record_ = λ accepts whose s k speaker mech conn message now d before after t is shows fair held.
          let by = goes.record_ mech conn message now d before after t is in
          let told = c.answers_are_right.ensures accepts whose s k speaker mech conn message now d before after t is shows fair held in
          whole (spelling accepts whose) meaning s k (names.stays (spelling accepts whose) meaning s k _ speaker _ d t shows by) (names.one (spelling accepts whose) meaning s k _ speaker _ d t shows)
          told.2 told.3 told.1;
      work = λ accepts whose s k speaker started place now d before after t is shows fair held.
          let by = goes.work started codes place now d before after t is in
          let told = tells.work accepts whose s k speaker started place now d before after t is shows fair held in
          silent (spelling accepts whose) meaning s k _ speaker d t shows (names.stays (spelling accepts whose) meaning s k _ speaker _ d t shows by)
          (names.one (spelling accepts whose) meaning s k _ speaker _ d t shows) told.1;
      reply = λ accepts whose s k speaker finish place message now d t is all shows fair held.
          let by = goes.reply codes finish place message now d t is in
          let told = tells.reply accepts whose s k speaker finish place message now d t is all shows fair held in
          silent (spelling accepts whose) meaning s k _ speaker d t shows (names.stays (spelling accepts whose) meaning s k _ speaker _ d t shows by)
          (names.one (spelling accepts whose) meaning s k _ speaker _ d t shows) told.1;
      failure = λ accepts whose s k speaker place d shows fair held.
          let t = failure_step codes place d in
          let by = goes.failure codes place d in
          let told = tells.failure accepts whose s k speaker place d shows fair held in
          silent (spelling accepts whose) meaning s k _ speaker d t shows (names.stays (spelling accepts whose) meaning s k _ speaker _ d t shows by)
          (names.one (spelling accepts whose) meaning s k _ speaker _ d t shows) told.1;
      tick = λ accepts whose s k speaker now d shows fair held.
          let t = tick_step codes now d in
          let by = goes.tick codes now d in
          let told = tells.tick accepts whose s k speaker now d shows fair held in
          silent (spelling accepts whose) meaning s k _ speaker d t shows (names.stays (spelling accepts whose) meaning s k _ speaker _ d t shows by)
          (names.one (spelling accepts whose) meaning s k _ speaker _ d t shows) told.1;
      rest = λ accepts whose s k took speaker d t shows same nothing held.
          let told = tells.rest accepts whose s k took speaker d t shows same nothing held in
          silent (spelling accepts whose) meaning s k _ speaker d t shows (names.stays (spelling accepts whose) meaning s k _ speaker _ d t shows (rests_by d t same))
          (names.one (spelling accepts whose) meaning s k _ speaker _ d t shows) told.1;
      own = good_own;
      stable = λ s k d held j is. (held.marks j is).1;
    }
