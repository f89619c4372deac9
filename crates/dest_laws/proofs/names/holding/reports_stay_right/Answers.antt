use Rattle.std.proofs.Common.{None, subst, suc, sym}
use Rattle.dest_core.specs.Stepping.{DestState, copier_in, failure_step, tick_step}
use Rattle.dest_laws.proofs.names.Caused.{ends_caused}
use Rattle.dest_laws.proofs.names.Shown.{are_then, committed_safe, go_safe, held_then, none_told, nothing_sent, reports_then, rests_by, within_then}
use Rattle.dest_laws.proofs.names.Turns.{reply_sessions, work_sessions}
use Rattle.dest_laws.proofs.names.holding.reports_stay_right.Goals as goal
use Rattle.dest_laws.specs.Names.Causes.{HaveCauses}
use Rattle.dest_laws.specs.Names.Holding.{safe_at}
use Rattle.dest_laws.specs.Names.Posts.{AreRight, SessionsFit}
use Rattle.dest_laws.specs.Names.Right.{IsSafe, TellsRight}
use Rattle.dest_laws.specs.Own.Going.{jobs_in}
use Rattle.dest_laws.specs.View.Steps.{table_in}
use Rattle.dest_steps.specs.Copier.{Codes}

pub returns : goal.returns
returns g c =
    let mic = g.M.Mechanism.mic_of in
    let codes : Codes = record { mic = g.M.Mechanism.mic_of; derived = g.M.Mechanism.derived } in
    let read = c.callbacks_are_read.ensures in
    let fits = c.back_channels_fit.ensures.backs in
    let tells = c.steps_tell_right.ensures in
    let keep = c.histories_stay_linked.ensures.keeps in
    let later = c.entries_grow_by_deeds.ensures.later in
    let goes = c.steps_go_by_deeds.ensures in
    record {
      work = λ accepts whose s k speaker started place now d before after t is shows fair held.
          let by = goes.work started codes place now d before after t is in
          let told =
          tells.work _ _ _ codes started place now d before after t is fair.own (fits d.state.sessions held.fit) (are_then accepts whose mic read s k _ speaker _ d t shows keep later by held)
          (within_then accepts whose mic read s k _ speaker _ d t shows keep later by held) held.have (committed_safe accepts whose mic read s k _ speaker _ d t shows keep later by held) in (
            held_then accepts whose mic read s k _ speaker _ d t shows keep later by held told.0 (go_safe accepts whose mic read s k _ speaker _ d t shows keep later by fair told.1) (none_told _) (subst SessionsFit (sym (work_sessions _ started codes place now d before after t is)) held.fit) told.2,
            reports_then accepts whose mic read s k _ speaker _ d t shows keep later by held told.0 (go_safe accepts whose mic read s k _ speaker _ d t shows keep later by fair told.1) (none_told _),
          );
      reply = λ accepts whose s k speaker finish place message now d t is all shows fair held.
          let by = goes.reply codes finish place message now d t is in
          let told =
          tells.reply _ _ _ codes finish place message now d t is (fits d.state.sessions held.fit) (are_then accepts whose mic read s k _ speaker _ d t shows keep later by held)
          (within_then accepts whose mic read s k _ speaker _ d t shows keep later by held) held.have all in (
            held_then accepts whose mic read s k _ speaker _ d t shows keep later by held told.0 (go_safe accepts whose mic read s k _ speaker _ d t shows keep later by fair told.1) (none_told _) (subst SessionsFit (sym (reply_sessions codes finish place message now d t is)) held.fit) told.2,
            reports_then accepts whose mic read s k _ speaker _ d t shows keep later by held told.0 (go_safe accepts whose mic read s k _ speaker _ d t shows keep later by fair told.1) (none_told _),
          );
      failure = λ accepts whose s k speaker place d shows fair held.
          let t = failure_step codes place d in
          let by = goes.failure codes place d in
          let told =
          tells.failure _ _ _ codes place d (fits d.state.sessions held.fit) (are_then accepts whose mic read s k _ speaker _ d t shows keep later by held)
          (within_then accepts whose mic read s k _ speaker _ d t shows keep later by held) held.have in (
            held_then accepts whose mic read s k _ speaker _ d t shows keep later by held told.0 (go_safe accepts whose mic read s k _ speaker _ d t shows keep later by fair told.1) (none_told _) held.fit told.2,
            reports_then accepts whose mic read s k _ speaker _ d t shows keep later by held told.0 (go_safe accepts whose mic read s k _ speaker _ d t shows keep later by fair told.1) (none_told _),
          );
      tick = λ accepts whose s k speaker now d shows fair held.
          let t = tick_step codes now d in
          let by = goes.tick codes now d in
          let told = tells.tick _ _ _ codes now d fair.own (fits d.state.sessions held.fit) (are_then accepts whose mic read s k _ speaker _ d t shows keep later by held) in (
            held_then accepts whose mic read s k _ speaker _ d t shows keep later by held told.0 (go_safe accepts whose mic read s k _ speaker _ d t shows keep later by fair told.1) (none_told _) held.fit (ends_caused (jobs_in d) (jobs_in t.host) (c.records_take_and_end.ensures.tick codes now d) held.have),
            reports_then accepts whose mic read s k _ speaker _ d t shows keep later by held told.0 (go_safe accepts whose mic read s k _ speaker _ d t shows keep later by fair told.1) (none_told _),
          );
      rest = λ accepts whose s k took speaker d t shows same nothing held.
          let by = rests_by d t same in
          let are =
          subst (λ (h : DestState _). AreRight (TellsRight (table_in t.host).boot (s.made (suc k)) (safe_at s (suc k))) (copier_in h).back) (sym same)
          (are_then accepts whose mic read s k took speaker None d t shows keep later by held) in
          let sent = nothing_sent (IsSafe (table_in t.host).boot (s.made (suc k)) (safe_at s (suc k))) t.out.sent nothing in (
            held_then accepts whose mic read s k took speaker None d t shows keep later by held are sent (none_told _) (subst (λ (h : DestState _). SessionsFit h.state.sessions) (sym same) held.fit)
                (subst (λ (h : DestState _). HaveCauses (table_in h)) (sym same) held.have),
            reports_then accepts whose mic read s k took speaker None d t shows keep later by held are sent (none_told _),
          );
    }
