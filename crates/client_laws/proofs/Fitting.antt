-- What is awaited at the place of a copy stays what the copy asks.
use Rattle.std.proofs.Common.{◌≡◌, ◌≢◌, ◌∙◌, ℕ, zero, suc, get_or, set, Bool, true, false, List, [], ◌∷◌, Option, Some, None, refl, sym, ap, subst, arith}
use Rattle.std.specs.Prelude.{◌==◌, nat_lt}
use Rattle.callbacks.specs.Callbacks.{Outcome, counted, evaluated, evaluated_by, if_ok, is_session, named_outcome, offload_by, op_outcome, sequence_by, tail_outcome, walked}
use Rattle.client_copies.specs.Copies.{asking as asking_of, asking_by, begun, due, is_stable, side_of}
use Rattle.client_copies.specs.declared.copy.Asking.TheVariants as asking
use Rattle.client_copies.specs.Held.{has_room, told_for}
use Rattle.client_copies.specs.Refusals.{refused_with}
use Rattle.client_copies.specs.Steps.{after, asked_step, completed, fails_if, is_going, is_side, lost_by, moves, on_accepted, on_allowed, on_ended, on_granted, on_offloaded, on_opened, on_progressed, on_queried, on_refused, on_sent, on_told, opened_to, query_down, stage_down, synced, told_by, stood_still}
use Rattle.client_copies.specs.Table.{Copies, accepted_at, copy_after, copy_at, held_if, named_by, offloaded_to, released, said_of, told_at, told_held, with_begun}
use Rattle.client_copies.specs.declared.copy.ClientCopy.{ClientCopy}
use Rattle.client_copies.specs.declared.copy.First.{First}
use Rattle.client_copies.specs.declared.copy.Query.{Query}
use Rattle.client_copies.specs.declared.copy.Query.TheVariants as queries
use Rattle.client_copies.specs.declared.copy.Session.{Session}
use Rattle.client_copies.specs.declared.copy.Stage.{Stage}
use Rattle.client_copies.specs.declared.copy.Stage.TheVariants.{Due, Asked, Accepted, Over}
use Rattle.client_copies.specs.declared.copy.Step.{Step}
use Rattle.client_copies.specs.declared.copy.Step.TheVariants as steps
use Rattle.client_copies.specs.declared.copy.Verdict.{Verdict}
use Rattle.client_copies.specs.declared.copy.Verdict.TheVariants as verdicts
use Rattle.client_copies.specs.declared.event.Event.{Event}
use Rattle.client_copies.specs.declared.event.Event.TheVariants as events
use Rattle.client_copies.specs.declared.held.HeldOffload.{HeldOffload}
use Rattle.client_copies.specs.declared.told.Said.{Said}
use Rattle.copy_ops.specs.declared.callback.CbOffload.{CbOffload}
use Rattle.copy_ops.specs.declared.callback.OffloadEnd.{OffloadEnd}
use Rattle.copy_ops.specs.declared.callback.OffloadEnd.TheVariants as ends
use Rattle.file_ops.specs.declared.callbacks.CbSeq.{CbSeq}
use Rattle.nfs_base.specs.declared.copy_spec.CopySpec.{CopySpec}
use Rattle.nfs_base.specs.declared.limits.TheConstants.{MOST_OPERATIONS}
use Rattle.nfs_base.specs.declared.side.Side.{Side}
use Rattle.nfs_base.specs.declared.side.Side.TheVariants.{Source, Dest}
use Rattle.nfs_base.specs.declared.state_id.StateId.{StateId}
use Rattle.nfs_base.specs.declared.status.Status.{Status}
use Rattle.nfs_base.specs.declared.written.Stability.{Stability}
use Rattle.nfs_base.specs.declared.written.Stability.TheVariants.{Unstable, DataSync, FileSync}
use Rattle.nfs_compound.specs.declared.cb_compound.CbCompound.{CbCompound}
use Rattle.nfs_compound.specs.declared.cb_op.CbOp.{CbOp}
use Rattle.nfs_compound.specs.declared.cb_op.CbOp.TheVariants as ops
use Rattle.nfs_compound.specs.declared.compound.TheConstants.{MINOR_VERSION}
use Rattle.nfs_compound.specs.declared.tail.Tail.{Tail}
use Rattle.nfs_compound.specs.declared.tail.Tail.TheVariants as tails
use Rattle.call_results.specs.declared.copies.Granted.{Granted}
use Rattle.call_results.specs.declared.files.Opened.{Opened}
use Rattle.client_copies.specs.declared.refusal.Refusal.{Refusal}
use Rattle.client_site.specs.declared.site.OpenFile.{OpenFile}
use Rattle.client_steps.specs.Acting.{Acting}
use Rattle.client_steps.specs.Answers.{accepted_by, copy_answered, copy_by, copy_deed, copy_opened, copy_told, denied_by, granted_by, last_told, progressed, query_of, query_told, refuse_call, stage_told, step_told}
use Rattle.client_steps.specs.CopySteps.{copy_in}
use Rattle.client_steps.specs.Replies.{deed_at}
use Rattle.client_steps.specs.declared.deeds.Deed.{Deed}
use Rattle.client_steps.specs.declared.deeds.Deed.TheVariants as deeds
use Rattle.client_steps.specs.declared.desk.Desk.{Desk}
use Rattle.copy_ops.specs.declared.results.OffloadProgress.{OffloadProgress}
use Rattle.mount.specs.declared.taking.Told.{Told}
use Rattle.mount.specs.declared.taking.Told.TheVariants as tells
use Rattle.nfs_compound.specs.declared.reply.Reply.{Reply}
use Rattle.nfs_compound.specs.declared.res.Res.{Res}
use Rattle.wire_model.specs.Wire.{ForCopy, ForFirst, ForLast, ForStatus, Purpose}
use Rattle.client_laws.proofs.HeardMoves.{IsNoCopys, first_none}
use Rattle.client_laws.specs.CallerLaws.{FitsAt, PurposesFit, is_past}
use Rattle.client_laws.specs.TableLaws.{copy_kept, copy_written}

-- ---- what happens to a copy, but that a call of it goes out

abbrev pub is_quiet : Event → Bool
is_quiet events.Sent = false
is_quiet (events.Queried query) = false
is_quiet _ = true

-- it awaits nothing more, and is as far as it was
record IsNoMore (c d : ClientCopy) : Type 0 where
  asked : (step : Step) → d.stage ≡ Asked step → c.stage ≡ Asked step
  query : (query : Query) → d.query ≡ Some query → c.query ≡ Some query
  past : is_past c.stage ≡ true → is_past d.stage ≡ true

never : {A : Type 0} → false ≡ true → A
never e = absurd cc

quiet_same : (c d : ClientCopy) → d.stage ≡ c.stage → ((query : Query) → d.query ≡ Some query → c.query ≡ Some query) → IsNoMore c d
quiet_same c d stage query = record { asked = λ step e. sym stage ∙ e; query = query; past = λ e. ap is_past stage ∙ e }

none_asked : (query : Query) (o : Option Query) → None ≡ Some query → o ≡ Some query
none_asked query o e = absurd cc

-- a stage at which nothing is awaited
abbrev is_asking : Stage → Bool
is_asking (Asked step) = true
is_asking _ = false

quiet_staged : (c d : ClientCopy) (st : Stage) → d.stage ≡ st → is_asking st ≡ false → d.query ≡ c.query → (is_past c.stage ≡ true → is_past st ≡ true) → IsNoMore c d
quiet_staged c d st stage idle query past = record {
  asked = λ step e. let both : st ≡ Asked step = sym stage ∙ e in never (sym idle ∙ ap is_asking both);
  query = λ q e. sym query ∙ e;
  past = λ e. ap is_past stage ∙ past e;
}

-- over, or on at what is past
quiet_late : (c : ClientCopy) (st : Stage) → is_asking st ≡ false → is_past st ≡ true → IsNoMore c (record c { stage = st })
quiet_late c st idle late = quiet_staged c (record c { stage = st }) st refl idle refl (λ e. late)

quiet_moved : (c : ClientCopy) (old : Stage) (o : Option Step) → c.stage ≡ old → ((step : Step) → o ≡ Some step → is_past old ≡ true → is_stable step ≡ true) → IsNoMore c (moves o c).1
quiet_moved c old None was on = quiet_same c c refl (λ q e. e)
quiet_moved c old (Some step) was on = quiet_staged c (record c { stage = Due step }) (Due step) refl refl refl (λ e. on step refl (ap is_past (sym was) ∙ e))

opened_on : (side : Side) (from to : Step) → opened_to side from ≡ Some to → is_stable from ≡ true → is_stable to ≡ true
opened_on Source steps.OpenSource to e stable = never stable
opened_on Source steps.OpenAgain to e stable =
    let same : steps.Last ≡ to = cc in
    ap is_stable (sym same)
opened_on Dest steps.OpenDest to e stable = never stable
opened_on Source steps.AllowSource to e stable = never stable
opened_on Source steps.Notify to e stable = never stable
opened_on Source steps.OpenDest to e stable = never stable
opened_on Source steps.AllowDest to e stable = never stable
opened_on Source steps.Copy to e stable = never stable
opened_on Source steps.Last to e stable = absurd cc
opened_on Dest steps.OpenSource to e stable = never stable
opened_on Dest steps.AllowSource to e stable = never stable
opened_on Dest steps.Notify to e stable = never stable
opened_on Dest steps.AllowDest to e stable = never stable
opened_on Dest steps.Copy to e stable = never stable
opened_on Dest steps.OpenAgain to e stable = absurd cc
opened_on Dest steps.Last to e stable = absurd cc

quiet_opened : (side : Side) (st : Stage) (c : ClientCopy) → c.stage ≡ st → IsNoMore c (on_opened side st c).1
quiet_opened side (Due step) c was = quiet_moved c (Due step) (opened_to side step) was (λ to e. opened_on side step to e)
quiet_opened side (Asked step) c was = quiet_moved c (Asked step) (opened_to side step) was (λ to e. opened_on side step to e)
quiet_opened side Accepted c was = quiet_same c c refl (λ q e. e)
quiet_opened side (Over v) c was = quiet_same c c refl (λ q e. e)

asked_of : (st : Stage) (step : Step) → asked_step st ≡ Some step → st ≡ Asked step
asked_of (Due s) step e = absurd cc
asked_of (Asked s) step e = cc
asked_of Accepted step e = absurd cc
asked_of (Over v) step e = absurd cc

quiet_allowed : (o : Option Step) (c : ClientCopy) → asked_step c.stage ≡ o → IsNoMore c (on_allowed o c).1
quiet_allowed (Some steps.AllowSource) c at = quiet_moved c (Asked steps.AllowSource) (Some steps.Notify) (asked_of c.stage steps.AllowSource at) (λ step e past. never past)
quiet_allowed (Some steps.AllowDest) c at = quiet_moved c (Asked steps.AllowDest) (Some steps.Copy) (asked_of c.stage steps.AllowDest at) (λ step e past. never past)
quiet_allowed (Some _) c at = quiet_same c c refl (λ q e. e)
quiet_allowed None c at = quiet_same c c refl (λ q e. e)

quiet_granted : (known : First) (o : Option Step) (c : ClientCopy) → asked_step c.stage ≡ o → IsNoMore c (on_granted known o c).1
quiet_granted known (Some steps.Notify) c at =
    quiet_staged c (record c { stage = Due steps.OpenDest; first = Some known }) (Due steps.OpenDest) refl refl refl
    (λ past. never (ap is_past (sym (asked_of c.stage steps.Notify at)) ∙ past))
quiet_granted known (Some steps.OpenSource) c at = quiet_same c c refl (λ q e. e)
quiet_granted known (Some steps.AllowSource) c at = quiet_same c c refl (λ q e. e)
quiet_granted known (Some steps.OpenDest) c at = quiet_same c c refl (λ q e. e)
quiet_granted known (Some steps.AllowDest) c at = quiet_same c c refl (λ q e. e)
quiet_granted known (Some steps.Copy) c at = quiet_same c c refl (λ q e. e)
quiet_granted known (Some steps.OpenAgain) c at = quiet_same c c refl (λ q e. e)
quiet_granted known (Some steps.Last) c at = quiet_same c c refl (λ q e. e)
quiet_granted known None c at = quiet_same c c refl (λ q e. e)

quiet_accepted : (id : StateId) (sent_at : ℕ) (o : Option Step) (c : ClientCopy) → IsNoMore c (on_accepted id sent_at o c).1
quiet_accepted id sent_at (Some steps.Copy) c =
    quiet_staged c (record c { stage = Accepted; id = Some id; asked_at = sent_at }) Accepted refl refl refl (λ past. refl)
quiet_accepted id sent_at (Some steps.OpenSource) c = quiet_same c c refl (λ q e. e)
quiet_accepted id sent_at (Some steps.AllowSource) c = quiet_same c c refl (λ q e. e)
quiet_accepted id sent_at (Some steps.Notify) c = quiet_same c c refl (λ q e. e)
quiet_accepted id sent_at (Some steps.OpenDest) c = quiet_same c c refl (λ q e. e)
quiet_accepted id sent_at (Some steps.AllowDest) c = quiet_same c c refl (λ q e. e)
quiet_accepted id sent_at (Some steps.OpenAgain) c = quiet_same c c refl (λ q e. e)
quiet_accepted id sent_at (Some steps.Last) c = quiet_same c c refl (λ q e. e)
quiet_accepted id sent_at None c = quiet_same c c refl (λ q e. e)

quiet_told : (change : ℕ) (session : Session) (o : Option Step) (c : ClientCopy) → IsNoMore c (on_told change session o c).1
quiet_told change session (Some steps.Last) c = quiet_late c (Over (told_by (stood_still change session c.first))) refl refl
quiet_told change session (Some steps.OpenSource) c = quiet_same c c refl (λ q e. e)
quiet_told change session (Some steps.AllowSource) c = quiet_same c c refl (λ q e. e)
quiet_told change session (Some steps.Notify) c = quiet_same c c refl (λ q e. e)
quiet_told change session (Some steps.OpenDest) c = quiet_same c c refl (λ q e. e)
quiet_told change session (Some steps.AllowDest) c = quiet_same c c refl (λ q e. e)
quiet_told change session (Some steps.Copy) c = quiet_same c c refl (λ q e. e)
quiet_told change session (Some steps.OpenAgain) c = quiet_same c c refl (λ q e. e)
quiet_told change session None c = quiet_same c c refl (λ q e. e)

quiet_refused : (status : Status) (o : Option Step) (c : ClientCopy) → IsNoMore c (on_refused status o c).1
quiet_refused status None c = quiet_same c c refl (λ q e. e)
quiet_refused status (Some step) c = quiet_late c (Over (lost_by (is_stable step) status)) refl refl

quiet_completed : (count : ℕ) (ok : Bool) (status : Status) (c : ClientCopy) → IsNoMore c (completed count ok status c).1
quiet_completed count true status c = quiet_late c (Due steps.OpenAgain) refl refl
quiet_completed count false status c = quiet_late c (Over (verdicts.Failed status)) refl refl

quiet_progressed : (count : ℕ) (complete : Option Status) (b : Bool) (c : ClientCopy) → IsNoMore c (on_progressed count complete b c).1
quiet_progressed count None true c = quiet_same c c refl (λ q e. e)
quiet_progressed count (Some status) true c = quiet_completed count (status.number == 0) status c
quiet_progressed count complete false c = quiet_same c c refl (λ q e. e)

quiet_ended : (v : Verdict) (b : Bool) (c : ClientCopy) → IsNoMore c (on_ended v b c).1
quiet_ended v true c = quiet_late c (Over v) refl refl
quiet_ended v false c = quiet_same c c refl (λ q e. e)

quiet_synced : (level : Stability) (c : ClientCopy) → IsNoMore c (synced level c).1
quiet_synced FileSync c = quiet_late c (Due steps.OpenAgain) refl refl
quiet_synced DataSync c = quiet_same c c refl (λ q e. e)
quiet_synced Unstable c = quiet_same c c refl (λ q e. e)

quiet_offloaded : (end : OffloadEnd) (b : Bool) (c : ClientCopy) → IsNoMore c (on_offloaded end b c).1
quiet_offloaded end false c = quiet_same c c refl (λ q e. e)
quiet_offloaded (ends.Done response) true c = quiet_synced response.committed c
quiet_offloaded (ends.Failed status count) true c = quiet_late c (Over (verdicts.Failed status)) refl refl

quiet_fails : (b : Bool) (v : Verdict) (c : ClientCopy) → IsNoMore c (fails_if b v c).1
quiet_fails true v c = quiet_late c (Over v) refl refl
quiet_fails false v c = quiet_same c c refl (λ q e. e)

quiet_down : (side : Side) (status : Status) (st : Stage) (c : ClientCopy) → IsNoMore c (stage_down side status st c).1
quiet_down side status (Due step) c = quiet_fails (is_side side (side_of step)) (lost_by (is_stable step) status) c
quiet_down side status (Asked step) c = quiet_fails (is_side side (side_of step)) (lost_by (is_stable step) status) c
quiet_down side status Accepted c = quiet_fails (is_side side Dest) (verdicts.Failed status) c
quiet_down side status (Over v) c = quiet_same c c refl (λ q e. e)

down_query : (side : Side) (o : Option Query) (query : Query) → query_down side o ≡ Some query → o ≡ Some query
down_query Source o query e = e
down_query Dest o query e = none_asked query o e

-- with the query answered before, or given up
quiet_behind : (c d e : ClientCopy) → d.stage ≡ c.stage → ((query : Query) → d.query ≡ Some query → c.query ≡ Some query) → IsNoMore d e → IsNoMore c e
quiet_behind c d e stage query n = record {
  asked = λ step is. sym stage ∙ n.asked step is;
  query = λ q is. query q (n.query q is);
  past = λ is. n.past (ap is_past stage ∙ is);
}

after_quiet : (event : Event) (c : ClientCopy) → is_quiet event ≡ true → IsNoMore c (after event c).1
unfolding after
after_quiet (events.Opened side) c quiet = quiet_opened side c.stage c refl
after_quiet events.Sent c quiet = never quiet
after_quiet events.Allowed c quiet = quiet_allowed (asked_step c.stage) c refl
after_quiet (events.Granted known) c quiet = quiet_granted known (asked_step c.stage) c refl
after_quiet (events.Accepted id sent_at) c quiet = quiet_accepted id sent_at (asked_step c.stage) c
after_quiet (events.Told change session) c quiet = quiet_told change session (asked_step c.stage) c
after_quiet (events.Refused why) c quiet = quiet_refused (refused_with why) (asked_step c.stage) c
after_quiet (events.Queried query) c quiet = never quiet
after_quiet (events.Progressed count complete sent_at) c quiet =
    let d : ClientCopy = record c { query = None; asked_at = sent_at } in
    quiet_behind c d _ refl (λ q e. none_asked q c.query e) (quiet_progressed count complete (is_going c.stage) d)
after_quiet events.Cancelled c quiet =
    let d : ClientCopy = record c { query = None } in
    quiet_behind c d _ refl (λ q e. none_asked q c.query e) (quiet_ended verdicts.Cancelled (is_going c.stage) d)
after_quiet (events.QueryRefused why) c quiet =
    let d : ClientCopy = record c { query = None } in
    quiet_behind c d _ refl (λ q e. none_asked q c.query e) (quiet_ended (verdicts.Failed (refused_with why)) (is_going c.stage) d)
after_quiet (events.Offloaded end) c quiet = quiet_offloaded end (is_going c.stage) c
after_quiet (events.Down side status) c quiet =
    let d : ClientCopy = record c { query = query_down side c.query } in
    quiet_behind c d _ refl (λ q e. down_query side c.query q e) (quiet_down side status c.stage d)

fits_less : (side : Side) (purpose : ℕ → Purpose) (j : ℕ) (c d : ClientCopy) → IsNoMore c d → FitsAt side purpose j c → FitsAt side purpose j d
fits_less Source purpose j c d n f = record { first = λ e. f.first (n.asked steps.Notify e); last = λ e. f.last (n.asked steps.Last e) }
fits_less Dest purpose j c d n f = record {
  copy_is = λ e. f.copy_is (n.asked steps.Copy e);
  status = λ e. f.status (n.query _ e);
  past = λ query e. n.past (f.past query (n.query query e));
}

-- ---- in the table

-- a copy there comes of one
after_some : (event : Event) (o : Option ClientCopy) (d : ClientCopy) {X : Type 0} → copy_after event o ≡ Some d → ((c : ClientCopy) → o ≡ Some c → (after event c).1 ≡ d → X) → X
after_some event None d e use_it = absurd cc
after_some event (Some c) d e use_it =
    let same : (after event c).1 ≡ d = cc in
    use_it c refl same

-- one copy is another, and the others are as they were
pub fits_changed : (side : Side) (purpose : ℕ → Purpose) (i : ℕ) (event : Event) (t : Copies) → PurposesFit side purpose t
    → ((c : ClientCopy) → i ≢ 0 → copy_at i t ≡ Some c → FitsAt side purpose i (after event c).1) → PurposesFit side purpose (told_at i event t).1
fits_changed side purpose i event t fit new = record { each = λ j some d there. by (i == j) j refl some d there }
  where
    by : (b : Bool) (j : ℕ) → (i == j) ≡ b → j ≢ 0 → (d : ClientCopy) → copy_at j (told_at i event t).1 ≡ Some d → FitsAt side purpose j d
    by true j e some d there =
        let same : i ≡ j = grind (arith, e) in
        let here : copy_after event (copy_at i t) ≡ Some d = sym (copy_written event i t) ∙ ap (λ (n : ℕ). copy_at n (told_at i event t).1) same ∙ there in
        let some_i : i ≢ 0 = λ zero. some (sym same ∙ zero) in
        subst (λ (n : ℕ). FitsAt side purpose n d) same
        (after_some event (copy_at i t) d here (λ c was is. subst (FitsAt side purpose i) is (new c some_i was)))
    by false j e some d there =
        let other : j ≢ i = grind (arith, e) in
        fit.each j some d (sym (copy_kept i j (copy_after event (copy_at i t)) t other) ∙ there)

pub fits_told : (side : Side) (purpose : ℕ → Purpose) (i : ℕ) (event : Event) (t : Copies) → is_quiet event ≡ true → PurposesFit side purpose t
    → PurposesFit side purpose (told_at i event t).1
fits_told side purpose i event t quiet fit =
    fits_changed side purpose i event t fit (λ c some was. fits_less side purpose i c (after event c).1 (after_quiet event c quiet) (fit.each i some c was))

-- the same copies
fits_copies : (side : Side) (purpose : ℕ → Purpose) (t u : Copies) → u.copies ≡ t.copies → PurposesFit side purpose t → PurposesFit side purpose u
fits_copies side purpose t u same fit = record { each = λ j some c there. fit.each j some c (ap (λ (l : List (Option ClientCopy)). get_or l j None) (sym same) ∙ there) }

held_fits : (side : Side) (purpose : ℕ → Purpose) (i : ℕ) (o : Option OffloadEnd) (said : Said) (t : Copies) → PurposesFit side purpose t → PurposesFit side purpose (told_held i o said t).1
held_fits side purpose i None said t fit = fit
held_fits side purpose i (Some end) said t fit = fits_told side purpose i (events.Offloaded end) t refl fit

pub fits_accepted : (side : Side) (purpose : ℕ → Purpose) (i : ℕ) (id : StateId) (sent_at : ℕ) (t : Copies) → PurposesFit side purpose t
    → PurposesFit side purpose (accepted_at i id sent_at t).1
fits_accepted side purpose i id sent_at t fit =
    let u = (told_at i (events.Accepted id sent_at) t).1 in
    held_fits side purpose i (told_for id u.held) (said_of (events.Accepted id sent_at) (copy_at i t)) (released id u)
    (fits_copies side purpose u (released id u) refl (fits_told side purpose i (events.Accepted id sent_at) t refl fit))

-- a copy that was just begun awaits nothing
pub fits_begun : (side : Side) (purpose : ℕ → Purpose) (i : ℕ) (spec : CopySpec) (secret : List ℕ) (t : Copies) → PurposesFit side purpose t
    → PurposesFit side purpose (with_begun i spec secret t)
fits_begun side purpose i spec secret t fit = record { each = λ j some d there. by (i == j) j refl some d there }
  where
    fresh_fits : (side : Side) (j : ℕ) → FitsAt side purpose j (begun spec secret)
    fresh_fits Source j = record { first = λ e. absurd cc; last = λ e. absurd cc }
    fresh_fits Dest j = record { copy_is = λ e. absurd cc; status = λ e. absurd cc; past = λ query e. absurd cc }

    written : (l : List (Option ClientCopy)) (n : ℕ) (d : ClientCopy) → get_or (set l n (Some (begun spec secret))) n None ≡ Some d → begun spec secret ≡ d
    written [] n d e = absurd cc
    written (x ∷ xs) zero d e = cc
    written (x ∷ xs) (suc n) d e = written xs n d e

    by : (b : Bool) (j : ℕ) → (i == j) ≡ b → j ≢ 0 → (d : ClientCopy) → copy_at j (with_begun i spec secret t) ≡ Some d → FitsAt side purpose j d
    by true j e some d there =
        let same : i ≡ j = grind (arith, e) in
        subst (FitsAt side purpose j) (written t.copies i d (ap (λ (n : ℕ). copy_at n (with_begun i spec secret t)) same ∙ there)) (fresh_fits side j)
    by false j e some d there =
        let other : j ≢ i = grind (arith, e) in
        fit.each j some d (sym (copy_kept i j (Some (begun spec secret)) t other) ∙ there)

-- ---- a CB_COMPOUND

fits_held : (side : Side) (purpose : ℕ → Purpose) (b : Bool) (one : HeldOffload) (t : Copies) → PurposesFit side purpose t → PurposesFit side purpose (held_if b one t).1
fits_held side purpose true one t fit = fits_copies side purpose t _ refl fit
fits_held side purpose false one t fit = fit

fits_offload : (side : Side) (purpose : ℕ → Purpose) (id : StateId) (end : OffloadEnd) (o : Option ℕ) (t : Copies) → PurposesFit side purpose t
    → PurposesFit side purpose (named_outcome (offloaded_to o id end t)).copies
fits_offload side purpose id end None t fit = fits_held side purpose (has_room t.held) (record { id = id; end = end }) t fit
fits_offload side purpose id end (Some i) t fit = fits_told side purpose i (events.Offloaded end) t refl fit

fits_sequence : (side : Side) (purpose : ℕ → Purpose) (first own : Bool) (args : CbSeq) (t : Copies) → PurposesFit side purpose t → PurposesFit side purpose (sequence_by first own args t).copies
fits_sequence side purpose false own args t fit = fit
fits_sequence side purpose true false args t fit = fit
fits_sequence side purpose true true args t fit = fit

fits_by : (side : Side) (purpose : ℕ → Purpose) (first : Bool) (args : CbOffload) (t : Copies) → PurposesFit side purpose t → PurposesFit side purpose (offload_by first args t).copies
fits_by side purpose true args t fit = fit
fits_by side purpose false args t fit = fits_offload side purpose args.id args.end (named_by args.id t) t fit

fits_op : (side : Side) (purpose : ℕ → Purpose) (session : Option (List ℕ)) (first : Bool) (op : CbOp) (t : Copies) → PurposesFit side purpose t
    → PurposesFit side purpose (op_outcome session first op t).copies
fits_op side purpose session first (ops.Sequence args) t fit = fits_sequence side purpose first (is_session args.session session) args t fit
fits_op side purpose session first (ops.Offload args) t fit = fits_by side purpose first args t fit

fits_tail : (side : Side) (purpose : ℕ → Purpose) (tail : Tail) (t : Copies) → PurposesFit side purpose t → PurposesFit side purpose (tail_outcome tail t).copies
fits_tail side purpose tails.Whole t fit = fit
fits_tail side purpose (tails.Unreadable place op at) t fit = fit
fits_tail side purpose (tails.Unsupported place op) t fit = fit
fits_tail side purpose (tails.Illegal place op) t fit = fit

fits_ok : (side : Side) (purpose : ℕ → Purpose) (ok : Bool) (o more : Outcome) → PurposesFit side purpose o.copies → PurposesFit side purpose more.copies
    → PurposesFit side purpose (if_ok ok o more).copies
fits_ok side purpose true o more here behind = behind
fits_ok side purpose false o more here behind = here

fits_walked : (side : Side) (purpose : ℕ → Purpose) (session : Option (List ℕ)) (first : Bool) (list : List CbOp) (tail : Tail) (t : Copies) → PurposesFit side purpose t
    → PurposesFit side purpose (walked session first list tail t).copies
fits_walked side purpose session first [] tail t fit = fits_tail side purpose tail t fit
fits_walked side purpose session first (op ∷ more) tail t fit =
    let o = op_outcome session first op t in
    let here = fits_op side purpose session first op t fit in
    fits_ok side purpose (o.status.number == 0) o (walked session false more tail o.copies) here (fits_walked side purpose session false more tail o.copies here)

fits_counted : (side : Side) (purpose : ℕ → Purpose) (many : Bool) (session : Option (List ℕ)) (c : CbCompound) (t : Copies) → PurposesFit side purpose t
    → PurposesFit side purpose (counted many session c t).copies
fits_counted side purpose true session c t fit = fit
fits_counted side purpose false session c t fit = fits_walked side purpose session true c.ops c.tail t fit

fits_if : (side : Side) (purpose : ℕ → Purpose) (ok : Bool) (session : Option (List ℕ)) (c : CbCompound) (t : Copies) → PurposesFit side purpose t
    → PurposesFit side purpose (evaluated_by ok session c t).copies
fits_if side purpose true session c t fit = fits_counted side purpose (nat_lt MOST_OPERATIONS c.count) session c t fit
fits_if side purpose false session c t fit = fit

pub fits_evaluated : (side : Side) (purpose : ℕ → Purpose) (session : Option (List ℕ)) (c : CbCompound) (t : Copies) → PurposesFit side purpose t
    → PurposesFit side purpose (evaluated session c t).copies
fits_evaluated side purpose session c t fit = fits_if side purpose (c.minor == MINOR_VERSION) session c t fit

-- ---- a call of a copy goes out, and then it awaits the answer

-- what the slot is for, once the call of a step is awaited
pub record WantsSource (step : Step) (j : ℕ) (purpose : ℕ → Purpose) : Type 0 where
  pub first : step ≡ steps.Notify → purpose j ≡ ForFirst j
  pub last : step ≡ steps.Last → purpose j ≡ ForLast j

abbrev pub Wants : Side → Step → ℕ → (ℕ → Purpose) → Type 0
Wants Source step j purpose = WantsSource step j purpose
Wants Dest step j purpose = step ≡ steps.Copy → purpose j ≡ ForCopy j

abbrev pub is_plain : Step → Bool
is_plain steps.Notify = false
is_plain steps.Last = false
is_plain steps.Copy = false
is_plain _ = true

pub wants_plain : (side : Side) (step : Step) (j : ℕ) (purpose : ℕ → Purpose) → is_plain step ≡ true → Wants side step j purpose
wants_plain Source step j purpose plain = record {
  first = λ e. never (ap is_plain (sym e) ∙ plain);
  last = λ e. never (ap is_plain (sym e) ∙ plain);
}
wants_plain Dest step j purpose plain = λ e. never (ap is_plain (sym e) ∙ plain)

pub wants_first : (side : Side) (j : ℕ) (purpose : ℕ → Purpose) → (side ≡ Source → purpose j ≡ ForFirst j) → Wants side steps.Notify j purpose
wants_first Source j purpose f = record { first = λ e. f refl; last = λ e. absurd cc }
wants_first Dest j purpose f = λ e. absurd cc

pub wants_last : (side : Side) (j : ℕ) (purpose : ℕ → Purpose) → (side ≡ Source → purpose j ≡ ForLast j) → Wants side steps.Last j purpose
wants_last Source j purpose f = record { first = λ e. absurd cc; last = λ e. f refl }
wants_last Dest j purpose f = λ e. absurd cc

pub wants_copy : (side : Side) (j : ℕ) (purpose : ℕ → Purpose) → (side ≡ Dest → purpose j ≡ ForCopy j) → Wants side steps.Copy j purpose
wants_copy Source j purpose f = record { first = λ e. absurd cc; last = λ e. absurd cc }
wants_copy Dest j purpose f = λ e. f refl

due_is : (st : Stage) (step : Step) → due st ≡ Some step → st ≡ Due step
due_is (Due s) step e = cc
due_is (Asked s) step e = absurd cc
due_is Accepted step e = absurd cc
due_is (Over v) step e = absurd cc

some_copy : (x y : ClientCopy) (o : Option ClientCopy) → o ≡ Some x → o ≡ Some y → x ≡ y
some_copy x y o a b =
    let both : Some x ≡ Some y = sym a ∙ b in
    cc

asked_is : (step x : Step) → Asked step ≡ Asked x → step ≡ x
asked_is step x e = cc

-- the copy then awaits the answer to its step
sent_stage : (c : ClientCopy) (step : Step) → c.stage ≡ Due step → (after events.Sent c).1 ≡ record c { stage = Asked step }
unfolding after
sent_stage c step due_now = ap (λ (st : Stage). (on_sent st c).1) due_now

sent_fits : (side : Side) (purpose : ℕ → Purpose) (j : ℕ) (c : ClientCopy) (step : Step) → c.stage ≡ Due step → Wants side step j purpose → FitsAt side purpose j c
    → FitsAt side purpose j (record c { stage = Asked step })
sent_fits Source purpose j c step due_now w f = record { first = λ e. w.first (asked_is step steps.Notify e); last = λ e. w.last (asked_is step steps.Last e) }
sent_fits Dest purpose j c step due_now w f = record {
  copy_is = λ e. w (asked_is step steps.Copy e);
  status = λ e. f.status e;
  past = λ query e. ap is_past (sym due_now) ∙ f.past query e;
}

pub fits_sent : (side : Side) (purpose : ℕ → Purpose) (j : ℕ) (c : ClientCopy) (step : Step) (t : Copies) → copy_at j t ≡ Some c → due c.stage ≡ Some step
    → Wants side step j purpose → PurposesFit side purpose t → PurposesFit side purpose (told_at j events.Sent t).1
fits_sent side purpose j c step t at is w fit =
    fits_changed side purpose j events.Sent t fit
    (λ d some was.
    let same : c ≡ d = some_copy c d (copy_at j t) at was in
    let stage = due_is c.stage step is in
    subst (λ (x : ClientCopy). FitsAt side purpose j (after events.Sent x).1) same
    (subst (FitsAt side purpose j) (sym (sent_stage c step stage)) (sent_fits side purpose j c step stage w (fit.each j some c at))))

-- the same where the destination is asked of it
abbrev pub WantsQuery : Side → Query → ℕ → (ℕ → Purpose) → Type 0
WantsQuery Source query j purpose = Unit {0}
WantsQuery Dest query j purpose = query ≡ queries.Status → purpose j ≡ ForStatus j

query_is : (x y : Query) → Some x ≡ Some y → x ≡ y
query_is x y e = cc

queried_fits : (side : Side) (purpose : ℕ → Purpose) (j : ℕ) (query : Query) (c : ClientCopy) → WantsQuery side query j purpose → c.stage ≡ Accepted
    → FitsAt side purpose j c → FitsAt side purpose j (record c { query = Some query })
queried_fits Source purpose j query c w going f = record { first = λ e. f.first e; last = λ e. f.last e }
queried_fits Dest purpose j query c w going f = record {
  copy_is = λ e. f.copy_is e;
  status = λ e. w (query_is query queries.Status e);
  past = λ q e. ap is_past going;
}

queried_stage : (c : ClientCopy) (query : Query) → c.stage ≡ Accepted → (after (events.Queried query) c).1 ≡ record c { query = Some query }
unfolding after
queried_stage c query going = ap (λ (st : Stage). (on_queried query (is_going st) c).1) going

ready_stage : (o : Option Query) (st : Stage) → asking_by o st ≡ asking.Ready → (o ≡ None) × (st ≡ Accepted)
ready_stage None Accepted e = (refl, refl)
ready_stage None (Due step) e = absurd cc
ready_stage None (Asked step) e = absurd cc
ready_stage None (Over v) e = absurd cc
ready_stage (Some query) st e = absurd cc

pub fits_queried : (side : Side) (purpose : ℕ → Purpose) (j : ℕ) (query : Query) (c : ClientCopy) (t : Copies) → copy_at j t ≡ Some c → asking_of c ≡ asking.Ready
    → WantsQuery side query j purpose → PurposesFit side purpose t → PurposesFit side purpose (told_at j (events.Queried query) t).1
fits_queried side purpose j query c t at ready w fit =
    fits_changed side purpose j (events.Queried query) t fit
    (λ d some was.
    let same : c ≡ d = some_copy c d (copy_at j t) at was in
    let going = (ready_stage c.query c.stage ready).1 in
    subst (λ (x : ClientCopy). FitsAt side purpose j (after (events.Queried query) x).1) same
    (subst (FitsAt side purpose j) (sym (queried_stage c query going)) (queried_fits side purpose j query c w going (fit.each j some c at))))

-- ---- where a call may go out, the copy awaits nothing in that slot

-- whatever the slot is for then
abbrev pub Free : Side → ℕ → Copies → Type 0
Free side place t = (p q : ℕ → Purpose) → PurposesFit side p t → (place ≡ 0 → ⊥) → (c : ClientCopy) → copy_at place t ≡ Some c → FitsAt side q place c

pub free_none : (side : Side) (t : Copies) → Free side 0 t
free_none side t = λ p q fit some c at. absurd (some refl)

due_asked : (st : Stage) (step x : Step) → due st ≡ Some step → st ≡ Asked x → ⊥
due_asked st step x is e =
    let both : Due step ≡ Asked x = sym (due_is st step is) ∙ e in
    absurd cc

dest_early : (step : Step) → side_of step ≡ Dest → is_stable step ≡ false
dest_early steps.OpenDest e = refl
dest_early steps.AllowDest e = refl
dest_early steps.Copy e = refl
dest_early steps.OpenSource e = absurd cc
dest_early steps.AllowSource e = absurd cc
dest_early steps.Notify e = absurd cc
dest_early steps.OpenAgain e = absurd cc
dest_early steps.Last e = absurd cc

due_fits : (there : Side) (p q : ℕ → Purpose) (j : ℕ) (step : Step) (c : ClientCopy) → due c.stage ≡ Some step → side_of step ≡ there → FitsAt there p j c → FitsAt there q j c
due_fits Source p q j step c is at_there f = record {
  first = λ e. absurd (due_asked c.stage step steps.Notify is e);
  last = λ e. absurd (due_asked c.stage step steps.Last is e);
}
due_fits Dest p q j step c is at_there f =
    let early : (query : Query) → c.query ≡ Some query → ⊥ = λ query e.
    never (sym (ap is_past (due_is c.stage step is) ∙ dest_early step at_there) ∙ f.past query e) in
    record {
      copy_is = λ e. absurd (due_asked c.stage step steps.Copy is e);
      status = λ e. absurd (early queries.Status e);
      past = λ query e. absurd (early query e);
    }

pub free_due : (there : Side) (j : ℕ) (step : Step) (c : ClientCopy) (t : Copies) → copy_at j t ≡ Some c → due c.stage ≡ Some step → side_of step ≡ there → Free there j t
free_due there j step c t at is at_there = λ p q fit some d was.
    let same : c ≡ d = some_copy c d (copy_at j t) at was in
    subst (FitsAt there q j) same (due_fits there p q j step c is at_there (fit.each j some c at))

ready_fits : (q : ℕ → Purpose) (j : ℕ) (c : ClientCopy) → asking_of c ≡ asking.Ready → FitsAt Dest q j c
ready_fits q j c ready =
    let both = ready_stage c.query c.stage ready in
    let idle : (query : Query) → c.query ≡ Some query → ⊥ = λ query e.
    let gone : None ≡ Some query = sym both.0 ∙ e in
    absurd cc in
    record {
      copy_is = λ e. let gone : Accepted ≡ Asked steps.Copy = sym both.1 ∙ e in absurd cc;
      status = λ e. absurd (idle queries.Status e);
      past = λ query e. absurd (idle query e);
    }

pub free_ready : (j : ℕ) (c : ClientCopy) (t : Copies) → copy_at j t ≡ Some c → asking_of c ≡ asking.Ready → Free Dest j t
free_ready j c t at ready = λ p q fit some d was.
    let same : c ≡ d = some_copy c d (copy_at j t) at was in
    subst (FitsAt Dest q j) same (ready_fits q j c ready)

-- the slot of one place is for something else
other_fits : (side : Side) (p q : ℕ → Purpose) (j : ℕ) (c : ClientCopy) → q j ≡ p j → FitsAt side p j c → FitsAt side q j c
other_fits Source p q j c same f = record { first = λ e. same ∙ f.first e; last = λ e. same ∙ f.last e }
other_fits Dest p q j c same f = record { copy_is = λ e. same ∙ f.copy_is e; status = λ e. same ∙ f.status e; past = f.past }

pub fits_freed : (side : Side) (place : ℕ) (p q : ℕ → Purpose) (t : Copies) → Free side place t → ((j : ℕ) → j ≢ place → q j ≡ p j) → PurposesFit side p t → PurposesFit side q t
fits_freed side place p q t free others fit = record { each = λ j some c at. by (j == place) j refl some c at }
  where
    by : (b : Bool) (j : ℕ) → (j == place) ≡ b → (j ≡ 0 → ⊥) → (c : ClientCopy) → copy_at j t ≡ Some c → FitsAt side q j c
    by true j e some c at =
        let same : place ≡ j = grind (arith, e) in
        let some_place : place ≡ 0 → ⊥ = λ zero. some (sym same ∙ zero) in
        subst (λ (n : ℕ). FitsAt side q n c) same (free p q fit some_place c (ap (λ (n : ℕ). copy_at n t) same ∙ at))
    by false j e some c at =
        let other : j ≢ place = grind (arith, e) in
        other_fits side p q j c (others j other) (fit.each j some c at)

-- ---- the answers to a copy's calls: none of them is that a call goes out

abbrev pub IsQuiet : Deed → Type 0
IsQuiet (deeds.Copy event) = is_quiet event ≡ true
IsQuiet _ = Unit {0}

quiet_refuse : (o : Option Query) (why : Refusal) → IsQuiet (refuse_call o why)
quiet_refuse None why = refl
quiet_refuse (Some query) why = refl

quiet_denied : (creates : Bool) (o : Option Query) → IsQuiet (denied_by creates o)
quiet_denied true o = quiet_refuse o _
quiet_denied false o = tt

quiet_grant : (g : Option Granted) (s : Option Session) (f : Option OpenFile) → IsQuiet (granted_by g s f)
quiet_grant (Some g) (Some s) (Some f) = refl
quiet_grant (Some g) (Some s) None = refl
quiet_grant (Some g) None f = refl
quiet_grant None s f = refl

quiet_name : (o : Option StateId) → IsQuiet (accepted_by o)
quiet_name None = refl
quiet_name (Some id) = tt

quiet_last : (change : Option ℕ) (s : Option Session) → IsQuiet (last_told change s)
quiet_last (Some change) (Some s) = refl
quiet_last (Some change) None = refl
quiet_last None s = refl

quiet_open : (side : Side) (c : ClientCopy) (o : Option Opened) → IsQuiet (copy_opened side c o)
quiet_open side c None = refl
quiet_open side c (Some opened) = tt

quiet_step : (step : Step) (side : Side) (c : ClientCopy) (rs : List Res) (d : Desk) → IsQuiet (step_told step side c rs d)
quiet_step steps.OpenSource side c rs d = quiet_open side c _
quiet_step steps.OpenDest side c rs d = quiet_open side c _
quiet_step steps.OpenAgain side c rs d = quiet_open side c _
quiet_step steps.Notify side c rs d = quiet_grant _ _ _
quiet_step steps.Copy side c rs d = quiet_name _
quiet_step steps.Last side c rs d = quiet_last _ _
quiet_step steps.AllowSource side c rs d = tt
quiet_step steps.AllowDest side c rs d = tt

quiet_stage : (st : Stage) (side : Side) (c : ClientCopy) (rs : List Res) (d : Desk) → IsQuiet (stage_told st side c rs d)
quiet_stage (Asked step) side c rs d = quiet_step step side c rs d
quiet_stage (Due step) side c rs d = tt
quiet_stage Accepted side c rs d = tt
quiet_stage (Over v) side c rs d = tt

quiet_progress : (p : Option OffloadProgress) (sent_at : ℕ) → IsQuiet (progressed p sent_at)
quiet_progress None sent_at = refl
quiet_progress (Some p) sent_at = refl

quiet_query : (query : Query) (rs : List Res) (sent_at : ℕ) → IsQuiet (query_told query rs sent_at)
quiet_query queries.Status rs sent_at = quiet_progress _ sent_at
quiet_query queries.Cancel rs sent_at = refl

quiet_call : (o : Option Query) (side : Side) (c : ClientCopy) (rs : List Res) (sent_at : ℕ) (d : Desk) → IsQuiet (copy_told o side c rs sent_at d)
quiet_call None side c rs sent_at d = quiet_stage c.stage side c rs d
quiet_call (Some query) side c rs sent_at d = quiet_query query rs sent_at

quiet_answered : (lost ok : Bool) (side : Side) (c : ClientCopy) (reply : Reply) (sent_at : ℕ) (d : Desk) → IsQuiet (copy_answered lost ok side c reply sent_at d)
quiet_answered true ok side c reply sent_at d = tt
quiet_answered false false side c reply sent_at d = quiet_refuse (query_of side c) _
quiet_answered false true side c reply sent_at d = quiet_call (query_of side c) side c reply.results sent_at d

quiet_by : (told : Told) (side : Side) (c : ClientCopy) (sent_at : ℕ) (d : Desk) → IsQuiet (copy_by told side c sent_at d)
quiet_by (tells.Answer reply) side c sent_at d = quiet_answered _ _ side c reply sent_at d
quiet_by (tells.Child child) side c sent_at d = refl
quiet_by (tells.Refused major) side c sent_at d = quiet_refuse (query_of side c) _
quiet_by tells.Misspelt side c sent_at d = quiet_refuse (query_of side c) _
quiet_by (tells.Failed stat) side c sent_at d = quiet_refuse (query_of side c) _
quiet_by (tells.Denied why) side c sent_at d = quiet_denied _ (query_of side c)
quiet_by tells.Unmatched side c sent_at d = tt
quiet_by tells.Rooted side c sent_at d = tt
quiet_by tells.Stepped side c sent_at d = tt
quiet_by (tells.Stopped status) side c sent_at d = tt

pub quiet_copy : (told : Told) (side : Side) (o : Option ClientCopy) (sent_at : ℕ) (d : Desk) → IsQuiet (copy_deed told side o sent_at d)
quiet_copy told side None sent_at d = tt
quiet_copy told side (Some c) sent_at d = quiet_by told side c sent_at d

pub quiet_deed : (zero setting_up : Bool) (told : Told) (side : Side) (place sent_at : ℕ) (a : Acting) → IsQuiet (deed_at zero setting_up told side place sent_at a)
quiet_deed true setting_up told side place sent_at a = quiet_none _ (first_none setting_up told side a)
  where
    quiet_none : (deed : Deed) → IsNoCopys deed → IsQuiet deed
    quiet_none deeds.Rests none = tt
    quiet_none deeds.Goes none = tt
    quiet_none (deeds.Falls status) none = tt
    quiet_none (deeds.Opens opened_file) none = tt
    quiet_none (deeds.Queue event) none = tt
    quiet_none (deeds.Copy event) none = absurd none
    quiet_none (deeds.Starts id) none = tt
quiet_deed false setting_up told side place sent_at a = quiet_copy told side (copy_in place a.desk) sent_at a.desk
