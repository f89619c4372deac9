-- What is told of a copy says where it is: one event, and then any run of them.
use Rattle.std.proofs.Common.{◌≡◌, ◌≤◌, ℕ, Bool, true, false, List, [], ◌∷◌, ◌++◌, Option, Some, None, refl, sym, ap, ◌∙◌, cond, arith}
use Rattle.std.specs.Prelude.{option_and_then, count_by}
use Rattle.std.proofs.lemmas.List.Sums.{sum_by-cons}
use Rattle.copy_ops.specs.declared.callback.OffloadEnd.{OffloadEnd}
use Rattle.copy_ops.specs.declared.callback.OffloadEnd.TheVariants as ends
use Rattle.nfs_base.specs.declared.copy_spec.CopySpec.{CopySpec}
use Rattle.nfs_base.specs.declared.side.Side.{Side}
use Rattle.nfs_base.specs.declared.side.Side.TheVariants.{Source, Dest}
use Rattle.nfs_base.specs.declared.state_id.StateId.{StateId}
use Rattle.nfs_base.specs.declared.status.Status.{Status}
use Rattle.nfs_base.specs.declared.written.Stability.{Stability}
use Rattle.nfs_base.specs.declared.written.Stability.TheVariants.{Unstable, DataSync, FileSync}
use Rattle.client_copies.specs.declared.copy.ClientCopy.{ClientCopy}
use Rattle.client_copies.specs.declared.copy.First.{First}
use Rattle.client_copies.specs.declared.copy.Query.{Query}
use Rattle.client_copies.specs.declared.copy.Session.{Session}
use Rattle.client_copies.specs.declared.copy.Stage.{Stage}
use Rattle.client_copies.specs.declared.copy.Stage.TheVariants.{Due, Asked, Accepted, Over}
use Rattle.client_copies.specs.declared.copy.Step.{Step}
use Rattle.client_copies.specs.declared.copy.Step.TheVariants as steps
use Rattle.client_copies.specs.declared.copy.Verdict.TheVariants as verdicts
use Rattle.client_copies.specs.declared.event.Event.{Event}
use Rattle.client_copies.specs.declared.event.Event.TheVariants as events
use Rattle.client_copies.specs.declared.told.Said.{Said}
use Rattle.client_copies.specs.declared.told.Word.{Word}
use Rattle.client_copies.specs.declared.told.Word.TheVariants as words
use Rattle.client_copies.specs.Copies.{begun, is_stable, side_of}
use Rattle.client_copies.specs.Refusals.{refused_with}
use Rattle.client_copies.specs.Steps.{after, asked_step, is_going, is_side, lost_by, told_by, stood_still, opened_to, moves, ends_with, fails_if, query_down, completed, progressed, synced, offloaded, on_opened, on_sent, on_allowed, on_granted, on_accepted, on_told, on_refused, on_queried, on_progressed, on_ended, on_offloaded, stage_down}
use Rattle.client_copies.specs.Words.{Phase, Silent, Going, Safe, Done, behind, behind_all, phase_by, phase_of, is_final, is_stable_word, ran, told, told_by_run}

-- the words of an outcome lead from a phase to that of the copy afterwards
abbrev Leads : Phase → Said × ClientCopy → Type 0
Leads p o = behind_all (told o.0) p ≡ Some (phase_of o.1.stage)

-- the copy c at a stage
abbrev at : Stage → ClientCopy → ClientCopy
at stage c = record c { stage = stage }

opened_leads : (side : Side) (s : Step) (c : ClientCopy) → phase_of c.stage ≡ phase_by (is_stable s) → Leads (phase_by (is_stable s)) (moves (opened_to side s) c)
opened_leads Source steps.OpenSource c e = refl
opened_leads Source steps.OpenAgain c e = refl
opened_leads Dest steps.OpenDest c e = refl
opened_leads _ _ c e = ap Some (sym e)

on_opened_leads : (side : Side) (st : Stage) (c : ClientCopy) → Leads (phase_of st) (on_opened side st (at st c))
on_opened_leads side (Due s) c = opened_leads side s (at (Due s) c) refl
on_opened_leads side (Asked s) c = opened_leads side s (at (Asked s) c) refl
on_opened_leads side Accepted c = refl
on_opened_leads side (Over v) c = refl

on_sent_leads : (st : Stage) (c : ClientCopy) → Leads (phase_of st) (on_sent st (at st c))
on_sent_leads (Due s) c = refl
on_sent_leads (Asked s) c = refl
on_sent_leads Accepted c = refl
on_sent_leads (Over v) c = refl

on_allowed_leads : (st : Stage) (c : ClientCopy) → Leads (phase_of st) (on_allowed (asked_step st) (at st c))
on_allowed_leads (Due s) c = refl
on_allowed_leads (Asked steps.AllowSource) c = refl
on_allowed_leads (Asked steps.AllowDest) c = refl
on_allowed_leads (Asked _) c = refl
on_allowed_leads Accepted c = refl
on_allowed_leads (Over v) c = refl

on_granted_leads : (first : First) (st : Stage) (c : ClientCopy) → Leads (phase_of st) (on_granted first (asked_step st) (at st c))
on_granted_leads first (Due s) c = refl
on_granted_leads first (Asked steps.Notify) c = refl
on_granted_leads first (Asked _) c = refl
on_granted_leads first Accepted c = refl
on_granted_leads first (Over v) c = refl

on_accepted_leads : (id : StateId) (sent_at : ℕ) (st : Stage) (c : ClientCopy) → Leads (phase_of st) (on_accepted id sent_at (asked_step st) (at st c))
on_accepted_leads id sent_at (Due s) c = refl
on_accepted_leads id sent_at (Asked steps.Copy) c = refl
on_accepted_leads id sent_at (Asked _) c = refl
on_accepted_leads id sent_at Accepted c = refl
on_accepted_leads id sent_at (Over v) c = refl

told_leads : (b : Bool) (c : ClientCopy) → Leads Safe (ends_with (told_by b) c)
told_leads true c = refl
told_leads false c = refl

on_told_leads : (change : ℕ) (session : Session) (st : Stage) (c : ClientCopy) → Leads (phase_of st) (on_told change session (asked_step st) (at st c))
on_told_leads change session (Due s) c = refl
on_told_leads change session (Asked steps.Last) c = told_leads (stood_still change session c.first) (at (Asked steps.Last) c)
on_told_leads change session (Asked _) c = refl
on_told_leads change session Accepted c = refl
on_told_leads change session (Over v) c = refl

lost_leads : (stable : Bool) (status : Status) (c : ClientCopy) → Leads (phase_by stable) (ends_with (lost_by stable status) c)
lost_leads true status c = refl
lost_leads false status c = refl

on_refused_leads : (status : Status) (st : Stage) (c : ClientCopy) → Leads (phase_of st) (on_refused status (asked_step st) (at st c))
on_refused_leads status (Due s) c = refl
on_refused_leads status (Asked s) c = lost_leads (is_stable s) status (at (Asked s) c)
on_refused_leads status Accepted c = refl
on_refused_leads status (Over v) c = refl

on_queried_leads : (query : Query) (st : Stage) (c : ClientCopy) → Leads (phase_of st) (on_queried query (is_going st) (at st c))
on_queried_leads query (Due s) c = refl
on_queried_leads query (Asked s) c = refl
on_queried_leads query Accepted c = refl
on_queried_leads query (Over v) c = refl

completed_leads : (count : ℕ) (ok : Bool) (status : Status) (c : ClientCopy) → Leads Going (completed count ok status c)
completed_leads count true status c = refl
completed_leads count false status c = refl

progressed_leads : (count : ℕ) (complete : Option Status) (c : ClientCopy) → phase_of c.stage ≡ Going → Leads Going (progressed count complete c)
progressed_leads count None c e = ap Some (sym e)
progressed_leads count (Some status) c e = completed_leads count _ status c

on_progressed_leads : (count : ℕ) (complete : Option Status) (st : Stage) (c : ClientCopy)
    → Leads (phase_of st) (on_progressed count complete (is_going st) (at st c))
on_progressed_leads count complete (Due s) c = refl
on_progressed_leads count complete (Asked s) c = refl
on_progressed_leads count complete Accepted c = progressed_leads count complete (at Accepted c) refl
on_progressed_leads count complete (Over v) c = refl

-- a copy that goes on may fail, or be cancelled
failed_leads : (why : Status) (st : Stage) (c : ClientCopy) → Leads (phase_of st) (on_ended (verdicts.Failed why) (is_going st) (at st c))
failed_leads why (Due s) c = refl
failed_leads why (Asked s) c = refl
failed_leads why Accepted c = refl
failed_leads why (Over v) c = refl

cancelled_leads : (st : Stage) (c : ClientCopy) → Leads (phase_of st) (on_ended verdicts.Cancelled (is_going st) (at st c))
cancelled_leads (Due s) c = refl
cancelled_leads (Asked s) c = refl
cancelled_leads Accepted c = refl
cancelled_leads (Over v) c = refl

synced_leads : (level : Stability) (c : ClientCopy) → phase_of c.stage ≡ Going → Leads Going (synced level c)
synced_leads FileSync c e = refl
synced_leads DataSync c e = ap Some (sym e)
synced_leads Unstable c e = ap Some (sym e)

offloaded_leads : (end : OffloadEnd) (c : ClientCopy) → phase_of c.stage ≡ Going → Leads Going (offloaded end c)
offloaded_leads (ends.Done response) c e = synced_leads response.committed c e
offloaded_leads (ends.Failed status count) c e = refl

on_offloaded_leads : (end : OffloadEnd) (st : Stage) (c : ClientCopy) → Leads (phase_of st) (on_offloaded end (is_going st) (at st c))
on_offloaded_leads end (Due s) c = refl
on_offloaded_leads end (Asked s) c = refl
on_offloaded_leads end Accepted c = offloaded_leads end (at Accepted c) refl
on_offloaded_leads end (Over v) c = refl

step_down_leads : (here stable : Bool) (status : Status) (c : ClientCopy) → phase_of c.stage ≡ phase_by stable → Leads (phase_by stable) (fails_if here (lost_by stable status) c)
step_down_leads true stable status c e = lost_leads stable status c
step_down_leads false stable status c e = ap Some (sym e)

going_down_leads : (here : Bool) (status : Status) (c : ClientCopy) → phase_of c.stage ≡ Going → Leads Going (fails_if here (verdicts.Failed status) c)
going_down_leads true status c e = refl
going_down_leads false status c e = ap Some (sym e)

stage_down_leads : (side : Side) (status : Status) (st : Stage) (c : ClientCopy) → Leads (phase_of st) (stage_down side status st (at st c))
stage_down_leads side status (Due s) c = step_down_leads (is_side side (side_of s)) (is_stable s) status (at (Due s) c) refl
stage_down_leads side status (Asked s) c = step_down_leads (is_side side (side_of s)) (is_stable s) status (at (Asked s) c) refl
stage_down_leads side status Accepted c = going_down_leads (is_side side Dest) status (at Accepted c) refl
stage_down_leads side status (Over v) c = refl

pub after_leads : (event : Event) (c : ClientCopy) → behind_all (told (after event c).0) (phase_of c.stage) ≡ Some (phase_of (after event c).1.stage)
unfolding after
after_leads (events.Opened side) c = on_opened_leads side c.stage c
after_leads events.Sent c = on_sent_leads c.stage c
after_leads events.Allowed c = on_allowed_leads c.stage c
after_leads (events.Granted first) c = on_granted_leads first c.stage c
after_leads (events.Accepted id sent_at) c = on_accepted_leads id sent_at c.stage c
after_leads (events.Told change session) c = on_told_leads change session c.stage c
after_leads (events.Refused why) c = on_refused_leads (refused_with why) c.stage c
after_leads (events.Queried query) c = on_queried_leads query c.stage c
after_leads (events.Progressed count complete sent_at) c = on_progressed_leads count complete c.stage (record c { query = None; asked_at = sent_at })
after_leads events.Cancelled c = cancelled_leads c.stage (record c { query = None })
after_leads (events.QueryRefused why) c = failed_leads (refused_with why) c.stage (record c { query = None })
after_leads (events.Offloaded end) c = on_offloaded_leads end c.stage c
after_leads (events.Down side status) c = stage_down_leads side status c.stage (record c { query = query_down side c.query })

-- ---- a run

chained : (xs ys : List Word) (o : Option Phase) → ((p : Phase) → behind_all (xs ++ ys) p ≡ option_and_then (behind_all ys) (behind_all xs p))
    → option_and_then (behind_all (xs ++ ys)) o ≡ option_and_then (behind_all ys) (option_and_then (behind_all xs) o)
chained xs ys None each = refl
chained xs ys (Some p) each = each p

pub behind_all_append : (xs ys : List Word) (p : Phase) → behind_all (xs ++ ys) p ≡ option_and_then (behind_all ys) (behind_all xs p)
behind_all_append [] ys p = refl
behind_all_append (x ∷ xs) ys p = chained xs ys (behind p x) (behind_all_append xs ys)

pub run_leads : (es : List Event) (c : ClientCopy) → behind_all (told_by_run es c) (phase_of c.stage) ≡ Some (phase_of (ran es c).stage)
run_leads [] c = refl
run_leads (e ∷ es) c =
    behind_all_append (told (after e c).0) (told_by_run es (after e c).1) (phase_of c.stage)
    ∙ ap (option_and_then (behind_all (told_by_run es (after e c).1))) (after_leads e c)
    ∙ run_leads es (after e c).1

-- ---- stable at most once

-- how often stable may still be told
abbrev left : Phase → ℕ
left Silent = 1
left Going = 1
left Safe = 0
left Done = 0

-- what is told behind these words
abbrev IsCounted : List Word → Type 0
IsCounted ws = (p q : Phase) → behind_all ws p ≡ Some q → count_by is_stable_word ws ≤ left p

stable_more : (ws : List Word) → count_by is_stable_word ws ≤ 0 → count_by is_stable_word (words.Stable ∷ ws) ≤ 1
stable_more ws h = rw (sum_by-cons (λ w. cond (is_stable_word w) 1 0) words.Stable ws) (omega (arith, h))

counted_on : (w : Word) (ws : List Word) → IsCounted ws → IsCounted (w ∷ ws)
counted_on words.Started ws more Silent q e = let h = more Going q e in omega arith
counted_on (words.Failed status) ws more Silent q e = let h = more Done q e in omega arith
counted_on (words.Copied count) ws more Going q e = let h = more Going q e in omega arith
counted_on words.Stable ws more Going q e = stable_more ws (more Safe q e)
counted_on (words.Failed status) ws more Going q e = let h = more Done q e in omega arith
counted_on words.Cancelled ws more Going q e = let h = more Done q e in omega arith
counted_on words.Exact ws more Safe q e = let h = more Done q e in omega arith
counted_on words.Unsure ws more Safe q e = let h = more Done q e in omega arith
counted_on _ ws more _ q e = absurd cc

counted : (ws : List Word) → IsCounted ws
counted [] p q e = omega arith
counted (w ∷ ws) p q e = counted_on w ws (counted ws) p q e

pub stable_once : (es : List Event) (spec : CopySpec) (secret : List ℕ) → count_by is_stable_word (told_by_run es (begun spec secret)) ≤ 1
stable_once es spec secret = counted (told_by_run es (begun spec secret)) Silent _ (run_leads es (begun spec secret))

-- ---- nothing is told behind a final word

done_is_silent : (ws : List Word) (q : Phase) → behind_all ws Done ≡ Some q → ws ≡ []
done_is_silent [] q e = refl
done_is_silent (words.Started ∷ ws) q e = absurd cc
done_is_silent (_ ∷ ws) q e = absurd cc

final_is_done : (w : Word) (ws : List Word) (p q : Phase) → is_final w ≡ true → behind_all (w ∷ ws) p ≡ Some q → ws ≡ []
final_is_done (words.Failed status) ws Silent q f e = done_is_silent ws q e
final_is_done (words.Failed status) ws Going q f e = done_is_silent ws q e
final_is_done words.Cancelled ws Going q f e = done_is_silent ws q e
final_is_done words.Exact ws Safe q f e = done_is_silent ws q e
final_is_done words.Unsure ws Safe q f e = done_is_silent ws q e
final_is_done _ ws _ q f e = absurd cc

behind_final : (w : Word) (ws : List Word) (o : Option Phase) (q : Phase) → is_final w ≡ true → option_and_then (behind_all (w ∷ ws)) o ≡ Some q → ws ≡ []
behind_final w ws None q f e = absurd cc
behind_final w ws (Some p) q f e = final_is_done w ws p q f e

pub final_is_last : (es : List Event) (c : ClientCopy) (before : List Word) (w : Word) (more : List Word)
    → is_final w ≡ true → told_by_run es c ≡ before ++ w ∷ more → more ≡ []
final_is_last es c before w more f e =
    behind_final w more (behind_all before (phase_of c.stage)) (phase_of (ran es c).stage) f
    (sym (behind_all_append before (w ∷ more) (phase_of c.stage)) ∙ ap (λ ws. behind_all ws (phase_of c.stage)) (sym e) ∙ run_leads es c)
