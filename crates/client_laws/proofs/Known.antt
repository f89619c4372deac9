-- What is known of a copy, event by event: its first change attribute and its name stay, and each comes by one event alone.
use Rattle.std.proofs.Common.{◌≡◌, ◌∙◌, ℕ, Bool, true, false, List, [], ◌∷◌, Option, Some, None, refl, sym, subst, inl, inr, ◌⊎◌}
use Rattle.std.specs.Prelude.{◌==◌, option_map}
use Rattle.std.specs.List.{AllByRecursion}
use Rattle.client_copies.specs.Copies.{is_stable, side_of}
use Rattle.client_copies.specs.Refusals.{refused_with}
use Rattle.client_copies.specs.Steps.{after, asked_step, completed, fails_if, is_going, is_side, lost_by, moves, on_accepted, on_allowed, on_ended, on_granted, on_offloaded, on_opened, on_progressed, on_queried, on_refused, on_sent, on_told, opened_to, query_down, stage_down, synced}
use Rattle.client_copies.specs.Words.{ran}
use Rattle.client_copies.specs.declared.copy.ClientCopy.{ClientCopy}
use Rattle.client_copies.specs.declared.copy.First.{First}
use Rattle.client_copies.specs.declared.copy.Query.{Query}
use Rattle.client_copies.specs.declared.copy.Session.{Session}
use Rattle.client_copies.specs.declared.copy.Stage.{Stage}
use Rattle.client_copies.specs.declared.copy.Stage.TheVariants.{Due, Asked, Accepted, Over}
use Rattle.client_copies.specs.declared.copy.Step.{Step}
use Rattle.client_copies.specs.declared.copy.Step.TheVariants as steps
use Rattle.client_copies.specs.declared.copy.Verdict.{Verdict}
use Rattle.client_copies.specs.declared.copy.Verdict.TheVariants as verdicts
use Rattle.client_copies.specs.declared.event.Event.{Event}
use Rattle.client_copies.specs.declared.event.Event.TheVariants as events
use Rattle.client_copies.specs.declared.told.Said.{Said}
use Rattle.copy_ops.specs.declared.callback.OffloadEnd.{OffloadEnd}
use Rattle.copy_ops.specs.declared.callback.OffloadEnd.TheVariants as ends
use Rattle.nfs_base.specs.declared.side.Side.{Side}
use Rattle.nfs_base.specs.declared.side.Side.TheVariants.{Dest}
use Rattle.nfs_base.specs.declared.state_id.StateId.{StateId}
use Rattle.nfs_base.specs.declared.status.Status.{Status}
use Rattle.nfs_base.specs.declared.written.Stability.{Stability}
use Rattle.nfs_base.specs.declared.written.Stability.TheVariants.{Unstable, DataSync, FileSync}
use Rattle.client_laws.specs.WordLaws.{Knew, Happened, IsFirstTold, IsNamed}

record Keeps (c : ClientCopy) (o : Said × ClientCopy) : Type 0 where
  first : o.1.first ≡ c.first
  id : o.1.id ≡ c.id

kept_moves : (o : Option Step) (c : ClientCopy) → Keeps c (moves o c)
kept_moves None c = record { first = refl; id = refl }
kept_moves (Some s) c = record { first = refl; id = refl }

kept_opened : (side : Side) (st : Stage) (c : ClientCopy) → Keeps c (on_opened side st c)
kept_opened side (Due s) c = kept_moves (opened_to side s) c
kept_opened side (Asked s) c = kept_moves (opened_to side s) c
kept_opened side Accepted c = record { first = refl; id = refl }
kept_opened side (Over v) c = record { first = refl; id = refl }

kept_sent : (st : Stage) (c : ClientCopy) → Keeps c (on_sent st c)
kept_sent (Due s) c = record { first = refl; id = refl }
kept_sent (Asked s) c = record { first = refl; id = refl }
kept_sent Accepted c = record { first = refl; id = refl }
kept_sent (Over v) c = record { first = refl; id = refl }

kept_allowed : (o : Option Step) (c : ClientCopy) → Keeps c (on_allowed o c)
kept_allowed (Some steps.AllowSource) c = record { first = refl; id = refl }
kept_allowed (Some steps.AllowDest) c = record { first = refl; id = refl }
kept_allowed (Some _) c = record { first = refl; id = refl }
kept_allowed None c = record { first = refl; id = refl }

kept_told : (change : ℕ) (session : Session) (o : Option Step) (c : ClientCopy) → Keeps c (on_told change session o c)
kept_told change session (Some steps.Last) c = record { first = refl; id = refl }
kept_told change session (Some _) c = record { first = refl; id = refl }
kept_told change session None c = record { first = refl; id = refl }

kept_refused : (status : Status) (o : Option Step) (c : ClientCopy) → Keeps c (on_refused status o c)
kept_refused status None c = record { first = refl; id = refl }
kept_refused status (Some s) c = record { first = refl; id = refl }

kept_queried : (query : Query) (b : Bool) (c : ClientCopy) → Keeps c (on_queried query b c)
kept_queried query true c = record { first = refl; id = refl }
kept_queried query false c = record { first = refl; id = refl }

kept_completed : (count : ℕ) (ok : Bool) (status : Status) (c : ClientCopy) → Keeps c (completed count ok status c)
kept_completed count true status c = record { first = refl; id = refl }
kept_completed count false status c = record { first = refl; id = refl }

kept_progressed : (count : ℕ) (complete : Option Status) (b : Bool) (c : ClientCopy) → Keeps c (on_progressed count complete b c)
kept_progressed count None true c = record { first = refl; id = refl }
kept_progressed count (Some status) true c = kept_completed count (status.number == 0) status c
kept_progressed count complete false c = record { first = refl; id = refl }

kept_ended : (v : Verdict) (b : Bool) (c : ClientCopy) → Keeps c (on_ended v b c)
kept_ended v true c = record { first = refl; id = refl }
kept_ended v false c = record { first = refl; id = refl }

kept_synced : (level : Stability) (c : ClientCopy) → Keeps c (synced level c)
kept_synced FileSync c = record { first = refl; id = refl }
kept_synced DataSync c = record { first = refl; id = refl }
kept_synced Unstable c = record { first = refl; id = refl }

kept_offloaded : (end : OffloadEnd) (b : Bool) (c : ClientCopy) → Keeps c (on_offloaded end b c)
kept_offloaded end false c = record { first = refl; id = refl }
kept_offloaded (ends.Done response) true c = kept_synced response.committed c
kept_offloaded (ends.Failed status count) true c = record { first = refl; id = refl }

kept_fails : (b : Bool) (v : Verdict) (c : ClientCopy) → Keeps c (fails_if b v c)
kept_fails true v c = record { first = refl; id = refl }
kept_fails false v c = record { first = refl; id = refl }

kept_down : (side : Side) (status : Status) (st : Stage) (c : ClientCopy) → Keeps c (stage_down side status st c)
kept_down side status (Due s) c = kept_fails (is_side side (side_of s)) (lost_by (is_stable s) status) c
kept_down side status (Asked s) c = kept_fails (is_side side (side_of s)) (lost_by (is_stable s) status) c
kept_down side status Accepted c = kept_fails (is_side side Dest) (verdicts.Failed status) c
kept_down side status (Over v) c = record { first = refl; id = refl }

-- ---- the two events that tell

asked_is : (st : Stage) (step : Step) → asked_step st ≡ Some step → st ≡ Asked step
asked_is (Due s) step e = absurd cc
asked_is (Asked s) step e = cc
asked_is Accepted step e = absurd cc
asked_is (Over v) step e = absurd cc

-- what a copy knows afterwards it knew, or this told it
record Knows (event : Event) (c : ClientCopy) (o : Said × ClientCopy) : Type 0 where
  first : (known : First) → o.1.first ≡ Some known → (c.first ≡ Some known) ⊎ IsFirstTold known event c
  id : (id : StateId) → o.1.id ≡ Some id → (c.id ≡ Some id) ⊎ IsNamed id event c

knows_kept : (event : Event) (c : ClientCopy) (o : Said × ClientCopy) → Keeps c o → Knows event c o
knows_kept event c o kept = record { first = λ known e. inl (sym kept.first ∙ e); id = λ id e. inl (sym kept.id ∙ e) }

knows_granted : (first : First) (o : Option Step) (c : ClientCopy) → asked_step c.stage ≡ o → Knows (events.Granted first) c (on_granted first o c)
knows_granted first (Some steps.Notify) c at = record {
  first = λ known e. inr (record { asked = asked_is c.stage steps.Notify at; told = cc });
  id = λ id e. inl e;
}
knows_granted first (Some steps.OpenSource) c at = record { first = λ known e. inl e; id = λ id e. inl e }
knows_granted first (Some steps.AllowSource) c at = record { first = λ known e. inl e; id = λ id e. inl e }
knows_granted first (Some steps.OpenDest) c at = record { first = λ known e. inl e; id = λ id e. inl e }
knows_granted first (Some steps.AllowDest) c at = record { first = λ known e. inl e; id = λ id e. inl e }
knows_granted first (Some steps.Copy) c at = record { first = λ known e. inl e; id = λ id e. inl e }
knows_granted first (Some steps.OpenAgain) c at = record { first = λ known e. inl e; id = λ id e. inl e }
knows_granted first (Some steps.Last) c at = record { first = λ known e. inl e; id = λ id e. inl e }
knows_granted first None c at = record { first = λ known e. inl e; id = λ id e. inl e }

knows_accepted : (id : StateId) (sent_at : ℕ) (o : Option Step) (c : ClientCopy) → asked_step c.stage ≡ o → Knows (events.Accepted id sent_at) c (on_accepted id sent_at o c)
knows_accepted id sent_at (Some steps.Copy) c at = record {
  first = λ known e. inl e;
  id = λ name e. inr (record { asked = asked_is c.stage steps.Copy at; sent_at = sent_at; told = cc });
}
knows_accepted id sent_at (Some steps.OpenSource) c at = record { first = λ known e. inl e; id = λ id e. inl e }
knows_accepted id sent_at (Some steps.AllowSource) c at = record { first = λ known e. inl e; id = λ id e. inl e }
knows_accepted id sent_at (Some steps.Notify) c at = record { first = λ known e. inl e; id = λ id e. inl e }
knows_accepted id sent_at (Some steps.OpenDest) c at = record { first = λ known e. inl e; id = λ id e. inl e }
knows_accepted id sent_at (Some steps.AllowDest) c at = record { first = λ known e. inl e; id = λ id e. inl e }
knows_accepted id sent_at (Some steps.OpenAgain) c at = record { first = λ known e. inl e; id = λ id e. inl e }
knows_accepted id sent_at (Some steps.Last) c at = record { first = λ known e. inl e; id = λ id e. inl e }
knows_accepted id sent_at None c at = record { first = λ known e. inl e; id = λ id e. inl e }

after_knows : (event : Event) (c : ClientCopy) → Knows event c (after event c)
unfolding after
after_knows (events.Opened side) c = knows_kept _ c _ (kept_opened side c.stage c)
after_knows events.Sent c = knows_kept _ c _ (kept_sent c.stage c)
after_knows events.Allowed c = knows_kept _ c _ (kept_allowed (asked_step c.stage) c)
after_knows (events.Granted first) c = knows_granted first (asked_step c.stage) c refl
after_knows (events.Accepted id sent_at) c = knows_accepted id sent_at (asked_step c.stage) c refl
after_knows (events.Told change session) c = knows_kept _ c _ (kept_told change session (asked_step c.stage) c)
after_knows (events.Refused why) c = knows_kept _ c _ (kept_refused (refused_with why) (asked_step c.stage) c)
after_knows (events.Queried query) c = knows_kept _ c _ (kept_queried query (is_going c.stage) c)
after_knows (events.Progressed count complete sent_at) c =
    let kept = kept_progressed count complete (is_going c.stage) (record c { query = None; asked_at = sent_at }) in
    knows_kept _ c _ (record { first = kept.first; id = kept.id })
after_knows events.Cancelled c =
    let kept = kept_ended verdicts.Cancelled (is_going c.stage) (record c { query = None }) in
    knows_kept _ c _ (record { first = kept.first; id = kept.id })
after_knows (events.QueryRefused why) c =
    let kept = kept_ended (verdicts.Failed (refused_with why)) (is_going c.stage) (record c { query = None }) in
    knows_kept _ c _ (record { first = kept.first; id = kept.id })
after_knows (events.Offloaded end) c = knows_kept _ c _ (kept_offloaded end (is_going c.stage) c)
after_knows (events.Down side status) c =
    let kept = kept_down side status c.stage (record c { query = query_down side c.query }) in
    knows_kept _ c _ (record { first = kept.first; id = kept.id })

-- ---- in a run of events

record IsTold (cause : Event → Type 0) (is : Event → ClientCopy → Type 0) (c : ClientCopy) : Type 0 where
  before : List Event
  event : Event
  caused : cause event
  so : is event (ran before c)

abbrev later : (cause : Event → Type 0) (is : Event → ClientCopy → Type 0) (event : Event) (c : ClientCopy) → IsTold cause is (after event c).1 → IsTold cause is c
later cause is event c more = record { before = event ∷ more.before; event = more.event; caused = more.caused; so = more.so }

first_in : (cause : Event → Type 0) (known : First) (es : List Event) (c : ClientCopy) → AllByRecursion cause es → (ran es c).first ≡ Some known
    → (c.first ≡ Some known) ⊎ IsTold cause (IsFirstTold known) c
first_in cause known [] c caused e = inl e
first_in cause known (event ∷ es) c caused e =
    elim (first_in cause known es (after event c).1 caused.1 e) [
      | inl there ↦
          elim ((after_knows event c).first known there) [
            | inl known_before ↦ inl known_before
            | inr told ↦ inr (record { before = []; event = event; caused = caused.0; so = told })
          ]
      | inr more ↦ inr (later cause (IsFirstTold known) event c more)
    ]

id_in : (cause : Event → Type 0) (id : StateId) (es : List Event) (c : ClientCopy) → AllByRecursion cause es → (ran es c).id ≡ Some id
    → (c.id ≡ Some id) ⊎ IsTold cause (IsNamed id) c
id_in cause id [] c caused e = inl e
id_in cause id (event ∷ es) c caused e =
    elim (id_in cause id es (after event c).1 caused.1 e) [
      | inl there ↦
          elim ((after_knows event c).id id there) [
            | inl known_before ↦ inl known_before
            | inr told ↦ inr (record { before = []; event = event; caused = caused.0; so = told })
          ]
      | inr more ↦ inr (later cause (IsNamed id) event c more)
    ]

happened : {cause : Event → Type 0} {is : Event → ClientCopy → Type 0} (c : ClientCopy) → IsTold cause is c → Happened cause is (Some c)
happened c told = record { first = c; first_is = refl; before = told.before; event = told.event; caused = told.caused; so = told.so }

some_copy : (x y : ClientCopy) → Some x ≡ Some y → x ≡ y
some_copy x y e = cc

pub first_by : (cause : Event → Type 0) (known : First) (es : List Event) (o : Option ClientCopy) (d : ClientCopy) → AllByRecursion cause es → Some d ≡ option_map (ran es) o
    → d.first ≡ Some known → Knew (λ (c : ClientCopy). c.first) known o ⊎ Happened cause (IsFirstTold known) o
first_by cause known es None d caused e is = absurd cc
first_by cause known es (Some c) d caused e is =
    let same = some_copy d (ran es c) e in
    elim (first_in cause known es c caused (subst (λ (x : ClientCopy). x.first ≡ Some known) same is)) [
      | inl knew ↦ inl knew
      | inr told ↦ inr (happened c told)
    ]

pub id_by : (cause : Event → Type 0) (id : StateId) (es : List Event) (o : Option ClientCopy) (d : ClientCopy) → AllByRecursion cause es → Some d ≡ option_map (ran es) o
    → d.id ≡ Some id → Knew (λ (c : ClientCopy). c.id) id o ⊎ Happened cause (IsNamed id) o
id_by cause id es None d caused e is = absurd cc
id_by cause id es (Some c) d caused e is =
    let same = some_copy d (ran es c) e in
    elim (id_in cause id es c caused (subst (λ (x : ClientCopy). x.id ≡ Some id) same is)) [
      | inl knew ↦ inl knew
      | inr told ↦ inr (happened c told)
    ]
