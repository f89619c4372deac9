-- What is known of a copy stays: it comes before the steps that want it, and those are behind the copy then.
use Rattle.std.proofs.Common.{◌≡◌, ◌∙◌, ℕ, Bool, true, false, List, [], ◌∷◌, Option, Some, None, refl, sym, ap, subst}
use Rattle.std.specs.Prelude.{◌==◌}
use Rattle.client_copies.specs.Copies.{is_stable, side_of}
use Rattle.client_copies.specs.Refusals.{refused_with}
use Rattle.client_copies.specs.Steps.{after, asked_step, completed, fails_if, is_going, is_side, lost_by, moves, on_accepted, on_allowed, on_ended, on_granted, on_offloaded, on_opened, on_progressed, on_queried, on_refused, on_sent, on_told, opened_to, query_down, stage_down, synced}
use Rattle.client_copies.specs.Words.{ran}
use Rattle.client_copies.specs.declared.copy.ClientCopy.{ClientCopy}
use Rattle.client_copies.specs.declared.copy.First.{First}
use Rattle.client_copies.specs.declared.copy.Query.{Query}
use Rattle.client_copies.specs.declared.copy.Session.{Session}
use Rattle.client_copies.specs.declared.copy.Stage.{Stage}
use Rattle.client_copies.specs.declared.copy.Stage.TheVariants.{Due, Asked, Accepted, Over}
use Rattle.client_copies.specs.declared.copy.Step.{Step}
use Rattle.client_copies.specs.declared.copy.Step.TheVariants as steps
use Rattle.client_copies.specs.declared.copy.Verdict.{Verdict}
use Rattle.client_copies.specs.declared.copy.Verdict.TheVariants as verdicts
use Rattle.client_copies.specs.declared.event.Event.{Event}
use Rattle.client_copies.specs.declared.event.Event.TheVariants as events
use Rattle.client_copies.specs.declared.told.Said.{Said}
use Rattle.copy_ops.specs.declared.callback.OffloadEnd.{OffloadEnd}
use Rattle.copy_ops.specs.declared.callback.OffloadEnd.TheVariants as ends
use Rattle.nfs_base.specs.declared.side.Side.{Side}
use Rattle.nfs_base.specs.declared.side.Side.TheVariants.{Source, Dest}
use Rattle.nfs_base.specs.declared.state_id.StateId.{StateId}
use Rattle.nfs_base.specs.declared.status.Status.{Status}
use Rattle.nfs_base.specs.declared.written.Stability.{Stability}
use Rattle.nfs_base.specs.declared.written.Stability.TheVariants.{Unstable, DataSync, FileSync}
use Rattle.client_laws.specs.Sound.{IsSound, in_stage, nameless, unknown}

-- an event leaves that so, and what is known
record Leaves (c : ClientCopy) (o : Said × ClientCopy) : Type 0 where
  sound : IsSound c → IsSound o.1
  first : IsSound c → (known : First) → c.first ≡ Some known → o.1.first ≡ Some known
  id : IsSound c → (id : StateId) → c.id ≡ Some id → o.1.id ≡ Some id

-- the copy knows the same, and is no earlier
record Later (c : ClientCopy) (o : Said × ClientCopy) : Type 0 where
  first : o.1.first ≡ c.first
  id : o.1.id ≡ c.id
  unknown_before : in_stage unknown o.1.stage ≡ true → in_stage unknown c.stage ≡ true
  nameless_before : in_stage nameless o.1.stage ≡ true → in_stage nameless c.stage ≡ true

leaves : (c : ClientCopy) (o : Said × ClientCopy) → Later c o → Leaves c o
leaves c o later = record {
  sound = λ sound. record { first = λ early. later.first ∙ sound.first (later.unknown_before early); id = λ early. later.id ∙ sound.id (later.nameless_before early) };
  first = λ sound known is. later.first ∙ is;
  id = λ sound id is. later.id ∙ is;
}

-- nothing of it changes
still : (c d : ClientCopy) (said : Said) → d.first ≡ c.first → d.id ≡ c.id → d.stage ≡ c.stage → Later c (said, d)
still c d said first id stage = record {
  first = first;
  id = id;
  unknown_before = λ early. ap (in_stage unknown) (sym stage) ∙ early;
  nameless_before = λ early. ap (in_stage nameless) (sym stage) ∙ early;
}

-- its stage is another, which is no earlier
staged : (c : ClientCopy) (stage old : Stage) (said : Said) (d : ClientCopy) → c.stage ≡ old → d.first ≡ c.first → d.id ≡ c.id → d.stage ≡ stage
    → (in_stage unknown stage ≡ true → in_stage unknown old ≡ true) → (in_stage nameless stage ≡ true → in_stage nameless old ≡ true) → Later c (said, d)
staged c stage old said d was first id now unknown_before nameless_before = record {
  first = first;
  id = id;
  unknown_before = λ early. ap (in_stage unknown) was ∙ unknown_before (ap (in_stage unknown) (sym now) ∙ early);
  nameless_before = λ early. ap (in_stage nameless) was ∙ nameless_before (ap (in_stage nameless) (sym now) ∙ early);
}

never : {A : Type 0} → false ≡ true → A
never e = absurd cc

-- it is over, or behind COPY
late : (c : ClientCopy) (stage : Stage) (said : Said) (d : ClientCopy) → d.first ≡ c.first → d.id ≡ c.id → d.stage ≡ stage → in_stage unknown stage ≡ false
    → in_stage nameless stage ≡ false → Later c (said, d)
late c stage said d first id now behind named = record {
  first = first;
  id = id;
  unknown_before = λ early. never (sym behind ∙ ap (in_stage unknown) (sym now) ∙ early);
  nameless_before = λ early. never (sym named ∙ ap (in_stage nameless) (sym now) ∙ early);
}

-- ---- each event

moved : (o : Option Step) (old : Stage) (c : ClientCopy) → c.stage ≡ old → ((step : Step) → o ≡ Some step → (in_stage unknown (Due step) ≡ true → in_stage unknown old ≡ true)
    × (in_stage nameless (Due step) ≡ true → in_stage nameless old ≡ true)) → Later c (moves o c)
moved None old c was no_earlier = still c c _ refl refl refl
moved (Some step) old c was no_earlier =
    let both = no_earlier step refl in
    staged c (Due step) old _ (record c { stage = Due step }) was refl refl refl both.0 both.1

-- by the step that is behind an opening
abbrev Behind : Step → Option Step → Type 0
Behind from o = (step : Step) → o ≡ Some step → (unknown step ≡ true → unknown from ≡ true) × (nameless step ≡ true → nameless from ≡ true)

no_step : (from : Step) → Behind from None
no_step from step e = absurd cc

one_step : (from to : Step) → (unknown to ≡ true → unknown from ≡ true) → (nameless to ≡ true → nameless from ≡ true) → Behind from (Some to)
one_step from to a b step e =
    let same : to ≡ step = cc in
    subst (λ (x : Step). (unknown x ≡ true → unknown from ≡ true) × (nameless x ≡ true → nameless from ≡ true)) same (a, b)

behind_opening : (side : Side) (from : Step) → Behind from (opened_to side from)
behind_opening Source steps.OpenSource = one_step steps.OpenSource steps.AllowSource (λ e. refl) (λ e. refl)
behind_opening Source steps.OpenAgain = one_step steps.OpenAgain steps.Last never never
behind_opening Dest steps.OpenDest = one_step steps.OpenDest steps.AllowDest never (λ e. refl)
behind_opening Source steps.AllowSource = no_step steps.AllowSource
behind_opening Source steps.Notify = no_step steps.Notify
behind_opening Source steps.OpenDest = no_step steps.OpenDest
behind_opening Source steps.AllowDest = no_step steps.AllowDest
behind_opening Source steps.Copy = no_step steps.Copy
behind_opening Source steps.Last = no_step steps.Last
behind_opening Dest steps.OpenSource = no_step steps.OpenSource
behind_opening Dest steps.AllowSource = no_step steps.AllowSource
behind_opening Dest steps.Notify = no_step steps.Notify
behind_opening Dest steps.AllowDest = no_step steps.AllowDest
behind_opening Dest steps.Copy = no_step steps.Copy
behind_opening Dest steps.OpenAgain = no_step steps.OpenAgain
behind_opening Dest steps.Last = no_step steps.Last

later_opened : (side : Side) (st : Stage) (c : ClientCopy) → c.stage ≡ st → Later c (on_opened side st c)
later_opened side (Due step) c was = moved (opened_to side step) (Due step) c was (behind_opening side step)
later_opened side (Asked step) c was = moved (opened_to side step) (Asked step) c was (behind_opening side step)
later_opened side Accepted c was = still c c _ refl refl refl
later_opened side (Over v) c was = still c c _ refl refl refl

later_sent : (st : Stage) (c : ClientCopy) → c.stage ≡ st → Later c (on_sent st c)
later_sent (Due step) c was = staged c (Asked step) (Due step) _ (record c { stage = Asked step }) was refl refl refl (λ e. e) (λ e. e)
later_sent (Asked step) c was = still c c _ refl refl refl
later_sent Accepted c was = still c c _ refl refl refl
later_sent (Over v) c was = still c c _ refl refl refl

asked_of : (st : Stage) (step : Step) → asked_step st ≡ Some step → st ≡ Asked step
asked_of (Due s) step e = absurd cc
asked_of (Asked s) step e = cc
asked_of Accepted step e = absurd cc
asked_of (Over v) step e = absurd cc

later_allowed : (o : Option Step) (c : ClientCopy) → asked_step c.stage ≡ o → Later c (on_allowed o c)
later_allowed (Some steps.AllowSource) c at =
    moved (Some steps.Notify) (Asked steps.AllowSource) c (asked_of c.stage steps.AllowSource at) (one_step steps.AllowSource steps.Notify (λ e. refl) (λ e. refl))
later_allowed (Some steps.AllowDest) c at =
    moved (Some steps.Copy) (Asked steps.AllowDest) c (asked_of c.stage steps.AllowDest at) (one_step steps.AllowDest steps.Copy never (λ e. refl))
later_allowed (Some _) c at = still c c _ refl refl refl
later_allowed None c at = still c c _ refl refl refl

later_told : (change : ℕ) (session : Session) (o : Option Step) (c : ClientCopy) → Later c (on_told change session o c)
later_told change session (Some steps.Last) c = late c (Over _) _ (record c { stage = Over _ }) refl refl refl refl refl
later_told change session (Some _) c = still c c _ refl refl refl
later_told change session None c = still c c _ refl refl refl

over : (c : ClientCopy) (verdict : Verdict) (said : Said) → Later c (said, record c { stage = Over verdict })
over c verdict said = late c (Over verdict) said (record c { stage = Over verdict }) refl refl refl refl refl

later_refused : (status : Status) (o : Option Step) (c : ClientCopy) → Later c (on_refused status o c)
later_refused status None c = still c c _ refl refl refl
later_refused status (Some step) c = over c (lost_by (is_stable step) status) _

later_queried : (query : Query) (b : Bool) (c : ClientCopy) → Later c (on_queried query b c)
later_queried query true c = still c (record c { query = Some query }) _ refl refl refl
later_queried query false c = still c c _ refl refl refl

-- once it is stable, its file is opened again
safe : (c : ClientCopy) (said : Said) → Later c (said, record c { stage = Due steps.OpenAgain })
safe c said = late c (Due steps.OpenAgain) said (record c { stage = Due steps.OpenAgain }) refl refl refl refl refl

later_completed : (count : ℕ) (ok : Bool) (status : Status) (c : ClientCopy) → Later c (completed count ok status c)
later_completed count true status c = safe c _
later_completed count false status c = over c (verdicts.Failed status) _

later_progressed : (count : ℕ) (complete : Option Status) (b : Bool) (c : ClientCopy) → Later c (on_progressed count complete b c)
later_progressed count None true c = still c c _ refl refl refl
later_progressed count (Some status) true c = later_completed count (status.number == 0) status c
later_progressed count complete false c = still c c _ refl refl refl

later_ended : (verdict : Verdict) (b : Bool) (c : ClientCopy) → Later c (on_ended verdict b c)
later_ended verdict true c = over c verdict _
later_ended verdict false c = still c c _ refl refl refl

later_synced : (level : Stability) (c : ClientCopy) → Later c (synced level c)
later_synced FileSync c = safe c _
later_synced DataSync c = still c c _ refl refl refl
later_synced Unstable c = still c c _ refl refl refl

later_offloaded : (end : OffloadEnd) (b : Bool) (c : ClientCopy) → Later c (on_offloaded end b c)
later_offloaded end false c = still c c _ refl refl refl
later_offloaded (ends.Done response) true c = later_synced response.committed c
later_offloaded (ends.Failed status count) true c = over c (verdicts.Failed status) _

later_fails : (b : Bool) (verdict : Verdict) (c : ClientCopy) → Later c (fails_if b verdict c)
later_fails true verdict c = over c verdict _
later_fails false verdict c = still c c _ refl refl refl

later_down : (side : Side) (status : Status) (st : Stage) (c : ClientCopy) → Later c (stage_down side status st c)
later_down side status (Due step) c = later_fails (is_side side (side_of step)) (lost_by (is_stable step) status) c
later_down side status (Asked step) c = later_fails (is_side side (side_of step)) (lost_by (is_stable step) status) c
later_down side status Accepted c = later_fails (is_side side Dest) (verdicts.Failed status) c
later_down side status (Over verdict) c = still c c _ refl refl refl

-- with what was asked of it changed before
query_before : (c d : ClientCopy) (o : Said × ClientCopy) → d.first ≡ c.first → d.id ≡ c.id → d.stage ≡ c.stage → Later d o → Later c o
query_before c d o first id stage later = record {
  first = later.first ∙ first;
  id = later.id ∙ id;
  unknown_before = λ early. ap (in_stage unknown) (sym stage) ∙ later.unknown_before early;
  nameless_before = λ early. ap (in_stage nameless) (sym stage) ∙ later.nameless_before early;
}

-- ---- the two events that tell

some_not_none : {X : Type 0} {Y : Type 0} (o : Option X) (x : X) → o ≡ None → o ≡ Some x → Y
some_not_none o x none some =
    let both : None ≡ Some x = sym none ∙ some in
    absurd cc

leaves_granted : (known : First) (o : Option Step) (c : ClientCopy) → asked_step c.stage ≡ o → Leaves c (on_granted known o c)
leaves_granted known (Some steps.Notify) c at =
    let stage = asked_of c.stage steps.Notify at in
    record {
      sound = λ sound. record { first = never; id = λ early. sound.id (ap (in_stage nameless) stage) };
      first = λ sound first is. some_not_none c.first first (sound.first (ap (in_stage unknown) stage)) is;
      id = λ sound id is. is;
    }
leaves_granted known (Some steps.OpenSource) c at = leaves c _ (still c c _ refl refl refl)
leaves_granted known (Some steps.AllowSource) c at = leaves c _ (still c c _ refl refl refl)
leaves_granted known (Some steps.OpenDest) c at = leaves c _ (still c c _ refl refl refl)
leaves_granted known (Some steps.AllowDest) c at = leaves c _ (still c c _ refl refl refl)
leaves_granted known (Some steps.Copy) c at = leaves c _ (still c c _ refl refl refl)
leaves_granted known (Some steps.OpenAgain) c at = leaves c _ (still c c _ refl refl refl)
leaves_granted known (Some steps.Last) c at = leaves c _ (still c c _ refl refl refl)
leaves_granted known None c at = leaves c _ (still c c _ refl refl refl)

leaves_accepted : (id : StateId) (sent_at : ℕ) (o : Option Step) (c : ClientCopy) → asked_step c.stage ≡ o → Leaves c (on_accepted id sent_at o c)
leaves_accepted id sent_at (Some steps.Copy) c at =
    let stage = asked_of c.stage steps.Copy at in
    record {
      sound = λ sound. record { first = never; id = never };
      first = λ sound first is. is;
      id = λ sound name is. some_not_none c.id name (sound.id (ap (in_stage nameless) stage)) is;
    }
leaves_accepted id sent_at (Some steps.OpenSource) c at = leaves c _ (still c c _ refl refl refl)
leaves_accepted id sent_at (Some steps.AllowSource) c at = leaves c _ (still c c _ refl refl refl)
leaves_accepted id sent_at (Some steps.Notify) c at = leaves c _ (still c c _ refl refl refl)
leaves_accepted id sent_at (Some steps.OpenDest) c at = leaves c _ (still c c _ refl refl refl)
leaves_accepted id sent_at (Some steps.AllowDest) c at = leaves c _ (still c c _ refl refl refl)
leaves_accepted id sent_at (Some steps.OpenAgain) c at = leaves c _ (still c c _ refl refl refl)
leaves_accepted id sent_at (Some steps.Last) c at = leaves c _ (still c c _ refl refl refl)
leaves_accepted id sent_at None c at = leaves c _ (still c c _ refl refl refl)

after_leaves : (event : Event) (c : ClientCopy) → Leaves c (after event c)
unfolding after
after_leaves (events.Opened side) c = leaves c _ (later_opened side c.stage c refl)
after_leaves events.Sent c = leaves c _ (later_sent c.stage c refl)
after_leaves events.Allowed c = leaves c _ (later_allowed (asked_step c.stage) c refl)
after_leaves (events.Granted known) c = leaves_granted known (asked_step c.stage) c refl
after_leaves (events.Accepted id sent_at) c = leaves_accepted id sent_at (asked_step c.stage) c refl
after_leaves (events.Told change session) c = leaves c _ (later_told change session (asked_step c.stage) c)
after_leaves (events.Refused why) c = leaves c _ (later_refused (refused_with why) (asked_step c.stage) c)
after_leaves (events.Queried query) c = leaves c _ (later_queried query (is_going c.stage) c)
after_leaves (events.Progressed count complete sent_at) c =
    let d : ClientCopy = record c { query = None; asked_at = sent_at } in
    leaves c _ (query_before c d _ refl refl refl (later_progressed count complete (is_going c.stage) d))
after_leaves events.Cancelled c =
    let d : ClientCopy = record c { query = None } in
    leaves c _ (query_before c d _ refl refl refl (later_ended verdicts.Cancelled (is_going c.stage) d))
after_leaves (events.QueryRefused why) c =
    let d : ClientCopy = record c { query = None } in
    leaves c _ (query_before c d _ refl refl refl (later_ended (verdicts.Failed (refused_with why)) (is_going c.stage) d))
after_leaves (events.Offloaded end) c = leaves c _ (later_offloaded end (is_going c.stage) c)
after_leaves (events.Down side status) c =
    let d : ClientCopy = record c { query = query_down side c.query } in
    leaves c _ (query_before c d _ refl refl refl (later_down side status c.stage d))

-- ---- runs of events

pub begun_sound : (c : ClientCopy) → c.first ≡ None → c.id ≡ None → IsSound c
begun_sound c first id = record { first = λ early. first; id = λ early. id }

pub ran_sound : (es : List Event) (c : ClientCopy) → IsSound c → IsSound (ran es c)
ran_sound [] c sound = sound
ran_sound (event ∷ es) c sound = ran_sound es (after event c).1 ((after_leaves event c).sound sound)

pub first_stays : (es : List Event) (c : ClientCopy) (known : First) → IsSound c → c.first ≡ Some known → (ran es c).first ≡ Some known
first_stays [] c known sound is = is
first_stays (event ∷ es) c known sound is =
    let l = after_leaves event c in
    first_stays es (after event c).1 known (l.sound sound) (l.first sound known is)

pub id_stays : (es : List Event) (c : ClientCopy) (id : StateId) → IsSound c → c.id ≡ Some id → (ran es c).id ≡ Some id
id_stays [] c id sound is = is
id_stays (event ∷ es) c id sound is =
    let l = after_leaves event c in
    id_stays es (after event c).1 id (l.sound sound) (l.id sound id is)
