-- What happens to a copy leaves what it awaits at the other server.
use Rattle.std.proofs.Common.{◌≡◌, ◌∙◌, ℕ, Bool, true, false, List, Option, Some, None, refl, sym, ap, subst, inl, inr, ◌⊎◌}
use Rattle.std.specs.Prelude.{◌==◌}
use Rattle.client_copies.specs.Copies.{side_of, is_stable}
use Rattle.client_copies.specs.Refusals.{refused_with}
use Rattle.client_copies.specs.Steps.{after, asked_step, completed, fails_if, is_going, is_side, lost_by, moves, on_accepted, on_allowed, on_ended, on_granted, on_offloaded, on_opened, on_progressed, on_queried, on_refused, on_sent, on_told, opened_to, query_down, stage_down, stood_still, synced, told_by}
use Rattle.client_copies.specs.declared.copy.ClientCopy.{ClientCopy}
use Rattle.client_copies.specs.declared.copy.First.{First}
use Rattle.client_copies.specs.declared.copy.Query.{Query}
use Rattle.client_copies.specs.declared.copy.Session.{Session}
use Rattle.client_copies.specs.declared.copy.Stage.{Stage}
use Rattle.client_copies.specs.declared.copy.Stage.TheVariants.{Due, Asked, Accepted, Over}
use Rattle.client_copies.specs.declared.copy.Step.{Step}
use Rattle.client_copies.specs.declared.copy.Step.TheVariants as steps
use Rattle.client_copies.specs.declared.copy.Verdict.TheVariants as verdicts
use Rattle.client_copies.specs.declared.copy.Verdict.{Verdict}
use Rattle.client_copies.specs.declared.event.Event.{Event}
use Rattle.client_copies.specs.declared.event.Event.TheVariants as events
use Rattle.client_laws.specs.Speaking.Places.{AsksOpen, FitsOwn, IsOpened, Waits}
use Rattle.client_site.specs.Sites.{open_in}
use Rattle.client_site.specs.declared.site.OpenFile.{OpenFile}
use Rattle.client_steps.specs.Answers.{query_of, stage_creates}
use Rattle.copy_ops.specs.declared.callback.OffloadEnd.{OffloadEnd}
use Rattle.copy_ops.specs.declared.callback.OffloadEnd.TheVariants as ends
use Rattle.mount.specs.declared.state.Aim.TheVariants as aims
use Rattle.mount.specs.declared.state.Pending.{Pending}
use Rattle.mount.specs.declared.state.Pending.TheVariants.{Init, Under}
use Rattle.nfs_base.specs.declared.copy_spec.CopySpec.{CopySpec}
use Rattle.nfs_base.specs.declared.side.Side.{Side}
use Rattle.nfs_base.specs.declared.side.Side.TheVariants.{Source, Dest}
use Rattle.nfs_base.specs.declared.state_id.StateId.{StateId}
use Rattle.nfs_base.specs.declared.status.Status.{Status}
use Rattle.nfs_base.specs.declared.written.Stability.{Stability}
use Rattle.nfs_base.specs.declared.written.Stability.TheVariants.{Unstable, DataSync, FileSync}
use Rattle.session_calls.specs.declared.slot_call.SlotCall.{SlotCall}
use Rattle.session_calls.specs.declared.slot_call.SlotCall.TheVariants as calls

pub record Leaves (side : Side) (c d : ClientCopy) : Type 0 where
  pub spec : d.spec ≡ c.spec
  pub stage : (step : Step) → c.stage ≡ Asked step → side_of step ≡ side → d.stage ≡ Asked step
  pub query : (query : Query) → query_of side c ≡ Some query → query_of side d ≡ Some query
  pub no_create : stage_creates side c.stage ≡ false → stage_creates side d.stage ≡ false

-- ---- what stands at its place fits as before

opened_stays : (files : List OpenFile) (c d : ClientCopy) (file : List ℕ) → d.spec ≡ c.spec → IsOpened files c file → IsOpened files d file
opened_stays files c d file spec o = record {
  opened = o.opened;
  opened_is = subst (λ (s : CopySpec). open_in s.src_file files ≡ Some o.opened) (sym spec) o.opened_is;
  handle = o.handle;
}

pub asks_stays : (files : List OpenFile) (c d : ClientCopy) (call : SlotCall) → d.spec ≡ c.spec → AsksOpen files c call → AsksOpen files d call
asks_stays files c d (calls.Notify file id destination) spec o = opened_stays files c d file spec o
asks_stays files c d calls.ReclaimComplete spec o = tt
asks_stays files c d (calls.Open client owner name) spec o = tt
asks_stays files c d (calls.OnFile file call) spec o = tt
asks_stays files c d (calls.Copy source_file source_id file id range source) spec o = tt

waits_stays : (side : Side) (c d : ClientCopy) → Leaves side c d → Waits side c → Waits side d
waits_stays side c d l w = record { step = w.step; asked = l.stage w.step w.asked w.here; here = w.here }

slot_waits : (side : Side) (c d : ClientCopy) → Leaves side c d → Waits side c ⊎ ((query : Query) × (query_of side c ≡ Some query))
    → Waits side d ⊎ ((query : Query) × (query_of side d ≡ Some query))
slot_waits side c d l (inl w) = inl (waits_stays side c d l w)
slot_waits side c d l (inr q) = inr (q.0, l.query q.0 q.1)

pub own_stays : (side : Side) (files : List OpenFile) (c d : ClientCopy) (p : Pending) → Leaves side c d → FitsOwn side files c p → FitsOwn side files d p
own_stays side files c d (Init init) l f = f
own_stays side files c d (Under context aims.Setup asking) l f = f
own_stays side files c d (Under context aims.Slot asking) l f = record {
  waits = slot_waits side c d l f.waits;
  no_create = l.no_create f.no_create;
  slot = f.slot;
  call = f.call;
  asked_is = f.asked_is;
  opened = asks_stays files c d f.call l.spec f.opened;
}
own_stays side files c d (Under context (aims.Child child) asking) l f =
    let w = f.1 in
    (ap (stage_creates side) (l.stage w.step w.asked w.here) ∙ sym (ap (stage_creates side) w.asked) ∙ f.0, waits_stays side c d l w)
own_stays side files c d (Under context aims.End asking) l f = f

-- ---- the parts of an event

-- no answer of this server is awaited by a step
abbrev pub Idle : Side → ClientCopy → Type 0
Idle side c = (step : Step) → c.stage ≡ Asked step → side_of step ≡ side → ⊥

pub never : {A : Type 0} → false ≡ true → A
never e = absurd cc

same_query : (side : Side) (c d : ClientCopy) → d.query ≡ c.query → (query : Query) → query_of side c ≡ Some query → query_of side d ≡ Some query
same_query Source c d same query e = e
same_query Dest c d same query e = same ∙ e

pub leave_to : (side : Side) (c d : ClientCopy) → d.spec ≡ c.spec → d.query ≡ c.query → Idle side c → stage_creates side d.stage ≡ false → Leaves side c d
leave_to side c d spec query idle quiet = record {
  spec = spec;
  stage = λ step e here. absurd (idle step e here);
  query = same_query side c d query;
  no_create = λ e. quiet;
}

pub leave_same : (side : Side) (c d : ClientCopy) → d.spec ≡ c.spec → d.stage ≡ c.stage → ((query : Query) → query_of side c ≡ Some query → query_of side d ≡ Some query)
    → Leaves side c d
leave_same side c d spec stage query = record {
  spec = spec;
  stage = λ step e here. stage ∙ e;
  query = query;
  no_create = λ e. ap (stage_creates side) stage ∙ e;
}

pub leave_none : (side : Side) (c : ClientCopy) → Leaves side c c
leave_none side c = leave_same side c c refl refl (λ query e. e)

-- a stage at which no step awaits its answer
abbrev is_asking : Stage → Bool
is_asking (Asked step) = true
is_asking _ = false

calm_stage : (side : Side) (st : Stage) → is_asking st ≡ false → stage_creates side st ≡ false
calm_stage Source (Due step) e = refl
calm_stage Dest (Due step) e = refl
calm_stage Source Accepted e = refl
calm_stage Dest Accepted e = refl
calm_stage Source (Over v) e = refl
calm_stage Dest (Over v) e = refl
calm_stage side (Asked step) e = absurd cc

idle_stage : (side : Side) (c : ClientCopy) (st : Stage) → c.stage ≡ st → is_asking st ≡ false → Idle side c
idle_stage side c st is calm step e here =
    let both : true ≡ false = sym (ap is_asking (sym is ∙ e)) ∙ calm in
    absurd cc

pub going_idle : (side : Side) (c : ClientCopy) (st : Stage) → c.stage ≡ st → is_going st ≡ true → Idle side c
going_idle side c Accepted is going = idle_stage side c Accepted is refl
going_idle side c (Due step) is going = never going
going_idle side c (Asked step) is going = never going
going_idle side c (Over v) is going = never going

moves_leave : (side : Side) (o : Option Step) (c : ClientCopy) → ((step : Step) → o ≡ Some step → Idle side c) → Leaves side c (moves o c).1
moves_leave side None c idle = leave_none side c
moves_leave side (Some step) c idle = leave_to side c (record c { stage = Due step }) refl refl (idle step refl) (calm_stage side (Due step) refl)

over_leaves : (side : Side) (c : ClientCopy) (v : Verdict) → Idle side c → Leaves side c (record c { stage = Over v })
over_leaves side c v idle = leave_to side c (record c { stage = Over v }) refl refl idle (calm_stage side (Over v) refl)

-- ---- each event

opened_side : (there : Side) (step to : Step) → opened_to there step ≡ Some to → side_of step ≡ there
opened_side Source steps.OpenSource to e = refl
opened_side Source steps.OpenAgain to e = refl
opened_side Dest steps.OpenDest to e = refl
opened_side Source steps.AllowSource to e = absurd cc
opened_side Source steps.Notify to e = absurd cc
opened_side Source steps.OpenDest to e = absurd cc
opened_side Source steps.AllowDest to e = absurd cc
opened_side Source steps.Copy to e = absurd cc
opened_side Source steps.Last to e = absurd cc
opened_side Dest steps.OpenSource to e = absurd cc
opened_side Dest steps.AllowSource to e = absurd cc
opened_side Dest steps.Notify to e = absurd cc
opened_side Dest steps.AllowDest to e = absurd cc
opened_side Dest steps.Copy to e = absurd cc
opened_side Dest steps.OpenAgain to e = absurd cc
opened_side Dest steps.Last to e = absurd cc

asked_is : (step other : Step) (st : Stage) → st ≡ Asked step → st ≡ Asked other → step ≡ other
asked_is step other st e f =
    let both : Asked step ≡ Asked other = sym e ∙ f in
    cc

-- the step that awaits its answer is of the other server
pub idle_elsewhere : (side there : Side) (c : ClientCopy) (step : Step) → c.stage ≡ Asked step → side_of step ≡ there → (there ≡ side → ⊥) → Idle side c
idle_elsewhere side there c step is at apart other e here = apart (sym at ∙ ap side_of (asked_is step other c.stage is e) ∙ here)

opened_leaves : (side there : Side) (st : Stage) (c : ClientCopy) → c.stage ≡ st → Idle side c ⊎ (there ≡ side → ⊥) → Leaves side c (on_opened there st c).1
opened_leaves side there (Due step) c is either = moves_leave side (opened_to there step) c (λ to e. idle_stage side c (Due step) is refl)
opened_leaves side there (Asked step) c is (inl idle) = moves_leave side (opened_to there step) c (λ to e. idle)
opened_leaves side there (Asked step) c is (inr apart) =
    moves_leave side (opened_to there step) c (λ to e. idle_elsewhere side there c step is (opened_side there step to e) apart)
opened_leaves side there Accepted c is either = leave_none side c
opened_leaves side there (Over v) c is either = leave_none side c

creates_here : (side : Side) (step : Step) → stage_creates side (Asked step) ≡ true → side_of step ≡ side
creates_here Source steps.AllowSource e = refl
creates_here Dest steps.AllowDest e = refl
creates_here Source steps.OpenSource e = absurd cc
creates_here Source steps.Notify e = absurd cc
creates_here Source steps.OpenDest e = absurd cc
creates_here Source steps.AllowDest e = absurd cc
creates_here Source steps.Copy e = absurd cc
creates_here Source steps.OpenAgain e = absurd cc
creates_here Source steps.Last e = absurd cc
creates_here Dest steps.OpenSource e = absurd cc
creates_here Dest steps.AllowSource e = absurd cc
creates_here Dest steps.Notify e = absurd cc
creates_here Dest steps.OpenDest e = absurd cc
creates_here Dest steps.Copy e = absurd cc
creates_here Dest steps.OpenAgain e = absurd cc
creates_here Dest steps.Last e = absurd cc

not_true : (b : Bool) → (b ≡ true → ⊥) → b ≡ false
not_true true unlike = absurd (unlike refl)
not_true false unlike = refl

pub sent_is : (c : ClientCopy) (step : Step) → c.stage ≡ Due step → (after events.Sent c).1 ≡ record c { stage = Asked step }
unfolding after
sent_is c step is = ap (λ (st : Stage). (on_sent st c).1) is

pub sent_leaves : (side : Side) (c : ClientCopy) (step : Step) → c.stage ≡ Due step → (side_of step ≡ side → ⊥) → Leaves side c (after events.Sent c).1
sent_leaves side c step is apart =
    subst (Leaves side c) (sym (sent_is c step is))
    (leave_to side c (record c { stage = Asked step }) refl refl (idle_stage side c (Due step) is refl)
    (not_true (stage_creates side (Asked step)) (λ e. apart (creates_here side step e))))

pub queried_is : (c : ClientCopy) (query : Query) → c.stage ≡ Accepted → (after (events.Queried query) c).1 ≡ record c { query = Some query }
unfolding after
queried_is c query is = ap (λ (st : Stage). (on_queried query (is_going st) c).1) is

-- nothing is asked of the copy
pub unasked : (side : Side) (c : ClientCopy) → c.query ≡ None → (query : Query) → query_of side c ≡ Some query → ⊥
unasked Source c none query e = absurd cc
unasked Dest c none query e =
    let both : None ≡ Some query = sym none ∙ e in
    absurd cc

pub queried_leaves : (side : Side) (c : ClientCopy) (query : Query) → c.stage ≡ Accepted → c.query ≡ None → Leaves side c (after (events.Queried query) c).1
queried_leaves side c query is none =
    subst (Leaves side c) (sym (queried_is c query is))
    (leave_same side c (record c { query = Some query }) refl refl (λ q e. absurd (unasked side c none q e)))

allowed_leaves : (side : Side) (o : Option Step) (c : ClientCopy) → Idle side c → Leaves side c (on_allowed o c).1
allowed_leaves side (Some steps.AllowSource) c idle = moves_leave side (Some steps.Notify) c (λ step e. idle)
allowed_leaves side (Some steps.AllowDest) c idle = moves_leave side (Some steps.Copy) c (λ step e. idle)
allowed_leaves side (Some steps.OpenSource) c idle = leave_none side c
allowed_leaves side (Some steps.Notify) c idle = leave_none side c
allowed_leaves side (Some steps.OpenDest) c idle = leave_none side c
allowed_leaves side (Some steps.Copy) c idle = leave_none side c
allowed_leaves side (Some steps.OpenAgain) c idle = leave_none side c
allowed_leaves side (Some steps.Last) c idle = leave_none side c
allowed_leaves side None c idle = leave_none side c

granted_leaves : (side : Side) (known : First) (o : Option Step) (c : ClientCopy) → Idle side c → Leaves side c (on_granted known o c).1
granted_leaves side known (Some steps.Notify) c idle =
    leave_to side c (record c { stage = Due steps.OpenDest; first = Some known }) refl refl idle (calm_stage side (Due steps.OpenDest) refl)
granted_leaves side known (Some steps.OpenSource) c idle = leave_none side c
granted_leaves side known (Some steps.AllowSource) c idle = leave_none side c
granted_leaves side known (Some steps.OpenDest) c idle = leave_none side c
granted_leaves side known (Some steps.AllowDest) c idle = leave_none side c
granted_leaves side known (Some steps.Copy) c idle = leave_none side c
granted_leaves side known (Some steps.OpenAgain) c idle = leave_none side c
granted_leaves side known (Some steps.Last) c idle = leave_none side c
granted_leaves side known None c idle = leave_none side c

accepted_leaves : (side : Side) (id : StateId) (sent_at : ℕ) (o : Option Step) (c : ClientCopy) → Idle side c → Leaves side c (on_accepted id sent_at o c).1
accepted_leaves side id sent_at (Some steps.Copy) c idle =
    leave_to side c (record c { stage = Accepted; id = Some id; asked_at = sent_at }) refl refl idle (calm_stage side Accepted refl)
accepted_leaves side id sent_at (Some steps.OpenSource) c idle = leave_none side c
accepted_leaves side id sent_at (Some steps.AllowSource) c idle = leave_none side c
accepted_leaves side id sent_at (Some steps.Notify) c idle = leave_none side c
accepted_leaves side id sent_at (Some steps.OpenDest) c idle = leave_none side c
accepted_leaves side id sent_at (Some steps.AllowDest) c idle = leave_none side c
accepted_leaves side id sent_at (Some steps.OpenAgain) c idle = leave_none side c
accepted_leaves side id sent_at (Some steps.Last) c idle = leave_none side c
accepted_leaves side id sent_at None c idle = leave_none side c

told_leaves : (side : Side) (change : ℕ) (session : Session) (o : Option Step) (c : ClientCopy) → Idle side c → Leaves side c (on_told change session o c).1
told_leaves side change session (Some steps.Last) c idle = over_leaves side c (told_by (stood_still change session c.first)) idle
told_leaves side change session (Some steps.OpenSource) c idle = leave_none side c
told_leaves side change session (Some steps.AllowSource) c idle = leave_none side c
told_leaves side change session (Some steps.Notify) c idle = leave_none side c
told_leaves side change session (Some steps.OpenDest) c idle = leave_none side c
told_leaves side change session (Some steps.AllowDest) c idle = leave_none side c
told_leaves side change session (Some steps.Copy) c idle = leave_none side c
told_leaves side change session (Some steps.OpenAgain) c idle = leave_none side c
told_leaves side change session None c idle = leave_none side c

refused_leaves : (side : Side) (status : Status) (o : Option Step) (c : ClientCopy) → Idle side c → Leaves side c (on_refused status o c).1
refused_leaves side status None c idle = leave_none side c
refused_leaves side status (Some step) c idle = over_leaves side c (lost_by (is_stable step) status) idle

synced_leaves : (side : Side) (level : Stability) (c : ClientCopy) → Idle side c → Leaves side c (synced level c).1
synced_leaves side FileSync c idle = leave_to side c (record c { stage = Due steps.OpenAgain }) refl refl idle (calm_stage side (Due steps.OpenAgain) refl)
synced_leaves side DataSync c idle = leave_none side c
synced_leaves side Unstable c idle = leave_none side c

offloaded_leaves : (side : Side) (end : OffloadEnd) (b : Bool) (c : ClientCopy) → is_going c.stage ≡ b → Leaves side c (on_offloaded end b c).1
offloaded_leaves side end false c is = leave_none side c
offloaded_leaves side (ends.Done response) true c is = synced_leaves side response.committed c (going_idle side c c.stage refl is)
offloaded_leaves side (ends.Failed status count) true c is = over_leaves side c (verdicts.Failed status) (going_idle side c c.stage refl is)

-- an answer to what was asked of the destination leaves the source
late : (c d : ClientCopy) → d.spec ≡ c.spec → is_going c.stage ≡ true → stage_creates Source d.stage ≡ false → Leaves Source c d
late c d spec going quiet = record {
  spec = spec;
  stage = λ step e here. absurd (going_idle Source c c.stage refl going step e here);
  query = λ query e. absurd cc;
  no_create = λ e. quiet;
}

rests : (c d : ClientCopy) → d.spec ≡ c.spec → d.stage ≡ c.stage → Leaves Source c d
rests c d spec stage = leave_same Source c d spec stage (λ query e. absurd cc)

completed_leaves : (count : ℕ) (ok : Bool) (status : Status) (c d : ClientCopy) → d.spec ≡ c.spec → is_going c.stage ≡ true → Leaves Source c (completed count ok status d).1
completed_leaves count true status c d spec going = late c (record d { stage = Due steps.OpenAgain }) spec going refl
completed_leaves count false status c d spec going = late c (record d { stage = Over (verdicts.Failed status) }) spec going refl

progressed_leaves : (count : ℕ) (complete : Option Status) (b : Bool) (c d : ClientCopy) → d.spec ≡ c.spec → d.stage ≡ c.stage → is_going c.stage ≡ b
    → Leaves Source c (on_progressed count complete b d).1
progressed_leaves count None true c d spec stage is = rests c d spec stage
progressed_leaves count (Some status) true c d spec stage is = completed_leaves count (status.number == 0) status c d spec is
progressed_leaves count complete false c d spec stage is = rests c d spec stage

ended_leaves : (v : Verdict) (b : Bool) (c d : ClientCopy) → d.spec ≡ c.spec → d.stage ≡ c.stage → is_going c.stage ≡ b → Leaves Source c (on_ended v b d).1
ended_leaves v true c d spec stage is = late c (record d { stage = Over v }) spec is refl
ended_leaves v false c d spec stage is = rests c d spec stage

-- a setup that goes down leaves the other server
side_told : (there side : Side) → is_side there side ≡ true → side ≡ there
side_told Source Source e = refl
side_told Dest Dest e = refl
side_told Source Dest e = absurd cc
side_told Dest Source e = absurd cc

fails_leaves : (side : Side) (b : Bool) (v : Verdict) (c d : ClientCopy) → d.spec ≡ c.spec → d.stage ≡ c.stage
    → ((query : Query) → query_of side c ≡ Some query → query_of side d ≡ Some query) → (b ≡ true → Idle side c) → Leaves side c (fails_if b v d).1
fails_leaves side false v c d spec stage query idle = leave_same side c d spec stage query
fails_leaves side true v c d spec stage query idle = record {
  spec = spec;
  stage = λ step e here. absurd (idle refl step e here);
  query = over_query side query;
  no_create = λ e. calm_stage side (Over v) refl;
}
  where
    over_query : (side : Side) → ((query : Query) → query_of side c ≡ Some query → query_of side d ≡ Some query) → (query : Query) → query_of side c ≡ Some query → query_of side (record d { stage = Over v }) ≡ Some query
    over_query Source old q e = e
    over_query Dest old q e = old q e

down_stage : (side there : Side) (status : Status) (st : Stage) (c d : ClientCopy) → c.stage ≡ st → d.spec ≡ c.spec → d.stage ≡ c.stage
    → ((query : Query) → query_of side c ≡ Some query → query_of side d ≡ Some query) → (there ≡ side → ⊥) → Leaves side c (stage_down there status st d).1
down_stage side there status (Due step) c d is spec stage query apart =
    fails_leaves side (is_side there (side_of step)) (lost_by (is_stable step) status) c d spec stage query (λ e. idle_stage side c (Due step) is refl)
down_stage side there status (Asked step) c d is spec stage query apart =
    fails_leaves side (is_side there (side_of step)) (lost_by (is_stable step) status) c d spec stage query
    (λ e. idle_elsewhere side there c step is (side_told there (side_of step) e) apart)
down_stage side there status Accepted c d is spec stage query apart =
    fails_leaves side (is_side there Dest) (verdicts.Failed status) c d spec stage query (λ e. idle_stage side c Accepted is refl)
down_stage side there status (Over v) c d is spec stage query apart = leave_same side c d spec stage query

down_query : (side there : Side) (c : ClientCopy) → (there ≡ side → ⊥) → (query : Query) → query_of side c ≡ Some query
    → query_of side (record c { query = query_down there c.query }) ≡ Some query
down_query Source there c apart query e = absurd cc
down_query Dest Source c apart query e = e
down_query Dest Dest c apart query e = absurd (apart refl)

-- ---- all of them

-- what an event wants of a copy, to leave what the copy awaits at a server
abbrev pub Spares : Side → Event → ClientCopy → Type 0
Spares side (events.Opened there) c = Idle side c ⊎ (there ≡ side → ⊥)
Spares side events.Sent c = (step : Step) × (c.stage ≡ Due step) × (side_of step ≡ side → ⊥)
Spares side (events.Queried query) c = (c.stage ≡ Accepted) × (c.query ≡ None)
Spares side (events.Progressed count complete sent_at) c = side ≡ Source
Spares side events.Cancelled c = side ≡ Source
Spares side (events.QueryRefused why) c = side ≡ Source
Spares side (events.Offloaded end) c = Unit {0}
Spares side (events.Down there status) c = there ≡ side → ⊥
Spares side events.Allowed c = Idle side c
Spares side (events.Granted known) c = Idle side c
Spares side (events.Accepted id sent_at) c = Idle side c
Spares side (events.Told change session) c = Idle side c
Spares side (events.Refused why) c = Idle side c

pub event_leaves : (side : Side) (event : Event) (c : ClientCopy) → Spares side event c → Leaves side c (after event c).1
unfolding after
event_leaves side (events.Opened there) c h = opened_leaves side there c.stage c refl h
event_leaves side events.Sent c h = sent_leaves side c h.0 h.1 h.2
event_leaves side (events.Queried query) c h = queried_leaves side c query h.0 h.1
event_leaves side (events.Progressed count complete sent_at) c h =
    subst (λ (s : Side). Leaves s c (on_progressed count complete (is_going c.stage) (record c { query = None; asked_at = sent_at })).1) (sym h)
    (progressed_leaves count complete (is_going c.stage) c (record c { query = None; asked_at = sent_at }) refl refl refl)
event_leaves side events.Cancelled c h =
    subst (λ (s : Side). Leaves s c (on_ended verdicts.Cancelled (is_going c.stage) (record c { query = None })).1) (sym h)
    (ended_leaves verdicts.Cancelled (is_going c.stage) c (record c { query = None }) refl refl refl)
event_leaves side (events.QueryRefused why) c h =
    subst (λ (s : Side). Leaves s c (on_ended (verdicts.Failed (refused_with why)) (is_going c.stage) (record c { query = None })).1) (sym h)
    (ended_leaves (verdicts.Failed (refused_with why)) (is_going c.stage) c (record c { query = None }) refl refl refl)
event_leaves side (events.Offloaded end) c h = offloaded_leaves side end (is_going c.stage) c refl
event_leaves side (events.Down there status) c h =
    down_stage side there status c.stage c (record c { query = query_down there c.query }) refl refl refl (down_query side there c h) h
event_leaves side events.Allowed c h = allowed_leaves side (asked_step c.stage) c h
event_leaves side (events.Granted known) c h = granted_leaves side known (asked_step c.stage) c h
event_leaves side (events.Accepted id sent_at) c h = accepted_leaves side id sent_at (asked_step c.stage) c h
event_leaves side (events.Told change session) c h = told_leaves side change session (asked_step c.stage) c h
event_leaves side (events.Refused why) c h = refused_leaves side (refused_with why) (asked_step c.stage) c h
