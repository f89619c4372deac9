-- What is said of a copy is said by its events, and stays said.
use Rattle.std.proofs.Common.{◌≡◌, ◌∙◌, ℕ, Bool, true, false, List, [], ◌∷◌, Option, Some, None, refl, sym, ap, subst, inl, inr, ◌⊎◌}
use Rattle.std.specs.Prelude.{◌==◌}
use Rattle.std.specs.List.{AllByRecursion, list_any}
use Rattle.client_copies.specs.Copies.{side_of, is_stable}
use Rattle.client_copies.specs.Laws.{IsSaidExact, IsSaidStable}
use Rattle.client_copies.specs.Refusals.{refused_with}
use Rattle.client_copies.specs.Steps.{after, asked_step, completed, ends_with, fails_if, is_going, is_side, lost_by, moves, on_accepted, on_allowed, on_ended, on_granted, on_offloaded, on_opened, on_progressed, on_queried, on_refused, on_sent, on_told, opened_to, query_down, stage_down, stood_still, synced, told_by}
use Rattle.client_copies.specs.Words.{is_exact_word, is_stable_word, ran, told}
use Rattle.client_copies.specs.declared.copy.ClientCopy.{ClientCopy}
use Rattle.client_copies.specs.declared.copy.First.{First}
use Rattle.client_copies.specs.declared.copy.Query.{Query}
use Rattle.client_copies.specs.declared.copy.Session.{Session}
use Rattle.client_copies.specs.declared.copy.Stage.{Stage}
use Rattle.client_copies.specs.declared.copy.Stage.TheVariants.{Due, Asked, Accepted, Over}
use Rattle.client_copies.specs.declared.copy.Step.{Step}
use Rattle.client_copies.specs.declared.copy.Step.TheVariants as steps
use Rattle.client_copies.specs.declared.copy.Verdict.TheVariants as verdicts
use Rattle.client_copies.specs.declared.copy.Verdict.{Verdict}
use Rattle.client_copies.specs.declared.event.Event.{Event}
use Rattle.client_copies.specs.declared.event.Event.TheVariants as events
use Rattle.client_copies.specs.declared.told.Said.{Said}
use Rattle.client_laws.specs.Speaking.Views.{ended_exact, ended_stable, says_exact, says_stable}
use Rattle.copy_ops.specs.declared.callback.OffloadEnd.{OffloadEnd}
use Rattle.copy_ops.specs.declared.callback.OffloadEnd.TheVariants as ends
use Rattle.nfs_base.specs.declared.side.Side.{Side}
use Rattle.nfs_base.specs.declared.side.Side.TheVariants.{Source, Dest}
use Rattle.nfs_base.specs.declared.state_id.StateId.{StateId}
use Rattle.nfs_base.specs.declared.status.Status.{Status}
use Rattle.nfs_base.specs.declared.written.Stability.{Stability}
use Rattle.nfs_base.specs.declared.written.Stability.TheVariants.{Unstable, DataSync, FileSync}

-- the event gives the copy its name
pub record IsNaming (event : Event) (o : ClientCopy) : Type 0 where
  pub id : StateId
  pub sent_at : ℕ
  pub told : event ≡ events.Accepted id sent_at
  pub is : o.id ≡ Some id

-- what an event leaves of what was said, of the first change attribute, and of the name
record Says (event : Event) (c : ClientCopy) (o : Said × ClientCopy) : Type 0 where
  stable : says_stable o.1.stage ≡ true → (says_stable c.stage ≡ true) ⊎ (list_any is_stable_word (told o.0) ≡ true)
  exact : says_exact o.1.stage ≡ true → (says_exact c.stage ≡ true) ⊎ (list_any is_exact_word (told o.0) ≡ true)
  stable_stays : says_stable c.stage ≡ true → says_stable o.1.stage ≡ true
  exact_stays : says_exact c.stage ≡ true → says_exact o.1.stage ≡ true
  first : (known : First) → o.1.first ≡ Some known → (c.first ≡ Some known) ⊎ (event ≡ events.Granted known)
  id : (o.1.id ≡ c.id) ⊎ IsNaming event o.1
  goes : o.1.stage ≡ Accepted → (c.stage ≡ Accepted) ⊎ IsNaming event o.1

-- it says as much as before
same_says : (event : Event) (c : ClientCopy) (said : Said) (d : ClientCopy) → says_stable d.stage ≡ says_stable c.stage → says_exact d.stage ≡ says_exact c.stage → d.first ≡ c.first
    → d.id ≡ c.id → (d.stage ≡ Accepted → c.stage ≡ Accepted) → Says event c (said, d)
same_says event c said d stable exact first id goes = record {
  stable = λ e. inl (sym stable ∙ e);
  exact = λ e. inl (sym exact ∙ e);
  stable_stays = λ e. stable ∙ e;
  exact_stays = λ e. exact ∙ e;
  first = λ known e. inl (sym first ∙ e);
  id = inl id;
  goes = λ e. inl (goes e);
}

rests : (event : Event) (c : ClientCopy) (said : Said) → Says event c (said, c)
rests event c said = same_says event c said c refl refl refl refl (λ e. e)

-- its stage is another, of which as much is said
staged : (event : Event) (c : ClientCopy) (said : Said) (d : ClientCopy) (old new : Stage) → c.stage ≡ old → d.stage ≡ new → says_stable new ≡ says_stable old
    → says_exact new ≡ says_exact old → d.first ≡ c.first → d.id ≡ c.id → (new ≡ Accepted → old ≡ Accepted) → Says event c (said, d)
staged event c said d old new was now stable exact first id goes =
    same_says event c said d (ap says_stable now ∙ stable ∙ sym (ap says_stable was)) (ap says_exact now ∙ exact ∙ sym (ap says_exact was)) first id
    (λ e. was ∙ goes (sym now ∙ e))

-- ---- each event

moved : (event : Event) (o : Option Step) (old : Stage) (c : ClientCopy) → c.stage ≡ old → says_exact old ≡ false → ((step : Step) → o ≡ Some step → is_stable step ≡ says_stable old)
    → Says event c (moves o c)
moved event None old c was inexact goes = rests event c _
moved event (Some step) old c was inexact goes = staged event c _ (record c { stage = Due step }) old (Due step) was refl (goes step refl) (sym inexact) refl refl (λ e. absurd cc)

opened_same : (there : Side) (from to : Step) → opened_to there from ≡ Some to → is_stable to ≡ is_stable from
opened_same Source steps.OpenSource to e =
    let same : steps.AllowSource ≡ to = cc in
    ap is_stable (sym same)
opened_same Source steps.OpenAgain to e =
    let same : steps.Last ≡ to = cc in
    ap is_stable (sym same)
opened_same Dest steps.OpenDest to e =
    let same : steps.AllowDest ≡ to = cc in
    ap is_stable (sym same)
opened_same Source steps.AllowSource to e = absurd cc
opened_same Source steps.Notify to e = absurd cc
opened_same Source steps.OpenDest to e = absurd cc
opened_same Source steps.AllowDest to e = absurd cc
opened_same Source steps.Copy to e = absurd cc
opened_same Source steps.Last to e = absurd cc
opened_same Dest steps.OpenSource to e = absurd cc
opened_same Dest steps.AllowSource to e = absurd cc
opened_same Dest steps.Notify to e = absurd cc
opened_same Dest steps.AllowDest to e = absurd cc
opened_same Dest steps.Copy to e = absurd cc
opened_same Dest steps.OpenAgain to e = absurd cc
opened_same Dest steps.Last to e = absurd cc

says_opened : (event : Event) (there : Side) (st : Stage) (c : ClientCopy) → c.stage ≡ st → Says event c (on_opened there st c)
says_opened event there (Due step) c was = moved event (opened_to there step) (Due step) c was refl (λ to e. opened_same there step to e)
says_opened event there (Asked step) c was = moved event (opened_to there step) (Asked step) c was refl (λ to e. opened_same there step to e)
says_opened event there Accepted c was = rests event c _
says_opened event there (Over v) c was = rests event c _

says_sent : (event : Event) (st : Stage) (c : ClientCopy) → c.stage ≡ st → Says event c (on_sent st c)
says_sent event (Due step) c was = staged event c _ (record c { stage = Asked step }) (Due step) (Asked step) was refl refl refl refl refl (λ e. absurd cc)
says_sent event (Asked step) c was = rests event c _
says_sent event Accepted c was = rests event c _
says_sent event (Over v) c was = rests event c _

asked_of : (st : Stage) (step : Step) → asked_step st ≡ Some step → st ≡ Asked step
asked_of (Due s) step e = absurd cc
asked_of (Asked s) step e = cc
asked_of Accepted step e = absurd cc
asked_of (Over v) step e = absurd cc

some_step : (a b : Step) → Some a ≡ Some b → a ≡ b
some_step a b e = cc

says_allowed : (event : Event) (o : Option Step) (c : ClientCopy) → asked_step c.stage ≡ o → Says event c (on_allowed o c)
says_allowed event (Some steps.AllowSource) c at =
    moved event (Some steps.Notify) (Asked steps.AllowSource) c (asked_of c.stage steps.AllowSource at) refl (λ step e. ap is_stable (sym (some_step steps.Notify step e)))
says_allowed event (Some steps.AllowDest) c at =
    moved event (Some steps.Copy) (Asked steps.AllowDest) c (asked_of c.stage steps.AllowDest at) refl (λ step e. ap is_stable (sym (some_step steps.Copy step e)))
says_allowed event (Some steps.OpenSource) c at = rests event c _
says_allowed event (Some steps.Notify) c at = rests event c _
says_allowed event (Some steps.OpenDest) c at = rests event c _
says_allowed event (Some steps.Copy) c at = rests event c _
says_allowed event (Some steps.OpenAgain) c at = rests event c _
says_allowed event (Some steps.Last) c at = rests event c _
says_allowed event None c at = rests event c _

says_granted : (known : First) (o : Option Step) (c : ClientCopy) → asked_step c.stage ≡ o → Says (events.Granted known) c (on_granted known o c)
says_granted known (Some steps.Notify) c at =
    let was = asked_of c.stage steps.Notify at in
    record {
      stable = λ e. absurd cc;
      exact = λ e. absurd cc;
      stable_stays = λ e. let no_word : false ≡ true = sym (ap says_stable was) ∙ e in absurd cc;
      exact_stays = λ e. let no_word : false ≡ true = sym (ap says_exact was) ∙ e in absurd cc;
      first = λ other e. inr (let same : known ≡ other = cc in ap events.Granted same);
      id = inl refl;
      goes = λ e. absurd cc;
    }
says_granted known (Some steps.OpenSource) c at = rests _ c _
says_granted known (Some steps.AllowSource) c at = rests _ c _
says_granted known (Some steps.OpenDest) c at = rests _ c _
says_granted known (Some steps.AllowDest) c at = rests _ c _
says_granted known (Some steps.Copy) c at = rests _ c _
says_granted known (Some steps.OpenAgain) c at = rests _ c _
says_granted known (Some steps.Last) c at = rests _ c _
says_granted known None c at = rests _ c _

says_accepted : (id : StateId) (sent_at : ℕ) (o : Option Step) (c : ClientCopy) → asked_step c.stage ≡ o → Says (events.Accepted id sent_at) c (on_accepted id sent_at o c)
says_accepted id sent_at (Some steps.Copy) c at =
    let was = asked_of c.stage steps.Copy at in
    record {
      stable = λ e. absurd cc;
      exact = λ e. absurd cc;
      stable_stays = λ e. let no_word : false ≡ true = sym (ap says_stable was) ∙ e in absurd cc;
      exact_stays = λ e. let no_word : false ≡ true = sym (ap says_exact was) ∙ e in absurd cc;
      first = λ known e. inl e;
      id = inr (record { id = id; sent_at = sent_at; told = refl; is = refl });
      goes = λ e. inr (record { id = id; sent_at = sent_at; told = refl; is = refl });
    }
says_accepted id sent_at (Some steps.OpenSource) c at = rests _ c _
says_accepted id sent_at (Some steps.AllowSource) c at = rests _ c _
says_accepted id sent_at (Some steps.Notify) c at = rests _ c _
says_accepted id sent_at (Some steps.OpenDest) c at = rests _ c _
says_accepted id sent_at (Some steps.AllowDest) c at = rests _ c _
says_accepted id sent_at (Some steps.OpenAgain) c at = rests _ c _
says_accepted id sent_at (Some steps.Last) c at = rests _ c _
says_accepted id sent_at None c at = rests _ c _

-- the last change attribute is told
says_last : (event : Event) (b : Bool) (c : ClientCopy) → c.stage ≡ Asked steps.Last
    → Says event c (ends_with (told_by b) c)
says_last event true c was = record {
  stable = λ e. inl (ap says_stable was);
  exact = λ e. inr refl;
  stable_stays = λ e. refl;
  exact_stays = λ e. refl;
  first = λ known e. inl e;
  id = inl refl;
  goes = λ e. absurd cc;
}
says_last event false c was = staged event c _ (record c { stage = Over verdicts.Unsure }) (Asked steps.Last) (Over verdicts.Unsure) was refl refl refl refl refl (λ e. absurd cc)

says_told : (event : Event) (change : ℕ) (session : Session) (o : Option Step) (c : ClientCopy) → asked_step c.stage ≡ o → Says event c (on_told change session o c)
says_told event change session (Some steps.Last) c at = says_last event (stood_still change session c.first) c (asked_of c.stage steps.Last at)
says_told event change session (Some steps.OpenSource) c at = rests event c _
says_told event change session (Some steps.AllowSource) c at = rests event c _
says_told event change session (Some steps.Notify) c at = rests event c _
says_told event change session (Some steps.OpenDest) c at = rests event c _
says_told event change session (Some steps.AllowDest) c at = rests event c _
says_told event change session (Some steps.Copy) c at = rests event c _
says_told event change session (Some steps.OpenAgain) c at = rests event c _
says_told event change session None c at = rests event c _

lost_stable : (b : Bool) (status : Status) → ended_stable (lost_by b status) ≡ b
lost_stable true status = refl
lost_stable false status = refl

lost_exact : (b : Bool) (status : Status) → ended_exact (lost_by b status) ≡ false
lost_exact true status = refl
lost_exact false status = refl

says_refused : (event : Event) (status : Status) (o : Option Step) (c : ClientCopy) → asked_step c.stage ≡ o → Says event c (on_refused status o c)
says_refused event status None c at = rests event c _
says_refused event status (Some step) c at =
    staged event c _ (record c { stage = Over (lost_by (is_stable step) status) }) (Asked step) (Over (lost_by (is_stable step) status)) (asked_of c.stage step at) refl
    (lost_stable (is_stable step) status) (lost_exact (is_stable step) status) refl refl (λ e. absurd cc)

says_queried : (event : Event) (query : Query) (b : Bool) (c : ClientCopy) → Says event c (on_queried query b c)
says_queried event query true c = same_says event c _ (record c { query = Some query }) refl refl refl refl (λ e. e)
says_queried event query false c = rests event c _

-- a copy that goes on
going : (st : Stage) → is_going st ≡ true → st ≡ Accepted
going Accepted e = refl
going (Due step) e = absurd cc
going (Asked step) e = absurd cc
going (Over v) e = absurd cc

-- it fails, or is cancelled
says_over : (event : Event) (said : Said) (c d : ClientCopy) (v : Verdict) → c.stage ≡ Accepted → d.stage ≡ Over v → ended_stable v ≡ false → ended_exact v ≡ false → d.first ≡ c.first
    → d.id ≡ c.id → Says event c (said, d)
says_over event said c d v was now stable exact first id = staged event c said d Accepted (Over v) was now stable exact first id (λ e. absurd cc)

-- it is told to be stable
says_safe : (event : Event) (said : Said) (c d : ClientCopy) → c.stage ≡ Accepted → d.stage ≡ Due steps.OpenAgain → list_any is_stable_word (told said) ≡ true → d.first ≡ c.first
    → d.id ≡ c.id → Says event c (said, d)
says_safe event said c d was now word first id = record {
  stable = λ e. inr word;
  exact = λ e. let inexact : false ≡ true = sym (ap says_exact now) ∙ e in absurd cc;
  stable_stays = λ e. ap says_stable now;
  exact_stays = λ e. let inexact : false ≡ true = sym (ap says_exact was) ∙ e in absurd cc;
  first = λ known e. inl (sym first ∙ e);
  id = inl id;
  goes = λ e. inl was;
}

says_completed : (event : Event) (count : ℕ) (ok : Bool) (status : Status) (c d : ClientCopy) → c.stage ≡ Accepted → d.first ≡ c.first → d.id ≡ c.id
    → Says event c (completed count ok status d)
says_completed event count true status c d was first id = says_safe event _ c (record d { stage = Due steps.OpenAgain }) was refl refl first id
says_completed event count false status c d was first id =
    says_over event _ c (record d { stage = Over (verdicts.Failed status) }) (verdicts.Failed status) was refl refl refl first id

says_progressed : (event : Event) (count : ℕ) (complete : Option Status) (b : Bool) (c d : ClientCopy) → is_going c.stage ≡ b → d.stage ≡ c.stage → d.first ≡ c.first → d.id ≡ c.id
    → Says event c (on_progressed count complete b d)
says_progressed event count None true c d is stage first id = same_says event c _ d (ap says_stable stage) (ap says_exact stage) first id (λ e. sym stage ∙ e)
says_progressed event count (Some status) true c d is stage first id = says_completed event count (status.number == 0) status c d (going c.stage is) first id
says_progressed event count complete false c d is stage first id = same_says event c _ d (ap says_stable stage) (ap says_exact stage) first id (λ e. sym stage ∙ e)

says_ended : (event : Event) (v : Verdict) (b : Bool) (c d : ClientCopy) → ended_stable v ≡ false → ended_exact v ≡ false → is_going c.stage ≡ b → d.stage ≡ c.stage → d.first ≡ c.first
    → d.id ≡ c.id → Says event c (on_ended v b d)
says_ended event v true c d stable exact is stage first id = says_over event _ c (record d { stage = Over v }) v (going c.stage is) refl stable exact first id
says_ended event v false c d stable exact is stage first id = same_says event c _ d (ap says_stable stage) (ap says_exact stage) first id (λ e. sym stage ∙ e)

says_synced : (event : Event) (level : Stability) (c : ClientCopy) → c.stage ≡ Accepted → Says event c (synced level c)
says_synced event FileSync c was = says_safe event _ c (record c { stage = Due steps.OpenAgain }) was refl refl refl refl
says_synced event DataSync c was = rests event c _
says_synced event Unstable c was = rests event c _

says_offloaded : (event : Event) (end : OffloadEnd) (b : Bool) (c : ClientCopy) → is_going c.stage ≡ b → Says event c (on_offloaded end b c)
says_offloaded event end false c is = rests event c _
says_offloaded event (ends.Done response) true c is = says_synced event response.committed c (going c.stage is)
says_offloaded event (ends.Failed status count) true c is =
    says_over event _ c (record c { stage = Over (verdicts.Failed status) }) (verdicts.Failed status) (going c.stage is) refl refl refl refl refl

says_fails : (event : Event) (b : Bool) (v : Verdict) (c d : ClientCopy) (old : Stage) → c.stage ≡ old → d.stage ≡ c.stage → d.first ≡ c.first → d.id ≡ c.id → ended_stable v ≡ says_stable old
    → ended_exact v ≡ says_exact old → Says event c (fails_if b v d)
says_fails event true v c d old was stage first id stable exact = staged event c _ (record d { stage = Over v }) old (Over v) was refl stable exact first id (λ e. absurd cc)
says_fails event false v c d old was stage first id stable exact = same_says event c _ d (ap says_stable stage) (ap says_exact stage) first id (λ e. sym stage ∙ e)

says_down : (event : Event) (side : Side) (status : Status) (st : Stage) (c d : ClientCopy) → c.stage ≡ st → d.stage ≡ c.stage → d.first ≡ c.first
    → d.id ≡ c.id → Says event c (stage_down side status st d)
says_down event side status (Due step) c d was stage first id =
    says_fails event (is_side side (side_of step)) (lost_by (is_stable step) status) c d (Due step) was stage first id (lost_stable (is_stable step) status) (lost_exact (is_stable step) status)
says_down event side status (Asked step) c d was stage first id =
    says_fails event (is_side side (side_of step)) (lost_by (is_stable step) status) c d (Asked step) was stage first id (lost_stable (is_stable step) status) (lost_exact (is_stable step) status)
says_down event side status Accepted c d was stage first id =
    says_fails event (is_side side Dest) (verdicts.Failed status) c d Accepted was stage first id refl refl
says_down event side status (Over v) c d was stage first id = same_says event c _ d (ap says_stable stage) (ap says_exact stage) first id (λ e. sym stage ∙ e)

after_says : (event : Event) (c : ClientCopy) → Says event c (after event c)
unfolding after
after_says (events.Opened side) c = says_opened (events.Opened side) side c.stage c refl
after_says events.Sent c = says_sent events.Sent c.stage c refl
after_says events.Allowed c = says_allowed events.Allowed (asked_step c.stage) c refl
after_says (events.Granted known) c = says_granted known (asked_step c.stage) c refl
after_says (events.Accepted id sent_at) c = says_accepted id sent_at (asked_step c.stage) c refl
after_says (events.Told change session) c = says_told (events.Told change session) change session (asked_step c.stage) c refl
after_says (events.Refused why) c = says_refused (events.Refused why) (refused_with why) (asked_step c.stage) c refl
after_says (events.Queried query) c = says_queried (events.Queried query) query (is_going c.stage) c
after_says (events.Progressed count complete sent_at) c =
    says_progressed (events.Progressed count complete sent_at) count complete (is_going c.stage) c (record c { query = None; asked_at = sent_at }) refl refl refl refl
after_says events.Cancelled c = says_ended events.Cancelled verdicts.Cancelled (is_going c.stage) c (record c { query = None }) refl refl refl refl refl refl
after_says (events.QueryRefused why) c =
    says_ended (events.QueryRefused why) (verdicts.Failed (refused_with why)) (is_going c.stage) c (record c { query = None }) refl refl refl refl refl refl
after_says (events.Offloaded end) c = says_offloaded (events.Offloaded end) end (is_going c.stage) c refl
after_says (events.Down side status) c = says_down (events.Down side status) side status c.stage c (record c { query = query_down side c.query }) refl refl refl refl

-- ---- runs of events

-- among these events this one was, and was so
pub record IsAmong (cause : Event → Type 0) (is : Event → ClientCopy → Type 0) (es : List Event) (c : ClientCopy) : Type 0 where
  pub before : List Event
  pub event : Event
  pub caused : cause event
  pub so : is event (ran before c)
  pub all : AllByRecursion cause before
  pub behind : List Event
  pub after_all : AllByRecursion cause behind
  pub run : ran es c ≡ ran behind (after event (ran before c)).1

-- what the law of copies says of a word that is told
abbrev pub StableLaw : Type 0
StableLaw = (event : Event) (c : ClientCopy) → list_any is_stable_word (told (after event c).0) ≡ true → IsSaidStable event c

abbrev pub ExactLaw : Type 0
ExactLaw = (event : Event) (c : ClientCopy) → list_any is_exact_word (told (after event c).0) ≡ true → IsSaidExact event c

later : (cause : Event → Type 0) (is : Event → ClientCopy → Type 0) (event : Event) (es : List Event) (c : ClientCopy) → cause event → IsAmong cause is es (after event c).1
    → IsAmong cause is (event ∷ es) c
later cause is event es c why more = record {
  before = event ∷ more.before;
  event = more.event;
  caused = more.caused;
  so = more.so;
  all = (why, more.all);
  behind = more.behind;
  after_all = more.after_all;
  run = more.run;
}

pub stable_among : (cause : Event → Type 0) (law : StableLaw) (es : List Event) (c : ClientCopy) → AllByRecursion cause es → says_stable (ran es c).stage ≡ true
    → (says_stable c.stage ≡ true) ⊎ IsAmong cause IsSaidStable es c
stable_among cause law [] c why e = inl e
stable_among cause law (event ∷ es) c why e =
    elim (stable_among cause law es (after event c).1 why.1 e) [
      | inl now ↦
          elim ((after_says event c).stable now) [
            | inl was ↦ inl was
            | inr word ↦ inr (record { before = []; event = event; caused = why.0; so = law event c word; all = tt; behind = es; after_all = why.1; run = refl })
          ]
      | inr more ↦ inr (later cause IsSaidStable event es c why.0 more)
    ]

pub exact_among : (cause : Event → Type 0) (law : ExactLaw) (es : List Event) (c : ClientCopy) → AllByRecursion cause es → says_exact (ran es c).stage ≡ true
    → (says_exact c.stage ≡ true) ⊎ IsAmong cause IsSaidExact es c
exact_among cause law [] c why e = inl e
exact_among cause law (event ∷ es) c why e =
    elim (exact_among cause law es (after event c).1 why.1 e) [
      | inl now ↦
          elim ((after_says event c).exact now) [
            | inl was ↦ inl was
            | inr word ↦ inr (record { before = []; event = event; caused = why.0; so = law event c word; all = tt; behind = es; after_all = why.1; run = refl })
          ]
      | inr more ↦ inr (later cause IsSaidExact event es c why.0 more)
    ]

pub stable_kept : (es : List Event) (c : ClientCopy) → says_stable c.stage ≡ true → says_stable (ran es c).stage ≡ true
stable_kept [] c e = e
stable_kept (event ∷ es) c e = stable_kept es (after event c).1 ((after_says event c).stable_stays e)

pub exact_kept : (es : List Event) (c : ClientCopy) → says_exact c.stage ≡ true → says_exact (ran es c).stage ≡ true
exact_kept [] c e = e
exact_kept (event ∷ es) c e = exact_kept es (after event c).1 ((after_says event c).exact_stays e)

-- a first change attribute that is known behind these events was known before, or one of them told it
pub first_among : (cause : Event → Type 0) (es : List Event) (c : ClientCopy) (known : First) → AllByRecursion cause es → (ran es c).first ≡ Some known
    → (c.first ≡ Some known) ⊎ cause (events.Granted known)
first_among cause [] c known why e = inl e
first_among cause (event ∷ es) c known why e =
    elim (first_among cause es (after event c).1 known why.1 e) [
      | inl now ↦
          elim ((after_says event c).first known now) [
            | inl was ↦ inl was
            | inr told ↦ inr (subst cause told why.0)
          ]
      | inr more ↦ inr more
    ]

-- a copy that goes on has the name that was told, and it stays
pub goes_named : (cause : Event → Type 0) (id : StateId) → ((other : StateId) (sent_at : ℕ) → cause (events.Accepted other sent_at) → other ≡ id) → (es : List Event) (c : ClientCopy)
    → AllByRecursion cause es → (c.stage ≡ Accepted → c.id ≡ Some id) → (ran es c).stage ≡ Accepted → (ran es c).id ≡ Some id
goes_named cause id one [] c why old now = old now
goes_named cause id one (event ∷ es) c why old now = goes_named cause id one es (after event c).1 why.1 (λ e. by ((after_says event c).goes e) (after_says event c).id) now
  where
    named : (x : IsNaming event (after event c).1) → (after event c).1.id ≡ Some id
    named x = x.is ∙ ap (λ (k : StateId). Some k) (one x.id x.sent_at (subst cause x.told why.0))

    by : (c.stage ≡ Accepted) ⊎ IsNaming event (after event c).1 → ((after event c).1.id ≡ c.id) ⊎ IsNaming event (after event c).1 → (after event c).1.id ≡ Some id
    by (inr x) other = named x
    by (inl was) (inl same) = same ∙ old was
    by (inl was) (inr x) = named x

pub name_kept : (cause : Event → Type 0) (id : StateId) → ((other : StateId) (sent_at : ℕ) → cause (events.Accepted other sent_at) → other ≡ id) → (es : List Event) (c : ClientCopy)
    → AllByRecursion cause es → c.id ≡ Some id → (ran es c).id ≡ Some id
name_kept cause id one [] c why is = is
name_kept cause id one (event ∷ es) c why is = name_kept cause id one es (after event c).1 why.1 (by (after_says event c).id)
  where
    by : ((after event c).1.id ≡ c.id) ⊎ IsNaming event (after event c).1 → (after event c).1.id ≡ Some id
    by (inl same) = same ∙ is
    by (inr x) = x.is ∙ ap (λ (k : StateId). Some k) (one x.id x.sent_at (subst cause x.told why.0))
