-- The first change attribute, the name, the last change attribute and the progress of a copy come of the answers to its calls.
use Rattle.std.proofs.Common.{◌≡◌, ◌∙◌, ℕ, Bool, true, false, List, ◌∷◌, Option, Some, None, refl, sym, ap, subst, inl, inr, ◌⊎◌}
use Rattle.std.specs.Prelude.{option_map}
use Rattle.caller_laws.specs.Good.{Identity}
use Rattle.caller_laws.specs.View.{face, handle_named, mount_in, root_seen}
use Rattle.client_copies.specs.Copies.{side_of}
use Rattle.client_copies.specs.Table.{copy_at}
use Rattle.client_copies.specs.declared.copy.ClientCopy.{ClientCopy}
use Rattle.client_copies.specs.declared.copy.Query.{Query}
use Rattle.client_copies.specs.declared.copy.Session.{Session}
use Rattle.client_copies.specs.declared.copy.Stage.{Stage}
use Rattle.client_copies.specs.declared.copy.Stage.TheVariants.{Due, Asked, Accepted, Over}
use Rattle.client_copies.specs.declared.copy.Step.{Step}
use Rattle.client_copies.specs.declared.copy.Step.TheVariants as steps
use Rattle.client_copies.specs.declared.event.Event.{Event}
use Rattle.client_copies.specs.declared.event.Event.TheVariants as events
use Rattle.client_core.specs.Endings.{Ways, desk_at}
use Rattle.client_core.specs.State.{ClientState}
use Rattle.client_laws.proofs.speaking.Coming.{By, comes_by, not_lost, slot_told}
use Rattle.client_laws.proofs.speaking.Hearing.{IsHeard, Reading, heard}
use Rattle.client_laws.proofs.speaking.Mounts.{none_some, some_is}
use Rattle.client_laws.proofs.speaking.Turns.{Finds, finds}
use Rattle.client_laws.specs.Answered.{IsAnswerTaken}
use Rattle.client_laws.specs.CallerLaws.{is_past, purpose_for}
use Rattle.client_laws.specs.Causes.{ByAcceptance, ByAnswer, ByCallback, ByHeld, ByItself, Cause, IsAnswered, desk_heard}
use Rattle.client_laws.specs.Changes.{is_own}
use Rattle.client_laws.specs.Speaking.Carried.{IsCarried, seen}
use Rattle.client_laws.specs.Speaking.Places.{AsksOpen, IsOpened, Waits}
use Rattle.client_laws.specs.Turns.{Hears, Turn}
use Rattle.client_laws.specs.WholeTurns.{Purposes}
use Rattle.client_laws.specs.WordLaws.{ComesOf}
use Rattle.client_site.specs.Falling.{all_places}
use Rattle.client_site.specs.Sites.{session_at, session_of, up_in}
use Rattle.client_site.specs.Taking.{found_at}
use Rattle.client_site.specs.declared.site.OpenFile.{OpenFile}
use Rattle.client_site.specs.declared.site.Site.{Site}
use Rattle.client_site.specs.declared.taking.Found.{Found}
use Rattle.client_steps.specs.Answers.{copy_deed, query_of, stage_creates}
use Rattle.client_steps.specs.CopySteps.{copy_in}
use Rattle.client_steps.specs.Replies.{taken}
use Rattle.client_steps.specs.declared.deeds.Deed.{Deed}
use Rattle.client_steps.specs.declared.deeds.Deed.TheVariants as deeds
use Rattle.client_steps.specs.declared.desk.Desk.{Desk}
use Rattle.copy_ops.specs.declared.callback.OffloadEnd.{OffloadEnd}
use Rattle.mount.specs.State.{Mounted, named, root_context, root_name, setup_in}
use Rattle.mount.specs.Taking.{taken_at}
use Rattle.mount.specs.declared.state.Context.{Context}
use Rattle.mount.specs.declared.state.Standing.{Standing}
use Rattle.mount.specs.declared.state.Standing.TheVariants.{Down, Rooted}
use Rattle.mount.specs.declared.taking.Told.TheVariants as tells
use Rattle.mount.specs.declared.taking.Told.{Told}
use Rattle.nfs_base.specs.declared.net_loc.NetLoc.{NetLoc}
use Rattle.nfs_base.specs.declared.side.Side.{Side}
use Rattle.nfs_base.specs.declared.side.Side.TheVariants.{Source, Dest}
use Rattle.nfs_base.specs.declared.state_id.StateId.{StateId}
use Rattle.nfs_compound.specs.declared.reply.Reply.{Reply}
use Rattle.outbox.specs.declared.outgoing.Outbox.{Outbox}
use Rattle.session_calls.specs.Calls.{sequence_op, slot_ops}
use Rattle.session_calls.specs.declared.slot_call.CopyRange.{CopyRange}
use Rattle.session_calls.specs.declared.slot_call.FileCall.TheVariants as asks
use Rattle.session_calls.specs.declared.slot_call.SlotCall.{SlotCall}
use Rattle.session_calls.specs.declared.slot_call.SlotCall.TheVariants as calls
use Rattle.session_calls.specs.declared.slot_call.SlotUse.{SlotUse}
use Rattle.wire_model.specs.Wire.{ForCopy, ForFirst, ForLast, ForStatus}

-- ---- what a purpose says of a call

pub record IsNotify (call : SlotCall) : Type 0 where
  pub file : List ℕ
  pub id : StateId
  pub destination : NetLoc
  pub is : call ≡ calls.Notify file id destination

pub for_first : (j : ℕ) (call : SlotCall) → purpose_for j call ≡ ForFirst j → IsNotify call
for_first j (calls.Notify file id destination) e = record { file = file; id = id; destination = destination; is = refl }
for_first j (calls.Copy source_file source_id file id range source) e = absurd cc
for_first j (calls.OnFile file asks.Change) e = absurd cc
for_first j (calls.OnFile file (asks.Status id)) e = absurd cc
for_first j (calls.OnFile file (asks.Cancel id)) e = absurd cc
for_first j (calls.OnFile file (asks.Close id)) e = absurd cc
for_first j (calls.OnFile file (asks.Write id offset bytes)) e = absurd cc
for_first j (calls.OnFile file asks.Commit) e = absurd cc
for_first j (calls.OnFile file asks.ChangeAndSize) e = absurd cc
for_first j (calls.OnFile file (asks.Read id offset count)) e = absurd cc
for_first j calls.ReclaimComplete e = absurd cc
for_first j (calls.Open client owner name) e = absurd cc

pub record IsCopy (call : SlotCall) : Type 0 where
  pub source_file : List ℕ
  pub source_id : StateId
  pub file : List ℕ
  pub id : StateId
  pub range : CopyRange
  pub source : NetLoc
  pub is : call ≡ calls.Copy source_file source_id file id range source

pub for_copy : (j : ℕ) (call : SlotCall) → purpose_for j call ≡ ForCopy j → IsCopy call
for_copy j (calls.Copy source_file source_id file id range source) e =
    record { source_file = source_file; source_id = source_id; file = file; id = id; range = range; source = source; is = refl }
for_copy j (calls.Notify file id destination) e = absurd cc
for_copy j (calls.OnFile file asks.Change) e = absurd cc
for_copy j (calls.OnFile file (asks.Status id)) e = absurd cc
for_copy j (calls.OnFile file (asks.Cancel id)) e = absurd cc
for_copy j (calls.OnFile file (asks.Close id)) e = absurd cc
for_copy j (calls.OnFile file (asks.Write id offset bytes)) e = absurd cc
for_copy j (calls.OnFile file asks.Commit) e = absurd cc
for_copy j (calls.OnFile file asks.ChangeAndSize) e = absurd cc
for_copy j (calls.OnFile file (asks.Read id offset count)) e = absurd cc
for_copy j calls.ReclaimComplete e = absurd cc
for_copy j (calls.Open client owner name) e = absurd cc

pub record IsLast (call : SlotCall) : Type 0 where
  pub file : List ℕ
  pub is : call ≡ calls.OnFile file asks.Change

pub for_last : (j : ℕ) (call : SlotCall) → purpose_for j call ≡ ForLast j → IsLast call
for_last j (calls.OnFile file asks.Change) e = record { file = file; is = refl }
for_last j (calls.Copy source_file source_id file id range source) e = absurd cc
for_last j (calls.Notify file id destination) e = absurd cc
for_last j (calls.OnFile file (asks.Status id)) e = absurd cc
for_last j (calls.OnFile file (asks.Cancel id)) e = absurd cc
for_last j (calls.OnFile file (asks.Close id)) e = absurd cc
for_last j (calls.OnFile file (asks.Write id offset bytes)) e = absurd cc
for_last j (calls.OnFile file asks.Commit) e = absurd cc
for_last j (calls.OnFile file asks.ChangeAndSize) e = absurd cc
for_last j (calls.OnFile file (asks.Read id offset count)) e = absurd cc
for_last j calls.ReclaimComplete e = absurd cc
for_last j (calls.Open client owner name) e = absurd cc

pub record IsStatus (call : SlotCall) : Type 0 where
  pub file : List ℕ
  pub id : StateId
  pub is : call ≡ calls.OnFile file (asks.Status id)

pub for_status : (j : ℕ) (call : SlotCall) → purpose_for j call ≡ ForStatus j → IsStatus call
for_status j (calls.OnFile file (asks.Status id)) e = record { file = file; id = id; is = refl }
for_status j (calls.OnFile file asks.Change) e = absurd cc
for_status j (calls.Copy source_file source_id file id range source) e = absurd cc
for_status j (calls.Notify file id destination) e = absurd cc
for_status j (calls.OnFile file (asks.Cancel id)) e = absurd cc
for_status j (calls.OnFile file (asks.Close id)) e = absurd cc
for_status j (calls.OnFile file (asks.Write id offset bytes)) e = absurd cc
for_status j (calls.OnFile file asks.Commit) e = absurd cc
for_status j (calls.OnFile file asks.ChangeAndSize) e = absurd cc
for_status j (calls.OnFile file (asks.Read id offset count)) e = absurd cc
for_status j calls.ReclaimComplete e = absurd cc
for_status j (calls.Open client owner name) e = absurd cc

-- the same COPY_NOTIFY, asked of the file that is open
pub opened_same : (files : List OpenFile) (c : ClientCopy) (slot other : SlotUse) (call : SlotCall) (file : List ℕ) (id : StateId) (destination : NetLoc) → AsksOpen files c call
    → sequence_op slot ∷ slot_ops call ≡ sequence_op other ∷ slot_ops (calls.Notify file id destination) → IsOpened files c file
opened_same files c slot other (calls.Notify own id' destination') file id destination o e =
    let same : own ≡ file = cc in
    subst (IsOpened files c) same o
opened_same files c slot other calls.ReclaimComplete file id destination o e = absurd cc
opened_same files c slot other (calls.Open client owner name) file id destination o e = absurd cc
opened_same files c slot other (calls.OnFile own call) file id destination o e = absurd cc
opened_same files c slot other (calls.Copy source_file source_id own own_id range source) file id destination o e = absurd cc

-- ---- which answer it is

-- answers alone say so
abbrev is_answer : Event → Bool
is_answer (events.Granted known) = true
is_answer (events.Told change session) = true
is_answer (events.Progressed count complete sent_at) = true
is_answer _ = false

own_never : {A : Type 0} (event : Event) → is_own event ≡ true → is_answer event ≡ true → A
own_never (events.Opened side) own e = absurd cc
own_never events.Sent own e = absurd cc
own_never (events.Queried query) own e = absurd cc
own_never (events.Down side status) own e = absurd cc
own_never events.Allowed own e = absurd cc
own_never (events.Granted known) own e = absurd cc
own_never (events.Accepted id sent_at) own e = absurd cc
own_never (events.Told change session) own e = absurd cc
own_never (events.Refused why) own e = absurd cc
own_never (events.Progressed count complete sent_at) own e = absurd cc
own_never events.Cancelled own e = absurd cc
own_never (events.QueryRefused why) own e = absurd cc
own_never (events.Offloaded end) own e = absurd cc

pub record IsAnswer {M : Type 0} (ways : Ways) (turn : Turn) (c : ClientState M) (j : ℕ) (deed : Deed) : Type 0 where
  pub side : Side
  pub message : List ℕ
  pub now : ℕ
  pub turn_is : turn ≡ Hears side message now
  pub answered : IsAnswered ways side message now c j deed

pub answer_of : {M : Type 0} (ways : Ways) (turn : Turn) (c : ClientState M) (j : ℕ) (event : Event) → Cause ways turn c j event → is_answer event ≡ true
    → IsAnswer ways turn c j (deeds.Copy event)
answer_of ways turn c j event (ByItself event' own) e = own_never event own e
answer_of ways turn c j event (ByAnswer side message now event' turn_is answered) e = record { side = side; message = message; now = now; turn_is = turn_is; answered = answered }
answer_of ways turn c j event (ByAcceptance side message now id sent_at turn_is answered) e = absurd cc
answer_of ways turn c j event (ByHeld side message now id end turn_is answered held) e = absurd cc
answer_of ways turn c j event (ByCallback side message now id end turn_is named called) e = absurd cc

-- no answer is that a copy is accepted, but as one that starts it; nor does an answer report a copy
by_never : {A : Type 0} (o : Option Query) (id : StateId) (sent_at : ℕ) → By o (deeds.Copy (events.Accepted id sent_at)) → A
by_never None id sent_at b = absurd b
by_never (Some query) id sent_at b = absurd b

offloads_never : {A : Type 0} (o : Option Query) (end : OffloadEnd) → By o (deeds.Copy (events.Offloaded end)) → A
offloads_never None end b = absurd b
offloads_never (Some query) end b = absurd b

copied_by : (told : Told) (side : Side) (o : Option ClientCopy) (sent_at : ℕ) (d : Desk) (id : StateId) (at : ℕ) → copy_deed told side o sent_at d ≡ deeds.Copy (events.Accepted id at) → ⊥
copied_by told side None sent_at d id at e = absurd cc
copied_by told side (Some c) sent_at d id at e = by_never (query_of side c) id at (subst (By (query_of side c)) e (comes_by told side c sent_at d))

reported_by : (told : Told) (side : Side) (o : Option ClientCopy) (sent_at : ℕ) (d : Desk) (end : OffloadEnd) → copy_deed told side o sent_at d ≡ deeds.Copy (events.Offloaded end) → ⊥
reported_by told side None sent_at d end e = absurd cc
reported_by told side (Some c) sent_at d end e = offloads_never (query_of side c) end (subst (By (query_of side c)) e (comes_by told side c sent_at d))

pub copied_never : {M : Type 0} (ways : Ways) (turn : Turn) (c : ClientState M) (j : ℕ) (id : StateId) (at : ℕ) → IsAnswer ways turn c j (deeds.Copy (events.Accepted id at)) → ⊥
copied_never ways turn c j id at a = copied_by a.answered.found.told a.side (copy_in j (desk_heard ways a.side a.message a.now a.answered.found c)) a.answered.found.sent_at (desk_heard ways a.side a.message a.now a.answered.found c) id at a.answered.deed_is

pub reported_never : {M : Type 0} (ways : Ways) (turn : Turn) (c : ClientState M) (j : ℕ) (end : OffloadEnd) → IsAnswer ways turn c j (deeds.Copy (events.Offloaded end)) → ⊥
reported_never ways turn c j end a = reported_by a.answered.found.told a.side (copy_in j (desk_heard ways a.side a.message a.now a.answered.found c)) a.answered.found.sent_at (desk_heard ways a.side a.message a.now a.answered.found c) end a.answered.deed_is

-- ---- a copy's step awaits the answer of its server

pub calm_notify : (side : Side) → stage_creates side (Asked steps.Notify) ≡ false
calm_notify Source = refl
calm_notify Dest = refl

pub calm_copy : (side : Side) → stage_creates side (Asked steps.Copy) ≡ false
calm_copy Source = refl
calm_copy Dest = refl

pub calm_last : (side : Side) → stage_creates side (Asked steps.Last) ≡ false
calm_last Source = refl
calm_last Dest = refl

pub calm_past : (st : Stage) → is_past st ≡ true → stage_creates Dest st ≡ false
calm_past (Due step) e = refl
calm_past Accepted e = refl
calm_past (Over v) e = refl
calm_past (Asked steps.OpenSource) e = refl
calm_past (Asked steps.AllowSource) e = refl
calm_past (Asked steps.Notify) e = refl
calm_past (Asked steps.OpenDest) e = refl
calm_past (Asked steps.AllowDest) e = absurd cc
calm_past (Asked steps.Copy) e = refl
calm_past (Asked steps.OpenAgain) e = refl
calm_past (Asked steps.Last) e = refl

step_is : (a b : Step) (st : Stage) → st ≡ Asked a → st ≡ Asked b → a ≡ b
step_is a b st x y =
    let both : Asked a ≡ Asked b = sym x ∙ y in
    cc

-- ---- the root

record IsSession (s : Site) (session : Session) : Type 0 where
  context : Context
  is : root_context s.mount ≡ Some context
  same : session.root ≡ context.root

session_root : (up : Option (ℕ × List ℕ)) (o : Option Context) (session : Session) (s : Site) → root_context s.mount ≡ o → session_of up o ≡ Some session → IsSession s session
session_root None o session s is e = absurd cc
session_root (Some up) None session s is e = absurd cc
session_root (Some up) (Some context) session s is e =
    let same : ◌≡◌ {A = Session} (record { id = up.1; root = context.root }) session = cc in
    record { context = context; is = is; same = sym (ap (λ (x : Session). x.root) same) }

rooted_in : (st : Standing) (contexts : List Context) (context : Context) → named (root_name st) contexts ≡ Some context → mount_in st contexts ≡ Some (handle_named context.root)
rooted_in (Down kept) contexts context e = absurd cc
rooted_in (Rooted root) contexts context e = ap (λ (o : Option Context). root_seen (option_map face o)) e

heard_copies : {M : Type 0} (ways : Ways) (side : Side) (message : List ℕ) (now : ℕ) (found : Found) (c : ClientState M) → (desk_heard ways side message now found c).copies ≡ c.copies
heard_copies ways Source message now found c = refl
heard_copies ways Dest message now found c = refl

-- ---- an answer is to the call that stands at its place

-- what the laws below say
abbrev pub Coming : Type 0
Coming = (told : Told) (side : Side) (copy : Option ClientCopy) (sent_at : ℕ) (d : Desk) → ComesOf told side copy sent_at d (copy_deed told side copy sent_at d)

abbrev pub Taking : {M : Type 0} → Identity → ℕ → Purposes → Ways → Turn → ClientState M → Outbox → Type 0
Taking who boot purposes ways turn c out =
    (side : Side) (message : List ℕ) (now : ℕ) (found : Found) (reply : Reply) → turn ≡ Hears side message now → (taken ways.means message side (desk_at now c)).0 ≡ Some found
    → found.told ≡ tells.Answer reply → IsAnswerTaken who boot (purposes side) side turn message c out found.place reply

module _ {M : Type 0} (who : Identity) (boot : ℕ) (purposes : Purposes) (ways : Ways) (turn : Turn) (c : ClientState M) (out : Outbox) (x : IsCarried who boot purposes c)
    (reading : Reading) (coming : Coming) (taking : Taking who boot purposes ways turn c out) where
  -- a copy that there is hasn't the number 0
  pub some_copy : (j : ℕ) (own : ClientCopy) → copy_at j c.copies ≡ Some own → j ≡ 0 → ⊥
  some_copy j own is zero_is = none_some (copy_at 0 c.copies) own x.none_first (sym (ap (λ (k : ℕ). copy_at k c.copies) zero_is) ∙ is)

  pub heard_at : (j : ℕ) (deed : Deed) (a : IsAnswer ways turn c j deed) (own : ClientCopy) (reply : Reply) → copy_at j c.copies ≡ Some own → stage_creates a.side own.stage ≡ false
      → a.answered.found.told ≡ tells.Answer reply → IsHeard who boot purposes c turn out a.side j own a.message reply
  heard_at j deed a own reply is calm told_is =
      heard who boot purposes c x reading turn out a.side a.message j (some_copy j own is) own is calm reply
      (subst (λ (k : ℕ). IsAnswerTaken who boot (purposes a.side) a.side turn a.message c out k reply) a.answered.place
      (taking a.side a.message a.now a.answered.found reply a.turn_is a.answered.found_is told_is))

  -- what it comes to, by the copy
  pub comes_of : (j : ℕ) (deed : Deed) (a : IsAnswer ways turn c j deed)
      → ComesOf a.answered.found.told a.side (copy_in j (desk_heard ways a.side a.message a.now a.answered.found c)) a.answered.found.sent_at (desk_heard ways a.side a.message a.now a.answered.found c) deed
  comes_of j deed a =
      let d = desk_heard ways a.side a.message a.now a.answered.found c in
      subst (ComesOf a.answered.found.told a.side (copy_in j d) a.answered.found.sent_at d) a.answered.deed_is
      (coming a.answered.found.told a.side (copy_in j d) a.answered.found.sent_at d)

  pub own_at : (j : ℕ) (deed : Deed) (a : IsAnswer ways turn c j deed) (own : ClientCopy) → copy_in j (desk_heard ways a.side a.message a.now a.answered.found c) ≡ Some own
      → copy_at j c.copies ≡ Some own
  own_at j deed a own is = ap (copy_at j) (sym (heard_copies ways a.side a.message a.now a.answered.found c)) ∙ is

  by_at : (j : ℕ) (deed : Deed) (a : IsAnswer ways turn c j deed) (own : ClientCopy) → copy_in j (desk_heard ways a.side a.message a.now a.answered.found c) ≡ Some own
      → By (query_of a.side own) deed
  by_at j deed a own is =
      let d = desk_heard ways a.side a.message a.now a.answered.found c in
      subst (By (query_of a.side own))
      (ap (λ (o : Option ClientCopy). copy_deed a.answered.found.told a.side o a.answered.found.sent_at d) (sym is) ∙ a.answered.deed_is)
      (comes_by a.answered.found.told a.side own a.answered.found.sent_at d)

  -- the answer to a step's call comes from the step's server
  pub side_at : (j : ℕ) (deed : Deed) (a : IsAnswer ways turn c j deed) (own : ClientCopy) (step : Step) (message : List ℕ) (reply : Reply)
      → copy_in j (desk_heard ways a.side a.message a.now a.answered.found c) ≡ Some own → own.stage ≡ Asked step → ((query : Query) → By (Some query) deed → ⊥)
      → IsHeard who boot purposes c turn out a.side j own message reply → a.side ≡ side_of step
  side_at j deed a own step message reply is stage unqueried h = by h.fits.waits
    where
      by : Waits a.side own ⊎ ((query : Query) × (query_of a.side own ≡ Some query)) → a.side ≡ side_of step
      by (inl w) = sym w.here ∙ ap side_of (step_is w.step step own.stage w.asked stage)
      by (inr q) = absurd (unqueried q.0 (subst (λ (o : Option Query). By o deed) q.1 (by_at j deed a own is)))

  -- the session in which the source answers is under the root that is mounted
  pub mounted_at : (j : ℕ) (message : List ℕ) (now : ℕ) (found : Found) (reply : Reply) (session : Session) (own : ClientCopy)
      → (taken ways.means message Source (desk_at now c)).0 ≡ Some found → found.place ≡ j → found.told ≡ tells.Answer reply → reply.status.number ≡ 0
      → IsHeard who boot purposes c turn out Source j own message reply → session_at (desk_heard ways Source message now found c).source ≡ Some session
      → (seen boot purposes Source c).mount ≡ Some (handle_named session.root)
  mounted_at j message now found reply session own is place told_is ok h session_is = by (finds ways.means message all_places c.source.mount)
    where
      by : Finds ways.means message c.source.mount (found_at ways.means message all_places c.source.mount)
          → (seen boot purposes Source c).mount ≡ Some (handle_named session.root)
      by (inl unfound) = none_some ((found_at ways.means message all_places c.source.mount).0) found unfound.0 is
      by (inr f) =
          let m = c.source.mount in
          let same = some_is f.found found (sym f.is ∙ is) in
          let at_j = ap (λ (k : Found). k.place) same ∙ place in
          let told = ap (λ (k : ℕ). (taken_at ways.means k message m).0.told) (sym at_j) ∙ f.told ∙ ap (λ (k : Found). k.told) same ∙ told_is in
          let left = f.mount ∙ ap (λ (k : ℕ). (taken_at ways.means k message m).1) at_j ∙ slot_told ways.means j message m reply (not_lost reply ok) h.context h.asking h.there told in
          let s : Site = record c.source { mount = (found_at ways.means message all_places m).1 } in
          let u = session_root (up_in (setup_in s.mount.standing)) (root_context s.mount) session s refl session_is in
          let here : named (root_name m.standing) m.contexts ≡ Some u.context = sym (ap (λ (k : Mounted). root_context k) left) ∙ u.is in
          rooted_in m.standing m.contexts u.context here ∙ ap (λ (r : List ℕ). Some (handle_named r)) (sym u.same)
