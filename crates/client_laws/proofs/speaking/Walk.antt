-- All that a client does of itself leaves what is awaited at each place.
use Rattle.std.proofs.Common.{◌≡◌, ◌∙◌, ℕ, ◌<◌, Bool, true, false, List, [], ◌∷◌, ◌++◌, length, Option, Some, None, refl, sym, ap, subst, inl, inr, lit<, arith}
use Rattle.std.specs.Prelude.{find, nat_lt, not, ◌==◌, ◌&&◌}
use Rattle.std.specs.List.{AllByRecursion}
use Rattle.std.specs.Option.{option_or}
use Rattle.std.proofs.lemmas.Bool.{ltb-true}
use Rattle.std.proofs.lemmas.List.Folds.{find-append}
use Rattle.caller_laws.specs.OneStep.Counting.{Counted}
use Rattle.client_copies.specs.Copies.{asking as asking_of, asking_by, due, is_overdue, is_ready, side_of}
use Rattle.client_copies.specs.Steps.{after}
use Rattle.client_copies.specs.Table.{Copies, copy_at, said_of, told_at}
use Rattle.client_copies.specs.declared.copy.Asking.{Asking}
use Rattle.client_copies.specs.declared.copy.Asking.TheVariants as asking
use Rattle.client_copies.specs.declared.copy.ClientCopy.{ClientCopy}
use Rattle.client_copies.specs.declared.copy.First.{First}
use Rattle.client_copies.specs.declared.copy.Query.{Query}
use Rattle.client_copies.specs.declared.copy.Query.TheVariants as queries
use Rattle.client_copies.specs.declared.copy.Stage.{Stage}
use Rattle.client_copies.specs.declared.copy.Stage.TheVariants.{Due, Asked, Accepted, Over}
use Rattle.client_copies.specs.declared.copy.Step.{Step}
use Rattle.client_copies.specs.declared.copy.Step.TheVariants as steps
use Rattle.client_copies.specs.declared.event.Event.{Event}
use Rattle.client_copies.specs.declared.event.Event.TheVariants as events
use Rattle.client_copies.specs.declared.told.Said.{Said}
use Rattle.client_copies.specs.declared.told.Said.TheVariants.{Nothing, One, Two}
use Rattle.client_core.specs.Commands as core
use Rattle.client_laws.proofs.speaking.Clearing.{gone_placed}
use Rattle.client_laws.proofs.speaking.Desks.{SparedAt, SparesOther, again_sent, at_side, begin_sent, call_sent, create_then, reclaim_sent, slot_then, step_sent, tells, then_told, told_placed, with_placed, source_apart, dest_apart}
use Rattle.client_laws.proofs.speaking.Leaving.{Leaves, asks_stays, event_leaves, queried_is, queried_leaves, sent_is, sent_leaves}
use Rattle.client_laws.specs.Speaking.Places.{AllPlaced, AsksOpen, FitsOwn, IsOpened, IsPlaced}
use Rattle.client_site.specs.Sending.{back_channel, may_begin}
use Rattle.client_site.specs.Sites.{file_at, with_file}
use Rattle.client_site.specs.declared.site.OpenFile.{OpenFile}
use Rattle.client_site.specs.declared.site.Site.{Site}
use Rattle.client_steps.specs.Acting as acts
use Rattle.client_steps.specs.Acting.{Acting, GoesOnAt, GoesOn, IsDrawnOn, downs_told, on_desk, with_desk}
use Rattle.client_steps.specs.Answers.{stage_creates}
use Rattle.client_steps.specs.Calling as calling
use Rattle.client_steps.specs.Commands as commands
use Rattle.client_steps.specs.Commands.{copies_again as copies_again_of, ticked}
use Rattle.client_steps.specs.CopySteps as copying
use Rattle.client_steps.specs.CopySteps.{all_copies}
use Rattle.client_steps.specs.Desks.{noted, said_by, send_at, site_at, told_to}
use Rattle.client_steps.specs.Replies as replies
use Rattle.client_steps.specs.Setting as setting
use Rattle.client_steps.specs.declared.copy_steps.Openings.{Openings}
use Rattle.client_steps.specs.declared.desk.Desk.{Desk}
use Rattle.client_steps.specs.declared.setting.Setting.{Setting}
use Rattle.copy_privs.specs.declared.privilege.Privilege.{Privilege}
use Rattle.file_ops.specs.declared.operation.TheConstants.{OP_CREATE_SESSION, OP_EXCHANGE_ID}
use Rattle.gss_ctx.specs.Seals.{Mic}
use Rattle.mount.specs.State.{is_setting_up, setup_in}
use Rattle.mount.specs.declared.calling.Under.TheVariants as unders
use Rattle.mount.specs.declared.calling.Under.{Under}
use Rattle.mount.specs.declared.state.Aim.TheVariants as aims
use Rattle.mount.specs.declared.state.Pending.{Pending}
use Rattle.mount.specs.declared.state.Pending.TheVariants as pendings
use Rattle.mount.specs.declared.state.TheConstants.{PLACES}
use Rattle.nfs_base.specs.declared.side.Side.{Side}
use Rattle.nfs_base.specs.declared.side.Side.TheVariants.{Source, Dest}
use Rattle.nfs_base.specs.declared.state_id.StateId.{StateId}
use Rattle.nfs_base.specs.declared.status.Status.{Status}
use Rattle.nfs_base.specs.declared.status.TheConstants.Status as statuses
use Rattle.outbox.specs.declared.label.CallLabel.{CallLabel}
use Rattle.outbox.specs.declared.label.CallLabel.TheVariants as labels
use Rattle.outbox.specs.declared.note.Note.{Note}
use Rattle.session_calls.specs.Calls.{slot_compound}
use Rattle.session_calls.specs.declared.slot_call.SlotCall.{SlotCall}
use Rattle.session_calls.specs.declared.slot_call.SlotCall.TheVariants as calls
use Rattle.session_calls.specs.declared.slot_call.SlotUse.{SlotUse}
use Rattle.session_client.specs.Pending.{Asking as AskingCall}
use Rattle.session_client.specs.declared.asked.Asked.TheVariants.{Compound}
use Rattle.session_client.specs.declared.setup.Setup.{Setup}
use Rattle.session_client.specs.declared.setup.Setup.TheVariants as setups
use Rattle.streams.specs.declared.draws.Drawn.{Drawn}
use Rattle.streams.specs.declared.draws.Drawn.TheVariants.{Got, Failed}
use Rattle.write_queue.specs.Queue.{refusals}
use Rattle.write_queue.specs.Steps.{after as queue_after}
use Rattle.write_queue.specs.declared.work.Line.{Line}
use Rattle.write_queue.specs.declared.work.QueueEvent.{QueueEvent}
use Rattle.write_queue.specs.declared.work.Work.{Work}

abbrev pub ArePlaces : List ℕ → Type 0
ArePlaces js = AllByRecursion (λ j. (0 < j) × (j < PLACES)) js

pub copies_are : ArePlaces all_copies
copies_are = (
  (lit< tt, lit< tt),
  (
    (lit< tt, lit< tt),
    (
      (lit< tt, lit< tt),
      (
        (lit< tt, lit< tt),
        (
          (lit< tt, lit< tt),
          (
            (lit< tt, lit< tt),
            (
              (lit< tt, lit< tt),
              (
                (lit< tt, lit< tt),
                ((lit< tt, lit< tt), ((lit< tt, lit< tt), ((lit< tt, lit< tt), ((lit< tt, lit< tt), ((lit< tt, lit< tt), ((lit< tt, lit< tt), ((lit< tt, lit< tt), tt))))))),
              ),
            ),
          ),
        ),
      ),
    ),
  ),
)

some_copy : (x y : ClientCopy) (o : Option ClientCopy) → o ≡ Some x → o ≡ Some y → x ≡ y
some_copy x y o a b =
    let both : Some x ≡ Some y = sym a ∙ b in
    cc

-- what this copy awaits is spared
pub spared : (side : Side) (s : Site) (t : Copies) (j : ℕ) (event : Event) (c : ClientCopy) → copy_at j t ≡ Some c → Leaves side c (after event c).1 → SparedAt side s t j event
spared side s t j event c is leaves = λ d at. inr (subst (λ (k : ClientCopy). Leaves side k (after event k).1) (some_copy c d (copy_at j t) is at) leaves)

due_is : (st : Stage) (step : Step) → due st ≡ Some step → st ≡ Due step
due_is (Due s) step e = cc
due_is (Asked s) step e = absurd cc
due_is Accepted step e = absurd cc
due_is (Over v) step e = absurd cc

-- ---- what a call asks for is open

abbrev IfCall : (SlotCall → Type 0) → Option SlotCall → Type 0
IfCall P None = Unit {0}
IfCall P (Some call) = P call

open_asks : (files : List OpenFile) (c : ClientCopy) (me : List ℕ) (file : ℕ) (o : Option (ℕ × List ℕ)) → IfCall (AsksOpen files c) (setting.open_by me file o)
open_asks files c me file None = tt
open_asks files c me file (Some up) = tt

notify_asks : {M : Type 0} (s : Setting M) (c : ClientCopy) (site : Site) (o : Option OpenFile) → file_at c.spec.src_file site ≡ o → IfCall (AsksOpen site.files c) (setting.notify_of s o)
notify_asks s c site None is = tt
notify_asks s c site (Some opened) is = record { opened = opened; opened_is = is; handle = refl }

copy_with_asks : {M : Type 0} (s : Setting M) (files : List OpenFile) (c : ClientCopy) (opened : OpenFile) (o : Option First) → IfCall (AsksOpen files c) (setting.copy_with s c opened o)
copy_with_asks s files c opened None = tt
copy_with_asks s files c opened (Some known) = tt

copy_asks_open : {M : Type 0} (s : Setting M) (files : List OpenFile) (c : ClientCopy) (o : Option OpenFile) → IfCall (AsksOpen files c) (setting.copy_of s c o)
copy_asks_open s files c None = tt
copy_asks_open s files c (Some opened) = copy_with_asks s files c opened c.first

last_asks : (files : List OpenFile) (c : ClientCopy) (o : Option First) → IfCall (AsksOpen files c) (setting.last_of o)
last_asks files c None = tt
last_asks files c (Some known) = tt

query_asks : (files : List OpenFile) (c : ClientCopy) (query : Query) (id : Option StateId) (o : Option OpenFile) → IfCall (AsksOpen files c) (commands.query_with query id o)
query_asks files c queries.Status (Some id) (Some opened) = tt
query_asks files c queries.Cancel (Some id) (Some opened) = tt
query_asks files c queries.Status (Some id) None = tt
query_asks files c queries.Cancel (Some id) None = tt
query_asks files c queries.Status None o = tt
query_asks files c queries.Cancel None o = tt

-- ---- a file comes to be open

opened_more : (files : List OpenFile) (one : OpenFile) (c : ClientCopy) (file : List ℕ) → IsOpened files c file → IsOpened (files ++ one ∷ []) c file
opened_more files one c file o = record {
  opened = o.opened;
  opened_is =
      find-append (λ (f : OpenFile). f.file == c.spec.src_file) files (one ∷ [])
      ∙ ap (λ (x : Option OpenFile). option_or x (find (λ (f : OpenFile). f.file == c.spec.src_file) (one ∷ []))) o.opened_is;
  handle = o.handle;
}

asks_more : (files : List OpenFile) (one : OpenFile) (c : ClientCopy) (call : SlotCall) → AsksOpen files c call → AsksOpen (files ++ one ∷ []) c call
asks_more files one c (calls.Notify file id destination) o = opened_more files one c file o
asks_more files one c calls.ReclaimComplete o = tt
asks_more files one c (calls.Open client owner name) o = tt
asks_more files one c (calls.OnFile file call) o = tt
asks_more files one c (calls.Copy source_file source_id file id range source) o = tt

own_more : (side : Side) (files : List OpenFile) (one : OpenFile) (c : ClientCopy) (p : Pending) → FitsOwn side files c p → FitsOwn side (files ++ one ∷ []) c p
own_more side files one c (pendings.Init init) f = f
own_more side files one c (pendings.Under context aims.Setup asking) f = f
own_more side files one c (pendings.Under context aims.Slot asking) f = record {
  waits = f.waits;
  no_create = f.no_create;
  slot = f.slot;
  call = f.call;
  asked_is = f.asked_is;
  opened = asks_more files one c f.call f.opened;
}
own_more side files one c (pendings.Under context (aims.Child child) asking) f = f
own_more side files one c (pendings.Under context aims.End asking) f = f

file_placed : (side : Side) (s : Site) (t : Copies) (one : OpenFile) → IsPlaced side s t → IsPlaced side (with_file one s) t
file_placed side s t one x = record {
  many = x.many;
  up = x.up;
  down = x.down;
  first = x.first;
  others = λ j some p is. let f = x.others j some p is in record { own = f.own; own_is = f.own_is; fits = own_more side s.files one f.own p f.fits };
}

pub file_added : (side : Side) (one : OpenFile) (d : Desk) → AllPlaced d → AllPlaced (replies.file_added side one d)
file_added side one d x = with_placed side (with_file one (site_at side d)) d x (file_placed side (site_at side d) d.copies one (at_side side d x))

-- ---- what changes nothing at a place

back_placed : (side : Side) (s : Site) (t : Copies) (back : Option ℕ) → IsPlaced side s t → IsPlaced side (record s { back = back }) t
back_placed side s t back x = record { many = x.many; up = x.up; down = x.down; first = x.first; others = x.others }

made_placed : (free : Option ℕ) (root : Option (List ℕ × List ℕ)) (side : Side) (d : Desk) → AllPlaced d → AllPlaced (replies.back_made free root side d)
made_placed None root side d x = x
made_placed (Some number) None side d x = x
made_placed (Some number) (Some root) Source d x = record { source = back_placed Source d.source d.copies (Some number) x.source; dest = x.dest }
made_placed (Some number) (Some root) Dest d x = record { source = x.source; dest = back_placed Dest d.dest d.copies (Some number) x.dest }

ended_placed : (o : Option ℕ) (d : Desk) → AllPlaced d → AllPlaced (acts.back_ended o d)
ended_placed None d x = x
ended_placed (Some number) d x = record { source = x.source; dest = x.dest }

pub note_placed : (note : Note) (d : Desk) → AllPlaced d → AllPlaced (noted note d)
note_placed note d x = record { source = x.source; dest = x.dest }

line_placed : (side : Side) (o : Option Line) (d : Desk) → AllPlaced d → AllPlaced (acts.line_noted side o d)
line_placed side None d x = x
line_placed side (Some line) d x = record { source = x.source; dest = x.dest }

lines_placed : (side : Side) (lines : List Line) (d : Desk) → AllPlaced d → AllPlaced (acts.lines_noted side lines d)
lines_placed side [] d x = x
lines_placed side (line ∷ more) d x = lines_placed side more (noted (acts.line_note side line) d) (record { source = x.source; dest = x.dest })

pub queue_placed : (side : Side) (event : QueueEvent) (a : Acting) → AllPlaced a.desk → AllPlaced (acts.queue_told side event a).desk
queue_placed side event a x = line_placed side (queue_after event (acts.queue_at side a)).0 a.desk x

-- ---- a setup goes down: the other server's side is as it should be

abbrev pub Half : Side → Desk → Type 0
Half Source d = (length d.source.mount.places ≡ PLACES) × IsPlaced Dest d.dest d.copies
Half Dest d = (length d.dest.mount.places ≡ PLACES) × IsPlaced Source d.source d.copies

pub half_of : (side : Side) (d : Desk) → AllPlaced d → Half side d
half_of Source d x = (x.source.many, x.dest)
half_of Dest d x = (x.dest.many, x.source)

half_same : (side : Side) (d e : Desk) → e.source ≡ d.source → e.dest ≡ d.dest → e.copies ≡ d.copies → Half side d → Half side e
half_same side d e source dest copies h =
    by side (subst (λ (t : Copies). Half side (record d { copies = t })) (sym copies) h)
  where
    by : (side : Side) → Half side (record d { copies = e.copies }) → Half side e
    by Source h =
        (ap (λ (s : Site). length s.mount.places) source ∙ h.0, subst (λ (s : Site). IsPlaced Dest s e.copies) (sym dest) h.1)
    by Dest h =
        (ap (λ (s : Site). length s.mount.places) dest ∙ h.0, subst (λ (s : Site). IsPlaced Source s e.copies) (sym source) h.1)

abbrev SameParts : Desk → Desk → Type 0
SameParts d e = (e.source ≡ d.source) × (e.dest ≡ d.dest) × (e.copies ≡ d.copies)

said_same : (j : ℕ) (said : Said) (d : Desk) → SameParts d (said_by j said d)
said_same j Nothing d = (refl, refl, refl)
said_same j (One word) d = (refl, refl, refl)
said_same j (Two first second) d = (refl, refl, refl)

half_told : (side : Side) (status : Status) (j : ℕ) (d : Desk) → Half side d → Half side (told_to j (events.Down side status) d)
half_told side status j d h =
    let e : Desk = record d { copies = (told_at j (events.Down side status) d.copies).1 } in
    let said = said_of (events.Down side status) (copy_at j d.copies) in
    let same = said_same j said e in
    half_same side e (told_to j (events.Down side status) d) same.0 same.1 same.2 (by side h)
  where
    by : (side : Side) → Half side d → Half side (record d { copies = (told_at j (events.Down side status) d.copies).1 })
    by Source h = (h.0, told_placed Dest d.dest d.copies j (events.Down Source status) h.1 (λ c is. inr (event_leaves Dest (events.Down Source status) c source_apart)))
    by Dest h = (h.0, told_placed Source d.source d.copies j (events.Down Dest status) h.1 (λ c is. inr (event_leaves Source (events.Down Dest status) c dest_apart)))

half_downs : (side : Side) (status : Status) (js : List ℕ) (d : Desk) → Half side d → Half side (downs_told side status js d)
unfolding downs_told
half_downs side status [] d h = h
half_downs side status (j ∷ js) d h = half_downs side status js (told_to j (events.Down side status) d) (half_told side status j d h)

half_lines : (side there : Side) (lines : List Line) (d : Desk) → Half side d → Half side (acts.lines_noted there lines d)
half_lines side there [] d h = h
half_lines side there (line ∷ more) d h =
    half_lines side there more (noted (acts.line_note there line) d) (half_same side d (noted (acts.line_note there line) d) refl refl refl h)

site_down : (side : Side) (d : Desk) → Half side d → AllPlaced (acts.site_goes_down side d)
site_down Source d h = ended_placed d.source.back (acts.site_falls Source d) (record { source = gone_placed Source d.source d.copies h.0; dest = h.1 })
site_down Dest d h = ended_placed d.dest.back (acts.site_falls Dest d) (record { source = h.1; dest = gone_placed Dest d.dest d.copies h.0 })

pub goes_down : (side : Side) (status : Status) (a : Acting) → Half side a.desk → AllPlaced (acts.goes_down side status a).desk
goes_down side status a h =
    let b = on_desk (downs_told side status all_copies) a in
    site_down side (acts.all_refused side status b).desk
    (half_lines side side (refusals status (acts.queue_at side b)) b.desk (half_downs side status all_copies a.desk h))

-- ---- the calls of copies

module _ (mic : Mic) (counted : Counted) where
  -- a call in a copy's slot
  call_then : (there : Side) (j : ℕ) (d : Desk) (event : Event) (c own : ClientCopy) → AllPlaced d → copy_at j d.copies ≡ Some c → (after event c).1 ≡ own → j < PLACES
      → SparesOther there d.copies j event → (under : Under) (o : Option SlotCall)
      → IfCall (λ call. (context : ℕ) (asking : AskingCall) (slot : SlotUse) → asking.asked ≡ Compound (slot_compound slot call)
      → FitsOwn there (site_at there d).files own (pendings.Under context aims.Slot asking)) o
      → AllPlaced (then_told (calling.call_sent mic there j under o d).0 j event (calling.call_sent mic there j under o d).1)
  call_then there j d event c own x is becomes within spares under None fits = x
  call_then there j d event c own x is becomes within spares under (Some call) fits = slot_then mic counted there j d event c own x is becomes within spares under call fits

  if_fits : (P Q : SlotCall → Type 0) → ((call : SlotCall) → P call → Q call) → (o : Option SlotCall) → IfCall P o → IfCall Q o
  if_fits P Q wider None p = tt
  if_fits P Q wider (Some call) p = wider call p

  -- the call of a step
  module _ (j : ℕ) (c : ClientCopy) (d : Desk) (x : AllPlaced d) (is : copy_at j d.copies ≡ Some c) (within : (0 < j) × (j < PLACES)) where
    spares_step : (step : Step) → due c.stage ≡ Some step → SparesOther (side_of step) d.copies j events.Sent
    spares_step step at side apart e there =
        subst (λ (k : ClientCopy). Leaves side k (after events.Sent k).1) (some_copy c e (copy_at j d.copies) is there) (sent_leaves side c step (due_is c.stage step at) apart)

    slot_step : (step : Step) (under : Under) (o : Option SlotCall) → due c.stage ≡ Some step → stage_creates (side_of step) (Asked step) ≡ false
        → IfCall (AsksOpen (site_at (side_of step) d).files c) o
        → AllPlaced (then_told (calling.call_sent mic (side_of step) j under o d).0 j events.Sent (calling.call_sent mic (side_of step) j under o d).1)
    slot_step step under o at no_create asks =
        let own : ClientCopy = record c { stage = Asked step } in
        let files = (site_at (side_of step) d).files in
        call_then (side_of step) j d events.Sent c own x is (sent_is c step (due_is c.stage step at)) within.1 (spares_step step at) under o
        (if_fits (AsksOpen files c) _
        (λ call asked context asking slot asked_is.
        record {
          waits = inl (record { step = step; asked = refl; here = refl });
          no_create = no_create;
          slot = slot;
          call = call;
          asked_is = asked_is;
          opened = asks_stays files c own call refl asked;
        }) o asks)

    create_step : (step : Step) (p : Privilege) → due c.stage ≡ Some step → stage_creates (side_of step) (Asked step) ≡ true
        → AllPlaced (then_told (calling.create_sent mic (side_of step) j p d).0 j events.Sent (calling.create_sent mic (side_of step) j p d).1)
    create_step step p at creates =
        let own : ClientCopy = record c { stage = Asked step } in
        let low = within.0 in
        create_then mic counted (side_of step) j d events.Sent c own x is (sent_is c step (due_is c.stage step at)) within.1 (spares_step step at) _ p
        (λ zero_is. absurd (omega arith)) (λ context asking. (creates, record { step = step; asked = refl; here = refl }))

    step_call : {M : Type 0} (s : Setting M) (step : Step) → due c.stage ≡ Some step
        → AllPlaced (then_told (copying.step_call s mic step j c d).0 j events.Sent (copying.step_call s mic step j c d).1)
    step_call s steps.OpenSource at = slot_step steps.OpenSource unders.Root _ at refl (open_asks d.source.files c s.me c.spec.src_file _)
    step_call s steps.OpenAgain at = slot_step steps.OpenAgain unders.Root _ at refl (open_asks d.source.files c s.me c.spec.src_file _)
    step_call s steps.OpenDest at = slot_step steps.OpenDest unders.Root _ at refl (open_asks d.dest.files c s.me c.spec.dst_file _)
    step_call s steps.AllowSource at = create_step steps.AllowSource (setting.privilege_at s Source c.secret) at refl
    step_call s steps.AllowDest at = create_step steps.AllowDest (setting.privilege_at s Dest c.secret) at refl
    step_call s steps.Notify at = slot_step steps.Notify (unders.Child j) _ at refl (notify_asks s c d.source _ refl)
    step_call s steps.Copy at = slot_step steps.Copy (unders.Child j) _ at refl (copy_asks_open s d.dest.files c _)
    step_call s steps.Last at = slot_step steps.Last unders.Root _ at refl (last_asks d.source.files c c.first)

    asked_if : {M : Type 0} (b : Bool) (s : Setting M) (step : Step) → due c.stage ≡ Some step
        → AllPlaced (then_told (copying.asked_if b s mic step j c d).0 j events.Sent (copying.asked_if b s mic step j c d).1)
    asked_if true s step at = step_call s step at
    asked_if false s step at = x

  sent_as : (b : Bool) (j : ℕ) (d : Desk) → AllPlaced (then_told b j events.Sent d) → AllPlaced (copying.sent_if b j d)
  sent_as true j d x = x
  sent_as false j d x = x

  asks_step : {M : Type 0} (s : Setting M) (o : Openings) (j : ℕ) (c : ClientCopy) (next : Option Step) (d : Desk) → AllPlaced d → copy_at j d.copies ≡ Some c → due c.stage ≡ next
      → (0 < j) × (j < PLACES) → AllPlaced (copying.asks_step s mic o j c next d)
  asks_step s o j c None d x is at within = x
  asks_step s o j c (Some step) d x is at within =
      let b = copying.may_ask o step c d in
      let e = copying.asked_if b s mic step j c d in
      sent_as e.0 j e.1 (asked_if j c d x is within b s step at)

  copy_asks : {M : Type 0} (s : Setting M) (o : Openings) (j : ℕ) (copy : Option ClientCopy) (d : Desk) → AllPlaced d → copy_at j d.copies ≡ copy → (0 < j) × (j < PLACES)
      → AllPlaced (copying.copy_asks s mic o j copy d)
  copy_asks s o j None d x is within = x
  copy_asks s o j (Some c) d x is within = asks_step s o j c (due c.stage) d x is refl within

  opened_if : (b : Bool) (j : ℕ) (there : Side) (c : ClientCopy) (step : Step) (d : Desk) → AllPlaced d → copy_at j d.copies ≡ Some c → c.stage ≡ Due step
      → AllPlaced (copying.opened_if b j there d)
  opened_if false j there c step d x is at = x
  opened_if true j there c step d x is at =
      let idle : (side : Side) (other : Step) → c.stage ≡ Asked other → side_of other ≡ side → ⊥ = λ side other e here.
      let both : Due step ≡ Asked other = sym at ∙ e in
      absurd cc in
      tells j (events.Opened there) d x
      (spared Source d.source d.copies j (events.Opened there) c is (event_leaves Source (events.Opened there) c (inl (idle Source))))
      (spared Dest d.dest d.copies j (events.Opened there) c is (event_leaves Dest (events.Opened there) c (inl (idle Dest))))

  finds_open : (j : ℕ) (c : ClientCopy) (o : Option Step) (d : Desk) → AllPlaced d → copy_at j d.copies ≡ Some c → due c.stage ≡ o → AllPlaced (copying.finds_open j c o d)
  finds_open j c None d x is at = x
  finds_open j c (Some step) d x is at = opened_if (copying.is_open step c d) j (side_of step) c step d x is (due_is c.stage step at)

  copy_finds_open : (j : ℕ) (o : Option ClientCopy) (d : Desk) → AllPlaced d → copy_at j d.copies ≡ o → AllPlaced (copying.copy_finds_open j o d)
  copy_finds_open j None d x is = x
  copy_finds_open j (Some c) d x is = finds_open j c (due c.stage) d x is refl

  copy_goes_on : {M : Type 0} (s : Setting M) (o : Openings) (j : ℕ) (d : Desk) → AllPlaced d → (0 < j) × (j < PLACES) → AllPlaced (copying.copy_goes_on s mic o j d)
  copy_goes_on s o j d x within =
      let e = copying.copy_finds_open j (copy_at j d.copies) d in
      copy_asks s o j (copy_at j e.copies) e (copy_finds_open j (copy_at j d.copies) d x refl) refl within

  copies_go_on : {M : Type 0} (s : Setting M) (o : Openings) (js : List ℕ) (d : Desk) → AllPlaced d → ArePlaces js → AllPlaced (copying.copies_go_on s mic o js d)
  copies_go_on s o [] d x within = x
  copies_go_on s o (j ∷ js) d x within = copies_go_on s o js (copying.copy_goes_on s mic o j d) (copy_goes_on s o j d x within.0) within.1

  -- ---- writes and commits

  told_if : (b : Bool) (there : Side) (event : QueueEvent) (a : Acting) → AllPlaced a.desk → AllPlaced (acts.told_if b there event a).desk
  told_if true there event a x = queue_placed there event a x
  told_if false there event a x = x

  called_for : (there : Side) (o : Option SlotCall) (event : QueueEvent) (a : Acting) → AllPlaced a.desk → AllPlaced (acts.called_for mic there o event a).desk
  called_for there o event a x =
      let e = calling.call_sent mic there 0 unders.Root o a.desk in
      told_if e.0 there event (with_desk e.1 a) (call_sent mic counted there unders.Root o a.desk x)

  open_if : {M : Type 0} (b : Bool) (s : Setting M) (there : Side) (file : ℕ) (a : Acting) → AllPlaced a.desk → AllPlaced (acts.open_if b s mic there file a).desk
  open_if true s there file a x = x
  open_if false s there file a x = called_for there _ _ a x

  work_sent : {M : Type 0} (s : Setting M) (there : Side) (work : Work) (o : Option OpenFile) (a : Acting) → AllPlaced a.desk → AllPlaced (acts.work_sent s mic there work o a).desk
  work_sent s there work None a x = open_if _ s there _ a x
  work_sent s there work (Some opened) a x = called_for there _ _ a x

  work_due : {M : Type 0} (s : Setting M) (there : Side) (o : Option Work) (a : Acting) → AllPlaced a.desk → AllPlaced (acts.work_due s mic there o a).desk
  work_due s there None a x = x
  work_due s there (Some work) a x = work_sent s there work _ a x

  work_if : {M : Type 0} (b : Bool) (s : Setting M) (there : Side) (a : Acting) → AllPlaced a.desk → AllPlaced (acts.work_if b s mic there a).desk
  work_if true s there a x = work_due s there _ a x
  work_if false s there a x = x

  queue_goes_on : {M : Type 0} (s : Setting M) (there : Side) (a : Acting) → AllPlaced a.desk → AllPlaced (acts.queue_goes_on s mic there a).desk
  queue_goes_on s there a x = work_if _ s there a x

  all_go_on : {M : Type 0} (s : Setting M) (a : Acting) → AllPlaced a.desk → AllPlaced (acts.all_go_on s mic a).desk
  all_go_on s a x =
      let b = acts.queue_goes_on s mic Source a in
      let c = acts.queue_goes_on s mic Dest b in
      copies_go_on s (acts.openings c) all_copies c.desk (queue_goes_on s Dest b (queue_goes_on s Source a x)) copies_are

  -- ---- a setup begins

  begins_if : (b : Bool) (nonce : List ℕ) (token : Option (List ℕ)) (there : Side) (a : Acting) → may_begin (send_at 0 a.desk) (site_at there a.desk).mount ≡ b → AllPlaced a.desk
      → AllPlaced (acts.begins_if b nonce token there a).desk
  begins_if false nonce token there a may x = x
  begins_if true nonce None there a may x =
      let e = calling.begin_sent nonce None there a.desk in
      goes_down there statuses.ACCESS (with_desk e.1 a) (half_of there e.1 (with_placed there (site_at there a.desk) a.desk x (at_side there a.desk x)))
  begins_if true nonce (Some token) there a may x = begin_sent mic counted nonce token there a.desk may x

  goes_at : {M W : Type 0} (o : Option Side) (s : Setting M) (started : List ℕ → Option (List ℕ)) (gives : W → Drawn → W → Type 0) (a : Acting) (v w : W) (to : Acting)
      → GoesOnAt o s mic started gives a v w (Some to) → AllPlaced a.desk → AllPlaced to.desk
  goes_at None s started gives a v w to e x =
      let now = e.0 in
      let is : to ≡ acts.all_go_on s mic a = cc in
      subst (λ (k : Acting). AllPlaced k.desk) (sym is) (all_go_on s a x)
  goes_at (Some there) s started gives a v w to e x = by e.0 e.2
    where
      by : (drawn : Drawn) → IsDrawnOn s mic started there drawn a (Some to) → AllPlaced to.desk
      by (Got nonce) on =
          let b = acts.begins nonce (started nonce) there a in
          let is : to ≡ acts.all_go_on s mic b = cc in
          subst (λ (k : Acting). AllPlaced k.desk) (sym is) (all_go_on s b (begins_if _ nonce (started nonce) there a refl x))
      by Failed on = absurd cc

  pub goes_on : {M W : Type 0} (s : Setting M) (started : List ℕ → Option (List ℕ)) (gives : W → Drawn → W → Type 0) (a : Acting) (v w : W) (to : Acting)
      → GoesOn s mic started gives a v w (Some to) → AllPlaced a.desk → AllPlaced to.desk
  goes_on s started gives a v w to e x = goes_at (acts.to_begin a) s started gives a v w to e x

  -- ---- the setup goes on

  back_if : (b : Bool) (free : Option ℕ) (root : Option (List ℕ × List ℕ)) (there : Side) (d : Desk) → AllPlaced d → AllPlaced (replies.back_if b free root there d)
  back_if true free root there d x = made_placed free root there d x
  back_if false free root there d x = x

  setup_by : (setup : Setup) (me : List ℕ) (free : Option ℕ) (there : Side) (d : Desk) → AllPlaced d → AllPlaced (replies.setup_by setup mic me free there d)
  setup_by (setups.Rooted verifier) me free there d x = step_sent mic counted me there None (labels.Operation OP_EXCHANGE_ID) d x
  setup_by (setups.Registered client sequence) me free there d x =
      let back = back_channel free (site_at there d) in
      let o = calling.step_sent mic me there back (labels.Operation OP_CREATE_SESSION) d in
      back_if o.0 free _ there o.1 (step_sent mic counted me there back (labels.Operation OP_CREATE_SESSION) d x)
  setup_by (setups.Joined client session) me free there d x = reclaim_sent mic counted there d x
  setup_by setups.Down me free there d x = x
  setup_by (setups.Up client session) me free there d x = x

  pub setup_goes_on : (me : List ℕ) (free : Option ℕ) (there : Side) (d : Desk) → AllPlaced d → AllPlaced (replies.setup_goes_on mic me free there d)
  setup_goes_on me free there d x = setup_by (setup_in (site_at there d).mount.standing) me free there d x

  -- ---- the destination is asked

  ready_stage : (o : Option Query) (st : Stage) → asking_by o st ≡ asking.Ready → (o ≡ None) × (st ≡ Accepted)
  ready_stage None Accepted e = (refl, refl)
  ready_stage None (Due step) e = absurd cc
  ready_stage None (Asked step) e = absurd cc
  ready_stage None (Over v) e = absurd cc
  ready_stage (Some query) st e = absurd cc

  queried_as : (b : Bool) (j : ℕ) (query : Query) (d : Desk) → AllPlaced (then_told b j (events.Queried query) d) → AllPlaced (commands.queried_if b j query d)
  queried_as true j query d x = x
  queried_as false j query d x = x

  queried : (j : ℕ) (query : Query) (c : ClientCopy) (d : Desk) → AllPlaced d → j < PLACES → copy_at j d.copies ≡ Some c → asking_of c ≡ asking.Ready
      → AllPlaced (commands.queried mic j query c d)
  queried j query c d x within is ready =
      let both = ready_stage c.query c.stage ready in
      let own : ClientCopy = record c { query = Some query } in
      let o = commands.query_call query c d in
      let e = calling.call_sent mic Dest j unders.Root o d in
      queried_as e.0 j query e.1
      (call_then Dest j d (events.Queried query) c own x is (queried_is c query both.1) within
      (λ side apart k at. subst (λ (y : ClientCopy). Leaves side y (after (events.Queried query) y).1) (some_copy c k (copy_at j d.copies) is at) (queried_leaves side c query both.1 both.0))
      unders.Root o
      (if_fits (AsksOpen d.dest.files own) _
      (λ call asked context asking_it slot asked_is.
      record {
        waits = inr (query, refl);
        no_create = ap (stage_creates Dest) both.1;
        slot = slot;
        call = call;
        asked_is = asked_is;
        opened = asked;
      }) o (query_asks d.dest.files own query c.id _)))

  asked_by : (k : Asking) (j : ℕ) (query : Query) (c : ClientCopy) (d : Desk) → AllPlaced d → j < PLACES → copy_at j d.copies ≡ Some c → asking_of c ≡ k
      → AllPlaced (commands.asked_by k mic j query c d)
  asked_by asking.Busy j query c d x within is at = note_placed _ d x
  asked_by asking.Idle j query c d x within is at = note_placed _ d x
  asked_by asking.Ready j query c d x within is at = queried j query c d x within is at

  asked_of : (o : Option ClientCopy) (j : ℕ) (query : Query) (d : Desk) → AllPlaced d → j < PLACES → copy_at j d.copies ≡ o → AllPlaced (commands.asked_of o mic j query d)
  asked_of None j query d x within is = note_placed _ d x
  asked_of (Some c) j query d x within is = asked_by (asking_of c) j query c d x within is refl

  pub asked_core : (b : Bool) (j : ℕ) (query : Query) (d : Desk) → AllPlaced d → nat_lt j PLACES ≡ b → AllPlaced (core.asked_if b mic j query d)
  asked_core true j query d x small = asked_of (copying.copy_in j d) j query d x (ltb-true j PLACES small) refl
  asked_core false j query d x small = note_placed _ d x

  -- ---- a second comes

  ready_is : (k : Asking) → is_ready k ≡ true → k ≡ asking.Ready
  ready_is asking.Ready e = refl
  ready_is asking.Busy e = absurd cc
  ready_is asking.Idle e = absurd cc

  left_true : (a b : Bool) → (a && b) ≡ true → a ≡ true
  left_true true b e = refl
  left_true false b e = absurd cc

  ticked_if : (b : Bool) (j : ℕ) (c : ClientCopy) (d : Desk) → AllPlaced d → j < PLACES → copy_at j d.copies ≡ Some c → is_overdue d.second c ≡ b → AllPlaced (commands.ticked_if b mic j c d)
  ticked_if true j c d x within is due_now = queried j queries.Status c d x within is (ready_is (asking_of c) (left_true (is_ready (asking_of c)) _ due_now))
  ticked_if false j c d x within is due_now = x

  ticked_of : (o : Option ClientCopy) (j : ℕ) (d : Desk) → AllPlaced d → j < PLACES → copy_at j d.copies ≡ o → AllPlaced (commands.ticked_of o mic j d)
  ticked_of None j d x within is = x
  ticked_of (Some c) j d x within is = ticked_if (is_overdue d.second c) j c d x within is refl

  pub ticks : (js : List ℕ) (d : Desk) → AllPlaced d → ArePlaces js → AllPlaced (ticked mic js d)
  unfolding ticked
  ticks [] d x within = x
  ticks (j ∷ js) d x within = ticks js (commands.ticked_of (copying.copy_in j d) mic j d) (ticked_of (copying.copy_in j d) j d x within.0.1 refl) within.1

  -- ---- all that is awaited goes out once more

  setup_again : (b : Bool) (side : Side) (d : Desk) → AllPlaced d → AllPlaced (commands.setup_again mic b side d)
  setup_again true side d x = again_sent mic counted side 0 _ d (lit< tt) x
  setup_again false side d x = x

  work_again : (b : Bool) (side : Side) (label : CallLabel) (d : Desk) → AllPlaced d → AllPlaced (commands.work_again mic b side label d)
  work_again true side label d x = again_sent mic counted side 0 label d (lit< tt) x
  work_again false side label d x = x

  copy_again : (side : Side) (j : ℕ) (d : Desk) → j < PLACES → AllPlaced d → AllPlaced (commands.copy_again mic side j d)
  copy_again side j d within x = again_sent mic counted side j _ d within x

  copies_again : (js : List ℕ) (d : Desk) → AllPlaced d → ArePlaces js → AllPlaced (copies_again_of mic js d)
  unfolding copies_again_of
  copies_again [] d x within = x
  copies_again (j ∷ js) d x within =
      let e = commands.copy_again mic Dest j d in
      copies_again js (commands.copy_again mic Source j e) (copy_again Source j e within.0.1 (copy_again Dest j d within.0.1 x)) within.1

  pub retried : (a : Acting) → AllPlaced a.desk → AllPlaced (commands.retried mic a).desk
  retried a x =
      let source = is_setting_up a.desk.source.mount in
      let dest = is_setting_up a.desk.dest.mount in
      let at_source = commands.queue_label a.source_queue in
      let at_dest = commands.queue_label a.dest_queue in
      let first = commands.setup_again mic source Source a.desk in
      let second = commands.setup_again mic dest Dest first in
      let third = commands.work_again mic (not source) Source at_source second in
      let fourth = commands.work_again mic (not dest) Dest at_dest third in
      copies_again all_copies fourth
      (work_again (not dest) Dest at_dest third (work_again (not source) Source at_source second (setup_again dest Dest first (setup_again source Source a.desk x)))) copies_are
