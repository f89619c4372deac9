-- Whatever waits and goes on leaves a client fit, and so does a setup that goes down or begins.
use Rattle.std.proofs.Common.{◌≡◌, ℕ, ◌<◌, ◌^◌, Bool, true, false, List, [], ◌∷◌, Option, Some, None, refl, sym, subst, lit<}
use Rattle.std.specs.Prelude.{IfSome}
use Rattle.std.specs.List.{AllByRecursion}
use Rattle.caller_laws.specs.Fitting.Asking.{SlotCallIsFit}
use Rattle.caller_laws.specs.Fitting.Bounds.{FixedFits}
use Rattle.caller_laws.specs.Fitting.Fitting.{MountIsFit}
use Rattle.caller_laws.specs.Fitting.Moving.{GivesBytes}
use Rattle.caller_laws.specs.Fitting.TakeLaws.{fallen_fits, given_up_fits}
use Rattle.client_copies.specs.Copies.{due, side_of}
use Rattle.client_copies.specs.Table.{copy_at}
use Rattle.client_copies.specs.declared.copy.ClientCopy.{ClientCopy}
use Rattle.client_copies.specs.declared.copy.Step.{Step}
use Rattle.client_copies.specs.declared.copy.Step.TheVariants as steps
use Rattle.client_copies.specs.declared.event.Event.TheVariants as events
use Rattle.client_laws.specs.Bounds.AskLaws.{copy_fits, file_fits, last_fits, notify_fits, open_fits, privilege_are, privilege_named, work_fits}
use Rattle.client_laws.specs.Bounds.CallLaws.{begin_fits, call_fits, create_fits}
use Rattle.client_laws.specs.Bounds.CopyLaws.{first_fits, queue_fits}
use Rattle.client_laws.specs.Bounds.DeskLaws.{site_fits, sited_fits, told_to_fits}
use Rattle.client_laws.specs.Bounds.Known.{CopyIsFit, DeskIsFit, FileIsFit, QueueIsFit, SettingIsFit, SiteIsFit, WorkIsFit, WorksAreFit}
use Rattle.client_site.specs.Falling.{all_places, given_up_at, gone_down}
use Rattle.client_site.specs.Sending.{may_begin}
use Rattle.client_site.specs.declared.site.OpenFile.{OpenFile}
use Rattle.client_site.specs.declared.site.Site.{Site}
use Rattle.client_steps.specs.Acting as acts
use Rattle.client_steps.specs.Acting.{Acting, GoesOn, GoesOnAt, IsDrawnOn, downs_told, queue_at, with_desk, with_queue}
use Rattle.client_steps.specs.Calling.{begin_sent, call_sent}
use Rattle.client_steps.specs.CopySteps as copying
use Rattle.client_steps.specs.CopySteps.{all_copies, file_on}
use Rattle.client_steps.specs.Desks.{send_at, site_at}
use Rattle.client_steps.specs.Setting.{copy_call, last_call, notify_call, open_call, privilege_at}
use Rattle.client_steps.specs.declared.copy_steps.Openings.{Openings}
use Rattle.client_steps.specs.declared.desk.Desk.{Desk}
use Rattle.client_steps.specs.declared.setting.Setting.{Setting}
use Rattle.gss_ctx.specs.Seals.{Mic}
use Rattle.mount.specs.Falling.{given_up}
use Rattle.mount.specs.State.{Mounted}
use Rattle.mount.specs.declared.calling.Under.TheVariants.{Root, Child}
use Rattle.mount.specs.declared.state.TheConstants.{PLACES}
use Rattle.nfs_base.specs.declared.side.Side.{Side}
use Rattle.nfs_base.specs.declared.side.Side.TheVariants.{Source, Dest}
use Rattle.nfs_base.specs.declared.status.Status.{Status}
use Rattle.nfs_base.specs.declared.status.TheConstants.Status as statuses
use Rattle.session_calls.specs.declared.slot_call.SlotCall.{SlotCall}
use Rattle.streams.specs.declared.draws.Drawn.{Drawn}
use Rattle.streams.specs.declared.draws.Drawn.TheVariants.{Got, Failed}
use Rattle.wire_xdr.specs.Cursor.{IsBytes}
use Rattle.write_queue.specs.Queue as queues
use Rattle.write_queue.specs.Queue.{Queued, emptied, file_of, first, refusals}
use Rattle.write_queue.specs.Steps.{after}
use Rattle.write_queue.specs.declared.queue.Head.{Head}
use Rattle.write_queue.specs.declared.queue.Head.TheVariants as heads
use Rattle.write_queue.specs.declared.work.Line.{Line}
use Rattle.write_queue.specs.declared.work.QueueEvent.{QueueEvent}
use Rattle.write_queue.specs.declared.work.QueueEvent.TheVariants as works
use Rattle.write_queue.specs.declared.work.Work.TheVariants.{Write, Commit}
use Rattle.write_queue.specs.declared.work.Work.{Work}

-- the desk and the queues are
abbrev pub ActingIsFit : Acting → Type 0
ActingIsFit a = DeskIsFit a.desk × WorksAreFit a

abbrev pub ArePlaces : List ℕ → Type 0
ArePlaces js = AllByRecursion (λ j. j < PLACES) js

pub copies_are : ArePlaces all_copies
copies_are =
    (lit< tt, (lit< tt, (lit< tt, (lit< tt, (lit< tt, (lit< tt, (lit< tt, (lit< tt, (lit< tt, (lit< tt, (lit< tt, (lit< tt, (lit< tt, (lit< tt, (lit< tt, tt)))))))))))))))

at_first : 0 < PLACES
at_first = lit< tt

-- ---- queues

pub queue_at_fits : (side : Side) (a : Acting) → WorksAreFit a → QueueIsFit (queue_at side a)
queue_at_fits Source a h = h.at_source
queue_at_fits Dest a h = h.at_dest

pub with_queue_fits : (side : Side) (q : Queued) (a : Acting) → QueueIsFit q → WorksAreFit a → WorksAreFit (with_queue side q a)
with_queue_fits Source q a fit h = record { at_source = fit; at_dest = h.at_dest }
with_queue_fits Dest q a fit h = record { at_source = h.at_source; at_dest = fit }

line_fits : (side : Side) (o : Option Line) (d : Desk) → DeskIsFit d → DeskIsFit (acts.line_noted side o d)
line_fits side None d h = h
line_fits side (Some one) d h = h

lines_fit : (side : Side) (ls : List Line) (d : Desk) → DeskIsFit d → DeskIsFit (acts.lines_noted side ls d)
lines_fit side [] d h = h
lines_fit side (one ∷ more) d h = lines_fit side more _ h

pub queue_told_fits : (side : Side) (event : QueueEvent) (a : Acting) → ActingIsFit a → ActingIsFit (acts.queue_told side event a)
queue_told_fits side event a h = (
  line_fits side (after event (queue_at side a)).0 a.desk h.0,
  with_queue_fits side (after event (queue_at side a)).1 (with_desk (acts.line_noted side (after event (queue_at side a)).0 a.desk) a)
      (queue_fits event (queue_at side a) (queue_at_fits side a h.1)) h.1,
)

told_if_fits : (b : Bool) (side : Side) (event : QueueEvent) (a : Acting) → ActingIsFit a → ActingIsFit (acts.told_if b side event a)
told_if_fits true side event a h = queue_told_fits side event a h
told_if_fits false side event a h = h

pub due_fits : (q : Queued) → QueueIsFit q → IfSome (queues.due q) WorkIsFit
due_fits q h = by q.head (first q.works) (first_fits q.works h)
  where
    by : (head : Head) (o : Option Work) → IfSome o WorkIsFit → IfSome (queues.due_by head o) WorkIsFit
    by heads.Due o h = h
    by heads.Opening o h = tt
    by heads.Asked o h = tt

pub file_small : (work : Work) → WorkIsFit work → file_of work < 2 ^ 32
file_small (Write file offset bytes) h = h.0
file_small (Commit file) h = h

-- ---- a setup goes down

given_fits : (places : List ℕ) (m : Mounted) → MountIsFit m → MountIsFit (given_up_at places m)
given_fits [] m h = h
given_fits (place ∷ places) m h = given_fits places (given_up place m) (given_up_fits place m h)

gone_fits : (s : Site) → SiteIsFit s → SiteIsFit (gone_down s)
gone_fits s h = record { mount = fallen_fits (given_up_at all_places s.mount) (given_fits all_places s.mount h.mount); files = tt }

downs_fit : (side : Side) (status : Status) (js : List ℕ) (d : Desk) → DeskIsFit d → DeskIsFit (downs_told side status js d)
unfolding downs_told
downs_fit side status [] d h = h
downs_fit side status (j ∷ js) d h = downs_fit side status js _ (told_to_fits j (events.Down side status) d tt h)

back_ended_fits : (o : Option ℕ) (d : Desk) → DeskIsFit d → DeskIsFit (acts.back_ended o d)
back_ended_fits None d h = h
back_ended_fits (Some number) d h = h

falls_fit : (side : Side) (d : Desk) → DeskIsFit d → DeskIsFit (acts.site_goes_down side d)
falls_fit side d h =
    back_ended_fits (site_at side d).back (acts.site_falls side d) (sited_fits side (gone_down (site_at side d)) d (gone_fits (site_at side d) (site_fits side d h)) h)

pub goes_down_fits : (side : Side) (status : Status) (a : Acting) → ActingIsFit a → ActingIsFit (acts.goes_down side status a)
goes_down_fits side status a h =
    let b = with_desk (downs_told side status all_copies a.desk) a in
    let lined = with_desk (acts.lines_noted side (refusals status (queue_at side b)) b.desk) b in
    let c = acts.all_refused side status b in (
      falls_fit side c.desk (lines_fit side (refusals status (queue_at side b)) b.desk (downs_fit side status all_copies a.desk h.0)),
      with_queue_fits side (emptied (queue_at side b)) lined tt h.1,
    )

module _ {M : Type 0} (s : Setting M) (k : SettingIsFit s) (mic : Mic) (gives : GivesBytes mic) where
  -- ---- a copy goes on

  opened_if_fits : (b : Bool) (j : ℕ) (side : Side) (d : Desk) → DeskIsFit d → DeskIsFit (copying.opened_if b j side d)
  opened_if_fits true j side d h = told_to_fits j (events.Opened side) d tt h
  opened_if_fits false j side d h = h

  finds_fits : (j : ℕ) (c : ClientCopy) (o : Option Step) (d : Desk) → DeskIsFit d → DeskIsFit (copying.finds_open j c o d)
  finds_fits j c None d h = h
  finds_fits j c (Some step) d h = opened_if_fits (copying.is_open step c d) j (side_of step) d h

  pub copy_finds_fits : (j : ℕ) (o : Option ClientCopy) (d : Desk) → DeskIsFit d → DeskIsFit (copying.copy_finds_open j o d)
  copy_finds_fits j None d h = h
  copy_finds_fits j (Some c) d h = finds_fits j c (due c.stage) d h

  step_call_fits : (step : Step) (j : ℕ) (c : ClientCopy) (d : Desk) → j < PLACES → CopyIsFit c → DeskIsFit d → DeskIsFit (copying.step_call s mic step j c d).1
  step_call_fits steps.OpenSource j c d within fit h =
      call_fits mic gives Source j d within Root (open_call s.me c.spec.src_file d.source) (open_fits s.me c.spec.src_file d.source k.me fit.asked.src_file h.at_source) h
  step_call_fits steps.OpenAgain j c d within fit h =
      call_fits mic gives Source j d within Root (open_call s.me c.spec.src_file d.source) (open_fits s.me c.spec.src_file d.source k.me fit.asked.src_file h.at_source) h
  step_call_fits steps.OpenDest j c d within fit h =
      call_fits mic gives Dest j d within Root (open_call s.me c.spec.dst_file d.dest) (open_fits s.me c.spec.dst_file d.dest k.me fit.asked.dst_file h.at_dest) h
  step_call_fits steps.AllowSource j c d within fit h =
      create_fits mic gives Source j d within (privilege_at s Source c.secret) (privilege_are s Source c.secret k fit.are_bytes) (privilege_named s Source c.secret) h
  step_call_fits steps.AllowDest j c d within fit h =
      create_fits mic gives Dest j d within (privilege_at s Dest c.secret) (privilege_are s Dest c.secret k fit.are_bytes) (privilege_named s Dest c.secret) h
  step_call_fits steps.Notify j c d within fit h =
      call_fits mic gives Source j d within (Child j) (notify_call s c d.source) (notify_fits s c d.source k h.at_source) h
  step_call_fits steps.Copy j c d within fit h = call_fits mic gives Dest j d within (Child j) (copy_call s c d.dest) (copy_fits s c d.dest k fit h.at_dest) h
  step_call_fits steps.Last j c d within fit h = call_fits mic gives Source j d within Root (last_call c) (last_fits c fit) h

  asked_if_fits : (b : Bool) (step : Step) (j : ℕ) (c : ClientCopy) (d : Desk) → j < PLACES → CopyIsFit c → DeskIsFit d → DeskIsFit (copying.asked_if b s mic step j c d).1
  asked_if_fits true step j c d within fit h = step_call_fits step j c d within fit h
  asked_if_fits false step j c d within fit h = h

  sent_if_fits : (b : Bool) (j : ℕ) (d : Desk) → DeskIsFit d → DeskIsFit (copying.sent_if b j d)
  sent_if_fits true j d h = told_to_fits j events.Sent d tt h
  sent_if_fits false j d h = h

  asks_step_fits : (o : Openings) (j : ℕ) (c : ClientCopy) (next : Option Step) (d : Desk) → j < PLACES → CopyIsFit c → DeskIsFit d → DeskIsFit (copying.asks_step s mic o j c next d)
  asks_step_fits o j c None d within fit h = h
  asks_step_fits o j c (Some step) d within fit h =
      let e = copying.asked_if (copying.may_ask o step c d) s mic step j c d in
      sent_if_fits e.0 j e.1 (asked_if_fits (copying.may_ask o step c d) step j c d within fit h)

  copy_asks_fits : (o : Openings) (j : ℕ) (copy : Option ClientCopy) (d : Desk) → j < PLACES → IfSome copy CopyIsFit → DeskIsFit d → DeskIsFit (copying.copy_asks s mic o j copy d)
  copy_asks_fits o j None d within fit h = h
  copy_asks_fits o j (Some c) d within fit h = asks_step_fits o j c (due c.stage) d within fit h

  pub goes_on_fits : (o : Openings) (j : ℕ) (d : Desk) → j < PLACES → DeskIsFit d → DeskIsFit (copying.copy_goes_on s mic o j d)
  goes_on_fits o j d within h =
      let e = copying.copy_finds_open j (copy_at j d.copies) d in
      let found = copy_finds_fits j (copy_at j d.copies) d h in
      copy_asks_fits o j (copy_at j e.copies) e within (found.table j) found

  copies_fit : (o : Openings) (js : List ℕ) (d : Desk) → ArePlaces js → DeskIsFit d → DeskIsFit (copying.copies_go_on s mic o js d)
  copies_fit o [] d within h = h
  copies_fit o (j ∷ js) d within h = copies_fit o js (copying.copy_goes_on s mic o j d) within.1 (goes_on_fits o j d within.0 h)

  -- ---- works go out

  called_for_fits : (side : Side) (o : Option SlotCall) (event : QueueEvent) (a : Acting) → IfSome o SlotCallIsFit → ActingIsFit a → ActingIsFit (acts.called_for mic side o event a)
  called_for_fits side o event a fit h =
      let e = call_sent mic side 0 Root o a.desk in
      told_if_fits e.0 side event (with_desk e.1 a) (call_fits mic gives side 0 a.desk at_first Root o fit h.0, h.1)

  open_if_fits : (b : Bool) (side : Side) (file : ℕ) (a : Acting) → file < 2 ^ 32 → ActingIsFit a → ActingIsFit (acts.open_if b s mic side file a)
  open_if_fits true side file a small h = h
  open_if_fits false side file a small h =
      called_for_fits side (open_call s.me file (site_at side a.desk)) works.OpenSent a (open_fits s.me file (site_at side a.desk) k.me small (site_fits side a.desk h.0)) h

  work_sent_fits : (side : Side) (work : Work) (o : Option OpenFile) (a : Acting) → WorkIsFit work → IfSome o FileIsFit → ActingIsFit a → ActingIsFit (acts.work_sent s mic side work o a)
  work_sent_fits side work None a w f h = open_if_fits _ side (file_of work) a (file_small work w) h
  work_sent_fits side work (Some opened_file) a w f h = called_for_fits side (acts.work_call opened_file work) works.Sent a (work_fits opened_file work f w) h

  work_due_fits : (side : Side) (o : Option Work) (a : Acting) → IfSome o WorkIsFit → ActingIsFit a → ActingIsFit (acts.work_due s mic side o a)
  work_due_fits side None a w h = h
  work_due_fits side (Some work) a w h =
      work_sent_fits side work (file_on side (file_of work) a.desk) a w (file_fits (file_of work) (site_at side a.desk) (site_fits side a.desk h.0)) h

  pub work_if_fits : (b : Bool) (side : Side) (a : Acting) → ActingIsFit a → ActingIsFit (acts.work_if b s mic side a)
  work_if_fits false side a h = h
  work_if_fits true side a h = work_due_fits side (queues.due (queue_at side a)) a (due_fits (queue_at side a) (queue_at_fits side a h.1)) h

  pub all_fit : (a : Acting) → ActingIsFit a → ActingIsFit (acts.all_go_on s mic a)
  all_fit a h =
      let b = acts.queue_goes_on s mic Source a in
      let c = acts.queue_goes_on s mic Dest b in
      let fits = work_if_fits (copying.is_up Dest b.desk) Dest b (work_if_fits (copying.is_up Source a.desk) Source a h) in
      (copies_fit (acts.openings c) all_copies c.desk copies_are fits.0, fits.1)

  -- ---- a setup begins

  unless_fits : (b : Bool) (side : Side) (a : Acting) → ActingIsFit a → ActingIsFit (acts.down_unless b side a)
  unless_fits true side a h = h
  unless_fits false side a h = goes_down_fits side statuses.ACCESS a h

  pub begins_fit : (b : Bool) (nonce : List ℕ) (token : Option (List ℕ)) (side : Side) (a : Acting) → may_begin (send_at 0 a.desk) (site_at side a.desk).mount ≡ b
      → FixedFits 32 nonce → IfSome token IsBytes → ActingIsFit a → ActingIsFit (acts.begins_if b nonce token side a)
  begins_fit false nonce token side a may n t h = h
  begins_fit true nonce token side a may n t h =
      let e = begin_sent nonce token side a.desk in
      unless_fits e.0 side (with_desk e.1 a) (begin_fits mic gives side nonce token a.desk (n, t) may h.0, h.1)

  module _ {W : Type 0} (started : List ℕ → Option (List ℕ)) (draws : W → Drawn → W → Type 0)
      (nonces : (v w : W) (nonce : List ℕ) → draws v (Got nonce) w → FixedFits 32 nonce)
      (tokens : (nonce : List ℕ) → FixedFits 32 nonce → IfSome (started nonce) IsBytes) where
    drawn_fits : (side : Side) (drawn : Drawn) (v w : W) (a : Acting) (t : Option Acting) → draws v drawn w → IsDrawnOn s mic started side drawn a t → ActingIsFit a → IfSome t ActingIsFit
    drawn_fits side (Got nonce) v w a t drew is h =
        let n = nonces v w nonce drew in
        let b = acts.begins nonce (started nonce) side a in
        subst (λ (o : Option Acting). IfSome o ActingIsFit) (sym is) (all_fit b (begins_fit _ nonce (started nonce) side a refl n (tokens nonce n) h))
    drawn_fits side Failed v w a t drew is h = subst (λ (o : Option Acting). IfSome o ActingIsFit) (sym is) tt

    goes_at_fits : (o : Option Side) (a : Acting) (v w : W) (t : Option Acting) → GoesOnAt o s mic started draws a v w t → ActingIsFit a → IfSome t ActingIsFit
    goes_at_fits None a v w t e h = subst (λ (o : Option Acting). IfSome o ActingIsFit) (sym e.0) (all_fit a h)
    goes_at_fits (Some side) a v w t e h = drawn_fits side e.0 v w a t e.1 e.2 h

    pub goes_fit : (a : Acting) (v w : W) (t : Option Acting) → GoesOn s mic started draws a v w t → ActingIsFit a → IfSome t ActingIsFit
    goes_fit a v w t e h = goes_at_fits (acts.to_begin a) a v w t e h
