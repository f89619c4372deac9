-- What a step does of itself goes under the seal of the record that it took.
use Rattle.std.proofs.Common.{◌≡◌, ◌∙◌, ℕ, Bool, true, false, List, [], ◌∷◌, Option, Some, None, Result, Ok, refl, sym, ap, subst}
use Rattle.std.specs.Prelude.{length, nat_le}
use Rattle.callbacks.specs.Callbacks.{evaluated}
use Rattle.callbacks.specs.declared.evaluation.Told.{Told}
use Rattle.client_copies.specs.Copies.{due, side_of}
use Rattle.client_copies.specs.Table.{copy_at, said_of, told_at}
use Rattle.client_copies.specs.declared.copy.ClientCopy.{ClientCopy}
use Rattle.client_copies.specs.declared.copy.Step.{Step}
use Rattle.client_copies.specs.declared.copy.Step.TheVariants as steps
use Rattle.client_copies.specs.declared.event.Event.{Event}
use Rattle.client_copies.specs.declared.event.Event.TheVariants as events
use Rattle.client_copies.specs.declared.told.Said.{Said}
use Rattle.client_copies.specs.declared.told.Said.TheVariants.{Nothing, One, Two}
use Rattle.client_core.specs.Callbacks.{IsCompound, all_said, called_back, session_under}
use Rattle.client_core.specs.Endings.{IsStep, Ways, acting_at, desk_at, ended_by}
use Rattle.client_core.specs.Records.{IsJudged, IsWhat}
use Rattle.client_core.specs.State.{ClientState, second_at}
use Rattle.client_site.specs.Sending.{begun_in, may_begin}
use Rattle.client_site.specs.declared.site.OpenFile.{OpenFile}
use Rattle.client_site.specs.declared.site.Site.{Site}
use Rattle.client_steps.specs.Acting as acts
use Rattle.client_steps.specs.Acting.{Acting, GoesOn, GoesOnAt, IsDrawnOn, downs_told, on_desk, with_desk}
use Rattle.client_steps.specs.Calling as calling
use Rattle.client_steps.specs.CopySteps as copying
use Rattle.client_steps.specs.CopySteps.{all_copies}
use Rattle.client_steps.specs.Desks.{noted, put_out, said_by, send_at, sent_out, site_at, told_to, with_site}
use Rattle.client_steps.specs.Replies.{under_seal}
use Rattle.client_steps.specs.Setting as setting
use Rattle.client_steps.specs.declared.copy_steps.Openings.{Openings}
use Rattle.client_steps.specs.declared.desk.Desk.{Desk}
use Rattle.client_steps.specs.declared.setting.Setting.{Setting}
use Rattle.copy_privs.specs.Forms.{privilege_spell}
use Rattle.copy_privs.specs.declared.privilege.Privilege.{Privilege}
use Rattle.gss_ctx.specs.Seals.{Mic}
use Rattle.gss_ctx.specs.Table.{ContextTable}
use Rattle.mount.specs.declared.calling.Under.{Under}
use Rattle.mount.specs.declared.calling.Under.TheVariants as unders
use Rattle.mount.specs.declared.machine.Sent.{Sent}
use Rattle.nfs_base.specs.declared.limits.TheConstants.{PRIVILEGE_LIMIT}
use Rattle.nfs_base.specs.declared.side.Side.{Side}
use Rattle.nfs_base.specs.declared.side.Side.TheVariants.{Source, Dest}
use Rattle.nfs_base.specs.declared.status.Status.{Status}
use Rattle.nfs_base.specs.declared.status.TheConstants.Status as statuses
use Rattle.nfs_compound.specs.Compounds.{cb_compound_of}
use Rattle.nfs_compound.specs.declared.cb_compound.CbCompound.{CbCompound}
use Rattle.outbox.specs.declared.label.CallLabel.{CallLabel}
use Rattle.outbox.specs.declared.label.CallLabel.TheVariants as labels
use Rattle.outbox.specs.declared.outgoing.Outbox.{Outbox}
use Rattle.rpc_calls.specs.Answers.{accepted_seal}
use Rattle.rpc_calls.specs.Judging.{judged_of}
use Rattle.rpc_calls.specs.declared.call.Call.{Call}
use Rattle.rpc_calls.specs.declared.call.Judged.{Judged}
use Rattle.rpc_calls.specs.declared.call.Judged.TheVariants as judged
use Rattle.rpc_calls.specs.declared.call.TheConstants.Program as programs
use Rattle.rpc_calls.specs.declared.call.What.{What}
use Rattle.rpc_calls.specs.declared.call.What.TheVariants as whats
use Rattle.session_calls.specs.declared.slot_call.SlotCall.{SlotCall}
use Rattle.streams.specs.declared.draws.Drawn.{Drawn}
use Rattle.streams.specs.declared.draws.Drawn.TheVariants.{Got, Failed}
use Rattle.write_queue.specs.Queue.{refusals}
use Rattle.write_queue.specs.Steps.{after as queue_after}
use Rattle.write_queue.specs.declared.work.Line.{Line}
use Rattle.write_queue.specs.declared.work.QueueEvent.{QueueEvent}
use Rattle.write_queue.specs.declared.work.Work.{Work}
use Rattle.client_laws.specs.Turns.{Hears, IsTurn}

abbrev Same : Desk → Desk → Type 0
Same d e = e.out.accepted ≡ d.out.accepted

said : (j : ℕ) (said : Said) (d : Desk) → Same d (said_by j said d)
said j Nothing d = refl
said j (One word) d = refl
said j (Two first second) d = refl

told : (j : ℕ) (event : Event) (d : Desk) → Same d (told_to j event d)
told j event d = said j (said_of event (copy_at j d.copies)) (record d { copies = (told_at j event d.copies).1 })

sited : (side : Side) (s : Site) (d : Desk) → Same d (with_site side s d)
sited Source s d = refl
sited Dest s d = refl

sent : (side : Side) (label : CallLabel) (o : Option Sent) (d : Desk) → Same d (sent_out side label o d)
sent side label None d = refl
sent side label (Some one) d = refl

put : (side : Side) (label : CallLabel) (o : Option Sent × Site) (d : Desk) → Same d (put_out side label o d).1
put side label o d = sent side label o.0 (with_site side o.1 d) ∙ sited side o.1 d

called : (mic : Mic) (side : Side) (place : ℕ) (under : Under) (o : Option SlotCall) (d : Desk) → Same d (calling.call_sent mic side place under o d).1
called mic side place under None d = refl
called mic side place under (Some call) d = put side _ _ d

created : (b : Bool) (mic : Mic) (side : Side) (j : ℕ) (p : Privilege) (d : Desk) → Same d (calling.create_if b mic side j p d).1
created false mic side j p d = refl
created true mic side j p d = put side _ _ d

-- ---- queues and setups

line : (side : Side) (o : Option Line) (d : Desk) → Same d (acts.line_noted side o d)
line side None d = refl
line side (Some one) d = refl

lines : (side : Side) (ls : List Line) (d : Desk) → Same d (acts.lines_noted side ls d)
lines side [] d = refl
lines side (one ∷ more) d = lines side more (noted (acts.line_note side one) d)

queue : (side : Side) (event : QueueEvent) (a : Acting) → Same a.desk (acts.queue_told side event a).desk
queue side event a = line side (queue_after event (acts.queue_at side a)).0 a.desk

downs : (side : Side) (status : Status) (js : List ℕ) (d : Desk) → Same d (downs_told side status js d)
unfolding downs_told
downs side status [] d = refl
downs side status (j ∷ js) d = downs side status js (told_to j (events.Down side status) d) ∙ told j (events.Down side status) d

ended : (o : Option ℕ) (d : Desk) → Same d (acts.back_ended o d)
ended None d = refl
ended (Some number) d = refl

falls : (side : Side) (status : Status) (a : Acting) → Same a.desk (acts.goes_down side status a).desk
falls side status a =
    let b = on_desk (downs_told side status all_copies) a in
    let c = acts.all_refused side status b in
    ended (site_at side c.desk).back (acts.site_falls side c.desk) ∙ sited side _ c.desk ∙ lines side (refusals status (acts.queue_at side b)) b.desk ∙ downs side status all_copies a.desk

module _ (mic : Mic) where
  -- ---- copies

  opened_if : (b : Bool) (j : ℕ) (side : Side) (d : Desk) → Same d (copying.opened_if b j side d)
  opened_if true j side d = told j (events.Opened side) d
  opened_if false j side d = refl

  finds_open : (j : ℕ) (c : ClientCopy) (o : Option Step) (d : Desk) → Same d (copying.finds_open j c o d)
  finds_open j c None d = refl
  finds_open j c (Some step) d = opened_if (copying.is_open step c d) j (side_of step) d

  copy_finds_open : (j : ℕ) (o : Option ClientCopy) (d : Desk) → Same d (copying.copy_finds_open j o d)
  copy_finds_open j None d = refl
  copy_finds_open j (Some c) d = finds_open j c (due c.stage) d

  step_call : {M : Type 0} (s : Setting M) (step : Step) (j : ℕ) (c : ClientCopy) (d : Desk) → Same d (copying.step_call s mic step j c d).1
  step_call s steps.OpenSource j c d = called mic Source j unders.Root (setting.open_call s.me c.spec.src_file d.source) d
  step_call s steps.OpenAgain j c d = called mic Source j unders.Root (setting.open_call s.me c.spec.src_file d.source) d
  step_call s steps.OpenDest j c d = called mic Dest j unders.Root (setting.open_call s.me c.spec.dst_file d.dest) d
  step_call s steps.AllowSource j c d =
      created (nat_le (length (privilege_spell (setting.privilege_at s Source c.secret))) PRIVILEGE_LIMIT) mic Source j (setting.privilege_at s Source c.secret) d
  step_call s steps.AllowDest j c d =
      created (nat_le (length (privilege_spell (setting.privilege_at s Dest c.secret))) PRIVILEGE_LIMIT) mic Dest j (setting.privilege_at s Dest c.secret) d
  step_call s steps.Notify j c d = called mic Source j (unders.Child j) (setting.notify_call s c d.source) d
  step_call s steps.Copy j c d = called mic Dest j (unders.Child j) (setting.copy_call s c d.dest) d
  step_call s steps.Last j c d = called mic Source j unders.Root (setting.last_call c) d

  asked_if : {M : Type 0} (b : Bool) (s : Setting M) (step : Step) (j : ℕ) (c : ClientCopy) (d : Desk) → Same d (copying.asked_if b s mic step j c d).1
  asked_if true s step j c d = step_call s step j c d
  asked_if false s step j c d = refl

  sent_if : (b : Bool) (j : ℕ) (d : Desk) → Same d (copying.sent_if b j d)
  sent_if true j d = told j events.Sent d
  sent_if false j d = refl

  asks_step : {M : Type 0} (s : Setting M) (o : Openings) (j : ℕ) (c : ClientCopy) (next : Option Step) (d : Desk) → Same d (copying.asks_step s mic o j c next d)
  asks_step s o j c None d = refl
  asks_step s o j c (Some step) d =
      let b = copying.may_ask o step c d in
      let e = copying.asked_if b s mic step j c d in
      sent_if e.0 j e.1 ∙ asked_if b s step j c d

  copy_asks : {M : Type 0} (s : Setting M) (o : Openings) (j : ℕ) (copy : Option ClientCopy) (d : Desk) → Same d (copying.copy_asks s mic o j copy d)
  copy_asks s o j None d = refl
  copy_asks s o j (Some c) d = asks_step s o j c (due c.stage) d

  copy_goes_on : {M : Type 0} (s : Setting M) (o : Openings) (j : ℕ) (d : Desk) → Same d (copying.copy_goes_on s mic o j d)
  copy_goes_on s o j d =
      let e = copying.copy_finds_open j (copy_at j d.copies) d in
      copy_asks s o j (copy_at j e.copies) e ∙ copy_finds_open j (copy_at j d.copies) d

  copies_go_on : {M : Type 0} (s : Setting M) (o : Openings) (js : List ℕ) (d : Desk) → Same d (copying.copies_go_on s mic o js d)
  copies_go_on s o [] d = refl
  copies_go_on s o (j ∷ js) d = copies_go_on s o js (copying.copy_goes_on s mic o j d) ∙ copy_goes_on s o j d

  -- ---- writes and commits

  told_if : (b : Bool) (side : Side) (event : QueueEvent) (a : Acting) → Same a.desk (acts.told_if b side event a).desk
  told_if true side event a = queue side event a
  told_if false side event a = refl

  called_for : (side : Side) (o : Option SlotCall) (event : QueueEvent) (a : Acting) → Same a.desk (acts.called_for mic side o event a).desk
  called_for side o event a =
      let e = calling.call_sent mic side 0 unders.Root o a.desk in
      told_if e.0 side event (with_desk e.1 a) ∙ called mic side 0 unders.Root o a.desk

  open_if : {M : Type 0} (b : Bool) (s : Setting M) (side : Side) (file : ℕ) (a : Acting) → Same a.desk (acts.open_if b s mic side file a).desk
  open_if true s side file a = refl
  open_if false s side file a = called_for side _ _ a

  work_sent : {M : Type 0} (s : Setting M) (side : Side) (work : Work) (o : Option OpenFile) (a : Acting) → Same a.desk (acts.work_sent s mic side work o a).desk
  work_sent s side work None a = open_if _ s side _ a
  work_sent s side work (Some opened) a = called_for side _ _ a

  work_due : {M : Type 0} (s : Setting M) (side : Side) (o : Option Work) (a : Acting) → Same a.desk (acts.work_due s mic side o a).desk
  work_due s side None a = refl
  work_due s side (Some work) a = work_sent s side work _ a

  work_if : {M : Type 0} (b : Bool) (s : Setting M) (side : Side) (a : Acting) → Same a.desk (acts.work_if b s mic side a).desk
  work_if true s side a = work_due s side _ a
  work_if false s side a = refl

  queue_goes_on : {M : Type 0} (s : Setting M) (side : Side) (a : Acting) → Same a.desk (acts.queue_goes_on s mic side a).desk
  queue_goes_on s side a = work_if _ s side a

  all_go_on : {M : Type 0} (s : Setting M) (a : Acting) → Same a.desk (acts.all_go_on s mic a).desk
  all_go_on s a =
      let b = acts.queue_goes_on s mic Source a in
      let c = acts.queue_goes_on s mic Dest b in
      copies_go_on s (acts.openings c) all_copies c.desk ∙ queue_goes_on s Dest b ∙ queue_goes_on s Source a

  -- ---- a setup begins

  begins_if : (b : Bool) (nonce : List ℕ) (token : Option (List ℕ)) (side : Side) (a : Acting) → Same a.desk (acts.begins_if b nonce token side a).desk
  begins_if false nonce token side a = refl
  begins_if true nonce None side a =
      let e = calling.begin_sent nonce None side a.desk in
      falls side statuses.ACCESS (with_desk e.1 a) ∙ put side labels.Init (begun_in (send_at 0 a.desk) nonce None (site_at side a.desk)) a.desk
  begins_if true nonce (Some token) side a = put side labels.Init (begun_in (send_at 0 a.desk) nonce (Some token) (site_at side a.desk)) a.desk

  goes_at : {M W : Type 0} (o : Option Side) (s : Setting M) (started : List ℕ → Option (List ℕ)) (gives : W → Drawn → W → Type 0) (a : Acting) (v w : W) (to : Acting)
      → GoesOnAt o s mic started gives a v w (Some to) → Same a.desk to.desk
  goes_at None s started gives a v w to e =
      let now = e.0 in
      let is : to ≡ acts.all_go_on s mic a = cc in
      subst (λ (k : Acting). Same a.desk k.desk) (sym is) (all_go_on s a)
  goes_at (Some side) s started gives a v w to e = by e.0 e.2
    where
      by : (drawn : Drawn) → IsDrawnOn s mic started side drawn a (Some to) → Same a.desk to.desk
      by (Got nonce) on =
          let b = acts.begins nonce (started nonce) side a in
          let is : to ≡ acts.all_go_on s mic b = cc in
          subst (λ (k : Acting). Same a.desk k.desk) (sym is) (all_go_on s b ∙ begins_if (may_begin (send_at 0 a.desk) (site_at side a.desk).mount) nonce (started nonce) side a)
      by Failed on = absurd cc

  goes_on : {M W : Type 0} (s : Setting M) (started : List ℕ → Option (List ℕ)) (gives : W → Drawn → W → Type 0) (a : Acting) (v w : W) (to : Acting)
      → GoesOn s mic started gives a v w (Some to) → Same a.desk to.desk
  goes_on s started gives a v w to e = goes_at (acts.to_begin a) s started gives a v w to e

-- ---- a CB_COMPOUND is accepted under the seal of its context

all_said_same : (more : List Told) (d : Desk) → Same d (all_said more d)
all_said_same [] d = refl
all_said_same (one ∷ more) d = all_said_same more (said_by one.copy one.said d) ∙ said one.copy one.said d

module _ {M W : Type 0} (ways : Ways) (gives : W → Drawn → W → Type 0) (c : ClientState M) where
  back_sealed : (side : Side) (call : Call) (compound : CbCompound) (now : ℕ) → (called_back ways.means.mic side call compound c (desk_at now c)).out.accepted ≡ accepted_seal c.back call
  back_sealed side call compound now =
      let d = desk_at now c in
      let o = evaluated (session_under call.under c) compound d.copies in
      all_said_same o.told (record (under_seal (accepted_seal c.back call) d) { copies = o.copies })

  ended_sealed : (to : Option Acting) (does : Acting) (back : Acting → ContextTable ℕ) (v w : W) → GoesOn c.setting ways.means.mic ways.started gives does v w to
      → (ended_by to back c).1.undrawn ≡ false → (ended_by to back c).1.accepted ≡ does.desk.out.accepted
  ended_sealed None does back v w on drawn = absurd cc
  ended_sealed (Some a) does back v w on drawn = goes_on ways.means.mic c.setting ways.started gives does v w a on

  step_sealed : (does : Acting) (back : Acting → ContextTable ℕ) (v w : W) (end : ClientState M × Outbox) → IsStep ways gives does back c v w end → end.1.undrawn ≡ false
      → end.1.accepted ≡ does.desk.out.accepted
  step_sealed does back v w end step drawn =
      ap (λ (e : ClientState M × Outbox). e.1.accepted) step.is
      ∙ ended_sealed step.to does back v w step.goes_on (ap (λ (e : ClientState M × Outbox). e.1.undrawn) (sym step.is) ∙ drawn)

  pub callback_sealed : (side : Side) (message : List ℕ) (now : ℕ) (call : Call) (args : List ℕ) (compound : CbCompound) (v w : W) (end : ClientState M × Outbox)
      → judged_of ways.means.mic (second_at now c) programs.CALLBACK message c.back ≡ judged.Call call → call.what ≡ whats.Compound args → cb_compound_of args ≡ Ok compound
      → IsTurn ways gives (Hears side message now) c v w end → end.1.undrawn ≡ false → end.1.accepted ≡ accepted_seal c.back call
  callback_sealed side message now call args compound v w end judged_is what read step drawn =
      let first = subst (λ (o : Judged). IsJudged o ways gives side message now c v w end) judged_is step in
      let second = subst (λ (o : What). IsWhat o ways gives now side call c v w end) what first in
      let third = subst (λ (o : Result CbCompound ℕ). IsCompound o ways gives now side call c v w end) read second in
      step_sealed (on_desk (called_back ways.means.mic side call compound c) (acting_at now c)) _ v w end third drawn ∙ back_sealed side call compound now
