-- Each step of a client leaves it fit.
use Rattle.std.proofs.Common.{◌≡◌, ℕ, ◌<◌, Bool, true, false, List, [], ◌∷◌, Option, Some, None, Result, Ok, Err, refl, sym, subst, arith}
use Rattle.std.specs.Prelude.{IfSome, nat_lt, not}
use Rattle.std.proofs.lemmas.Bool.{ltb-true}
use Rattle.callbacks.specs.Callbacks.{evaluated}
use Rattle.caller_laws.specs.Fitting.Moving.{GivesBytes}
use Rattle.client_copies.specs.Copies.{asking, is_overdue}
use Rattle.client_copies.specs.Table.{with_begun}
use Rattle.client_copies.specs.declared.copy.Asking.{Asking}
use Rattle.client_copies.specs.declared.copy.Asking.TheVariants as asks
use Rattle.client_copies.specs.declared.copy.ClientCopy.{ClientCopy}
use Rattle.client_copies.specs.declared.copy.Query.{Query}
use Rattle.client_copies.specs.declared.copy.Query.TheVariants as queries
use Rattle.client_copies.specs.declared.event.Event.TheVariants as events
use Rattle.client_copies.specs.declared.table.TheConstants.{MOST_COPIES}
use Rattle.client_core.specs.Backs.{free_number}
use Rattle.client_core.specs.Callbacks.{IsCompound, session_under}
use Rattle.client_core.specs.Calls.{created, inited_unless, is_misspelt, resting}
use Rattle.client_core.specs.Commands.{IsBegun, IsBegunBy, IsWork, asked_if, query_step, retry_step, tick_step}
use Rattle.client_core.specs.Endings.{IsStep, Ways, acting_at, desk_at, ended_by, stepped}
use Rattle.client_core.specs.Records.{IsJudged, IsRecord, IsWhat}
use Rattle.client_core.specs.State.{ClientState, second_at}
use Rattle.client_laws.specs.Bounds.AskLaws.{file_fits, query_fits}
use Rattle.client_laws.specs.Bounds.CallLaws.{again_fits, call_fits}
use Rattle.client_laws.specs.Bounds.CopyLaws.{begun_fits, evaluated_fits, queued_fits}
use Rattle.client_laws.specs.Bounds.DeedLaws.{replied_fits}
use Rattle.client_laws.specs.Bounds.DeskLaws.{all_said_fits, copied_fits, told_to_fits}
use Rattle.client_laws.specs.Bounds.GoLaws.{ActingIsFit, ArePlaces, copies_are, goes_fit, queue_at_fits, with_queue_fits}
use Rattle.client_laws.specs.Bounds.Known.{ClientIsFit, CopyIsFit, DeskIsFit, SpecIsFit, WorkIsFit}
use Rattle.client_laws.specs.Bounds.Ways.{WaysAreFit}
use Rattle.client_steps.specs.Acting.{Acting, queue_at}
use Rattle.client_steps.specs.Calling.{call_sent}
use Rattle.client_steps.specs.Commands as commands
use Rattle.client_steps.specs.Commands.{copies_again, ticked}
use Rattle.client_steps.specs.CopySteps.{all_copies, copy_in, file_on}
use Rattle.client_steps.specs.Replies.{under_seal}
use Rattle.client_steps.specs.declared.desk.Desk.{Desk}
use Rattle.copy_privs.specs.Told.{privilege_told}
use Rattle.gss_ctx.specs.Seals.{Mic}
use Rattle.gss_ctx.specs.Table.{ContextTable}
use Rattle.mount.specs.State.{is_setting_up}
use Rattle.mount.specs.declared.calling.Under.TheVariants.{Root}
use Rattle.mount.specs.declared.state.TheConstants.{PLACES}
use Rattle.nfs_base.specs.declared.copy_spec.CopySpec.{CopySpec}
use Rattle.nfs_base.specs.declared.side.Side.{Side}
use Rattle.nfs_base.specs.declared.side.Side.TheVariants.{Source, Dest}
use Rattle.nfs_compound.specs.Compounds.{cb_compound_of}
use Rattle.nfs_compound.specs.declared.cb_compound.CbCompound.{CbCompound}
use Rattle.outbox.specs.declared.label.CallLabel.{CallLabel}
use Rattle.outbox.specs.declared.outgoing.Outbox.{Outbox}
use Rattle.rpc_calls.specs.Answers.{accepted_seal}
use Rattle.rpc_calls.specs.Judging.{judged_of}
use Rattle.rpc_calls.specs.declared.call.Call.{Call}
use Rattle.rpc_calls.specs.declared.call.Judged.{Judged}
use Rattle.rpc_calls.specs.declared.call.Judged.TheVariants as judged
use Rattle.rpc_calls.specs.declared.call.TheConstants.Program as programs
use Rattle.rpc_calls.specs.declared.call.What.TheVariants as whats
use Rattle.rpc_calls.specs.declared.call.What.{What}
use Rattle.rpc_calls.specs.declared.contexts.InitAnswer.{InitAnswer}
use Rattle.streams.specs.declared.draws.Drawn.{Drawn}
use Rattle.streams.specs.declared.draws.Drawn.TheVariants.{Got, Failed}
use Rattle.wire_xdr.specs.Cursor.{IsBytes}
use Rattle.write_queue.specs.declared.work.Work.{Work}

-- ---- commands over copies

queried_if_fits : (b : Bool) (j : ℕ) (query : Query) (d : Desk) → DeskIsFit d → DeskIsFit (commands.queried_if b j query d)
queried_if_fits true j query d h = told_to_fits j (events.Queried query) d tt h
queried_if_fits false j query d h = h

module _ (mic : Mic) (gives : GivesBytes mic) where
  queried_fits : (j : ℕ) (query : Query) (c : ClientCopy) (d : Desk) → j < PLACES → CopyIsFit c → DeskIsFit d → DeskIsFit (commands.queried mic j query c d)
  queried_fits j query c d within fit h =
      let call = commands.query_call query c d in
      let o = call_sent mic Dest j Root call d in
      queried_if_fits o.0 j query o.1
      (call_fits mic gives Dest j d within Root call (query_fits query c.id (file_on Dest c.spec.dst_file d) fit.name (file_fits c.spec.dst_file d.dest h.at_dest)) h)

  asked_by_fits : (k : Asking) (j : ℕ) (query : Query) (c : ClientCopy) (d : Desk) → j < PLACES → CopyIsFit c → DeskIsFit d → DeskIsFit (commands.asked_by k mic j query c d)
  asked_by_fits asks.Busy j query c d within fit h = h
  asked_by_fits asks.Idle j query c d within fit h = h
  asked_by_fits asks.Ready j query c d within fit h = queried_fits j query c d within fit h

  asked_of_fits : (o : Option ClientCopy) (j : ℕ) (query : Query) (d : Desk) → j < PLACES → IfSome o CopyIsFit → DeskIsFit d → DeskIsFit (commands.asked_of o mic j query d)
  asked_of_fits None j query d within fit h = h
  asked_of_fits (Some c) j query d within fit h = asked_by_fits (asking c) j query c d within fit h

  asked_if_fits : (b : Bool) (j : ℕ) (query : Query) (d : Desk) → nat_lt j MOST_COPIES ≡ b → DeskIsFit d → DeskIsFit (asked_if b mic j query d)
  asked_if_fits true j query d e h = asked_of_fits (copy_in j d) j query d (ltb-true j MOST_COPIES e) (h.table j) h
  asked_if_fits false j query d e h = h

  ticked_if_fits : (b : Bool) (j : ℕ) (c : ClientCopy) (d : Desk) → j < PLACES → CopyIsFit c → DeskIsFit d → DeskIsFit (commands.ticked_if b mic j c d)
  ticked_if_fits true j c d within fit h = queried_fits j queries.Status c d within fit h
  ticked_if_fits false j c d within fit h = h

  pub ticked_of_fits : (o : Option ClientCopy) (j : ℕ) (d : Desk) → j < PLACES → IfSome o CopyIsFit → DeskIsFit d → DeskIsFit (commands.ticked_of o mic j d)
  ticked_of_fits None j d within fit h = h
  ticked_of_fits (Some c) j d within fit h = ticked_if_fits (is_overdue d.second c) j c d within fit h

  ticked_fits : (js : List ℕ) (d : Desk) → ArePlaces js → DeskIsFit d → DeskIsFit (ticked mic js d)
  unfolding ticked
  ticked_fits [] d within h = h
  ticked_fits (j ∷ js) d within h = ticked_fits js (commands.ticked_of (copy_in j d) mic j d) within.1 (ticked_of_fits (copy_in j d) j d within.0 (h.table j) h)

  -- ---- all goes out again

  setup_again_fits : (b : Bool) (side : Side) (d : Desk) → DeskIsFit d → DeskIsFit (commands.setup_again mic b side d)
  setup_again_fits true side d h = again_fits mic gives side 0 d (omega arith) _ h
  setup_again_fits false side d h = h

  work_again_fits : (b : Bool) (side : Side) (label : CallLabel) (d : Desk) → DeskIsFit d → DeskIsFit (commands.work_again mic b side label d)
  work_again_fits true side label d h = again_fits mic gives side 0 d (omega arith) label h
  work_again_fits false side label d h = h

  copies_again_fits : (js : List ℕ) (d : Desk) → ArePlaces js → DeskIsFit d → DeskIsFit (copies_again mic js d)
  unfolding copies_again
  copies_again_fits [] d within h = h
  copies_again_fits (j ∷ js) d within h =
      let e = commands.copy_again mic Dest j d in
      let f = commands.copy_again mic Source j e in
      copies_again_fits js f within.1 (again_fits mic gives Source j e within.0 _ (again_fits mic gives Dest j d within.0 _ h))

  retried_fits : (a : Acting) → ActingIsFit a → ActingIsFit (commands.retried mic a)
  retried_fits a h =
      let d = a.desk in
      let source = is_setting_up d.source.mount in
      let dest = is_setting_up d.dest.mount in
      let e = commands.setup_again mic source Source d in
      let f = commands.setup_again mic dest Dest e in
      let at_source = commands.queue_label a.source_queue in
      let at_dest = commands.queue_label a.dest_queue in
      let g = commands.work_again mic (not source) Source at_source f in (
        copies_again_fits all_copies (commands.work_again mic (not dest) Dest at_dest g) copies_are
            (work_again_fits (not dest) Dest at_dest g
            (work_again_fits (not source) Source at_source f (setup_again_fits dest Dest e (setup_again_fits source Source d h.0)))),
        h.1,
      )

-- ---- how a step ends

starts_fit : {M : Type 0} (now : ℕ) (c : ClientState M) → ClientIsFit c → ActingIsFit (acting_at now c)
starts_fit now c h = (h.parts, h.queues)

stepped_fits : {M : Type 0} (c : ClientState M) → ClientIsFit c → ClientIsFit (stepped c)
stepped_fits c h = record { setting = h.setting; parts = h.parts; queues = h.queues }

rests_fit : {M : Type 0} (second : ℕ) (back : ContextTable ℕ) (c : ClientState M) → ClientIsFit c → ClientIsFit (resting second back c)
rests_fit second back c h = record { setting = h.setting; parts = h.parts; queues = h.queues }

ends_fit : {M : Type 0} (to : Option Acting) (back : Acting → ContextTable ℕ) (c : ClientState M) → ClientIsFit c → IfSome to ActingIsFit → ClientIsFit (ended_by to back c).0
ends_fit None back c h f = stepped_fits c h
ends_fit (Some a) back c h f = record { setting = h.setting; parts = f.0; queues = f.1 }

module _ {M W : Type 0} (ways : Ways) (draws : W → Drawn → W → Type 0) (fits : WaysAreFit ways draws) (c : ClientState M) (h : ClientIsFit c) where
  abbrev Fit : ClientState M × Outbox → Type 0
  Fit end = ClientIsFit end.0

  step_fits : (does : Acting) (back : Acting → ContextTable ℕ) (v w : W) (end : ClientState M × Outbox) → IsStep ways draws does back c v w end → ActingIsFit does → Fit end
  step_fits does back v w end step a =
      subst Fit (sym step.is)
      (ends_fit step.to back c h (goes_fit c.setting h.setting ways.means.mic fits.codes ways.started draws fits.nonces fits.tokens does v w step.to step.goes_on a))

  pub begun_by_fits : (j : ℕ) (spec : CopySpec) (now : ℕ) (drawn : Drawn) (u v w : W) (end : ClientState M × Outbox) → SpecIsFit spec → draws u drawn v
      → IsBegunBy drawn ways draws j spec now c v w end → Fit end
  begun_by_fits j spec now (Got secret) u v w end s drew step =
      let table = begun_fits j spec secret c.copies s (fits.nonces u v secret drew).are_bytes h.parts.table in
      step_fits _ _ v w end step (copied_fits (with_begun j spec secret c.copies) (desk_at now c) table h.parts, h.queues)
  begun_by_fits j spec now Failed u v w end s drew step = subst Fit (sym step.0) (stepped_fits c h)

  pub begins_fit : (j : ℕ) (spec : CopySpec) (now : ℕ) (v w : W) (end : ClientState M × Outbox) → SpecIsFit spec → IsBegun ways draws j spec now c v w end → Fit end
  begins_fit j spec now v w end s step = begun_by_fits j spec now step.drawn v step.middle w end s step.gave step.is

  pub works_fit : (side : Side) (work : Work) (now : ℕ) (v w : W) (end : ClientState M × Outbox) → WorkIsFit work → IsWork ways draws side work now c v w end → Fit end
  works_fit side work now v w end fit step =
      let a = acting_at now c in
      step_fits _ _ v w end step (h.parts, with_queue_fits side _ a (queued_fits work (queue_at side a).works fit (queue_at_fits side a h.queues)) h.queues)

  pub asks_fit : (j : ℕ) (query : Query) (now : ℕ) → Fit (query_step ways.means.mic j query now c)
  asks_fit j query now = record {
    setting = h.setting;
    parts = asked_if_fits ways.means.mic fits.codes (nat_lt j MOST_COPIES) j query _ refl h.parts;
    queues = h.queues;
  }

  pub ticks_fit : (now : ℕ) → Fit (tick_step ways.means.mic now c)
  ticks_fit now = record { setting = h.setting; parts = ticked_fits ways.means.mic fits.codes all_copies _ copies_are h.parts; queues = h.queues }

  pub retries_fit : (now : ℕ) → Fit (retry_step ways.means.mic now c)
  retries_fit now =
      let r = retried_fits ways.means.mic fits.codes (acting_at now c) (h.parts, h.queues) in
      record { setting = h.setting; parts = r.0; queues = r.1 }

  -- ---- a record

  failed_fits : (b : Bool) (second : ℕ) (side : Side) (told : InitAnswer) (back : ContextTable ℕ) → Fit (inited_unless b second side told back c)
  failed_fits true second side told back = stepped_fits c h
  failed_fits false second side told back = rests_fit second back c h

  created_fits : (b : Bool) (second : ℕ) (side : Side) (call : Call) → Fit (created b ways.means.mic second side call c)
  created_fits true second side call = rests_fit second _ c h
  created_fits false second side call = rests_fit second _ c h

  compound_fits : (o : Result CbCompound ℕ) (now : ℕ) (side : Side) (call : Call) (v w : W) (end : ClientState M × Outbox) → IsCompound o ways draws now side call c v w end → Fit end
  compound_fits (Err at) now side call v w end step = subst Fit (sym step.0) (rests_fit (second_at now c) _ c h)
  compound_fits (Ok compound) now side call v w end step =
      let o = evaluated (session_under call.under c) compound c.copies in
      let sealed = under_seal (accepted_seal c.back call) (desk_at now c) in
      step_fits _ _ v w end step
      (all_said_fits o.told (record sealed { copies = o.copies }) (copied_fits o.copies sealed (evaluated_fits (session_under call.under c) compound c.copies h.parts.table) h.parts), h.queues)

  what_fits : (what : What) (now : ℕ) (side : Side) (call : Call) (v w : W) (end : ClientState M × Outbox) → IsWhat what ways draws now side call c v w end → Fit end
  what_fits (whats.Dropped why) now side call v w end step = subst Fit (sym step.0) (rests_fit (second_at now c) _ c h)
  what_fits (whats.Denied why) now side call v w end step = subst Fit (sym step.0) (rests_fit (second_at now c) _ c h)
  what_fits (whats.Failed failure) now side call v w end step = subst Fit (sym step.0) (rests_fit (second_at now c) _ c h)
  what_fits whats.Null now side call v w end step = subst Fit (sym step.0) (rests_fit (second_at now c) _ c h)
  what_fits (whats.Init token) now side call v w end step = subst Fit (sym step.is) (failed_fits step.told.draw_failed (second_at now c) side step.told step.back)
  what_fits (whats.Create name privilege) now side call v w end step =
      subst Fit (sym step.0) (created_fits (is_misspelt (privilege_told name privilege)) (second_at now c) side call)
  what_fits whats.Destroy now side call v w end step = subst Fit (sym step.0) (rests_fit (second_at now c) _ c h)
  what_fits (whats.Compound args) now side call v w end step = compound_fits (cb_compound_of args) now side call v w end step

  judged_fits : (o : Judged) (side : Side) (message : List ℕ) (now : ℕ) (v w : W) (end : ClientState M × Outbox) → IsBytes message → IsJudged o ways draws side message now c v w end → Fit end
  judged_fits judged.Unread side message now v w end are step = subst Fit (sym step.0) (rests_fit (second_at now c) _ c h)
  judged_fits judged.Reply side message now v w end are step =
      step_fits _ _ v w end step
      (replied_fits ways.means message are fits.codes c.setting.me h.setting.me _ (free_number (second_at now c) c.back) side (acting_at now c) (h.parts, h.queues))
  judged_fits (judged.Call call) side message now v w end are step = what_fits call.what now side call v w end step

  pub hears_fit : (side : Side) (message : List ℕ) (now : ℕ) (v w : W) (end : ClientState M × Outbox) → IsBytes message → IsRecord ways draws side message now c v w end → Fit end
  hears_fit side message now v w end are step =
      judged_fits (judged_of ways.means.mic (second_at now c) programs.CALLBACK message c.back) side message now v w end are step
