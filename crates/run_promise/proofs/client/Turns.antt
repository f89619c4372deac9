-- How many calls a client's step makes at most.
use Rattle.std.proofs.Common.{◌≡◌, ℕ, ◌+◌, ◌≤◌, Bool, true, false, List, [], ◌∷◌, Option, Some, None, Result, Ok, Err, refl, sym, subst, arith}
use Rattle.std.proofs.lemmas.Option.{same_Some}
use Rattle.std.specs.Prelude.{◌==◌, nat_lt}
use Rattle.callbacks.specs.Callbacks.{Outcome, evaluated}
use Rattle.callbacks.specs.declared.evaluation.Told.{Told}
use Rattle.client_copies.specs.Table.{accepted_at}
use Rattle.client_copies.specs.declared.event.Event.TheVariants as events
use Rattle.client_copies.specs.declared.table.TheConstants.{MOST_COPIES}
use Rattle.client_core.specs.Backs.{back_added, free_number}
use Rattle.client_core.specs.Callbacks.{IsCompound, all_said, called_back, session_under, told_of}
use Rattle.client_core.specs.Calls.{created, inited_unless, is_misspelt}
use Rattle.client_core.specs.Commands.{IsBegunBy, begun_with, with_work}
use Rattle.client_core.specs.Endings.{IsStep, Ways, acting_at, desk_at, ended_by}
use Rattle.client_core.specs.Records.{IsJudged, IsWhat, heard}
use Rattle.client_core.specs.State.{ClientState, second_at}
use Rattle.client_laws.specs.Turns.{IsTurn, Turn, Asks, Begins, Hears, Retries, Ticks, Works}
use Rattle.client_site.specs.Falling.{gone_down}
use Rattle.client_site.specs.Sending.{back_channel, begun_in, may_begin, stepped_at}
use Rattle.client_site.specs.Sites.{with_file}
use Rattle.client_site.specs.Taking.{found_in}
use Rattle.client_site.specs.declared.site.OpenFile.{OpenFile}
use Rattle.client_site.specs.declared.taking.Found.{Found}
use Rattle.client_steps.specs.Acting as acts
use Rattle.client_steps.specs.Acting.{Acting, GoesOn, GoesOnAt, IsDrawnOn, downs_told, on_desk, queue_at, to_begin, with_desk}
use Rattle.client_steps.specs.Calling.{begin_sent, call_sent, step_sent}
use Rattle.client_steps.specs.Commands.{queue_label}
use Rattle.client_steps.specs.CopySteps.{all_copies, file_on, is_up, some_opens}
use Rattle.client_steps.specs.Desks.{noted, posted, said_by, send_at, site_at, told_to}
use Rattle.client_steps.specs.Replies as replies
use Rattle.client_steps.specs.Setting.{open_call}
use Rattle.client_steps.specs.declared.deeds.Deed.{Deed}
use Rattle.client_steps.specs.declared.deeds.Deed.TheVariants as deeds
use Rattle.client_steps.specs.declared.desk.Desk.{Desk}
use Rattle.client_steps.specs.declared.setting.Setting.{Setting}
use Rattle.copy_privs.specs.Told.{privilege_told}
use Rattle.file_ops.specs.declared.operation.TheConstants.{OP_CREATE_SESSION}
use Rattle.gss_ctx.specs.Seals.{Mic}
use Rattle.gss_ctx.specs.Table.{ContextTable}
use Rattle.mount.specs.State.{is_setting_up, root_context, setup_in}
use Rattle.mount.specs.Taking.{Means}
use Rattle.mount.specs.declared.calling.Under.TheVariants.{Root}
use Rattle.nfs_base.specs.declared.copy_spec.CopySpec.{CopySpec}
use Rattle.nfs_base.specs.declared.side.Side.{Side}
use Rattle.nfs_base.specs.declared.side.Side.TheVariants.{Source, Dest}
use Rattle.nfs_base.specs.declared.state_id.StateId.{StateId}
use Rattle.nfs_base.specs.declared.status.Status.{Status}
use Rattle.nfs_base.specs.declared.status.TheConstants.Status as statuses
use Rattle.nfs_compound.specs.Compounds.{cb_compound_of}
use Rattle.nfs_compound.specs.declared.cb_compound.CbCompound.{CbCompound}
use Rattle.outbox.specs.declared.label.CallLabel.{CallLabel}
use Rattle.outbox.specs.declared.label.CallLabel.TheVariants as labels
use Rattle.outbox.specs.declared.outgoing.Outbox.{Outbox}
use Rattle.outbox.specs.declared.outgoing.Outgoing.{Outgoing}
use Rattle.rpc_calls.specs.Answers.{accepted_seal, counted}
use Rattle.rpc_calls.specs.Judging.{judged_of}
use Rattle.rpc_calls.specs.declared.call.Call.{Call}
use Rattle.rpc_calls.specs.declared.call.Judged.{Judged}
use Rattle.rpc_calls.specs.declared.call.Judged.TheVariants as judged
use Rattle.rpc_calls.specs.declared.call.TheConstants.Program as programs
use Rattle.rpc_calls.specs.declared.call.What.TheVariants as whats
use Rattle.rpc_calls.specs.declared.call.What.{What}
use Rattle.rpc_calls.specs.declared.contexts.InitAnswer.{InitAnswer}
use Rattle.run_promise.proofs.client.Calls.{Calls, all_again_few, and_then, at_most, call_one, copies_each, no_call, put_one, query_if_one, said_none, site_none, ticked_each, told_none, wider}
use Rattle.session_calls.specs.declared.slot_call.SlotCall.{SlotCall}
use Rattle.session_calls.specs.declared.sole_call.BackChannel.{BackChannel}
use Rattle.session_client.specs.declared.setup.Setup.{Setup}
use Rattle.session_client.specs.declared.setup.Setup.TheVariants as setups
use Rattle.streams.specs.declared.draws.Drawn.{Drawn}
use Rattle.streams.specs.declared.draws.Drawn.TheVariants.{Got, Failed}
use Rattle.write_queue.specs.Queue.{due, file_of, refusals}
use Rattle.write_queue.specs.Steps.{after}
use Rattle.write_queue.specs.declared.work.Line.{Line}
use Rattle.write_queue.specs.declared.work.QueueEvent.{QueueEvent}
use Rattle.write_queue.specs.declared.work.QueueEvent.TheVariants as works
use Rattle.write_queue.specs.declared.work.Work.{Work}

-- ---- the queues

line_none : (side : Side) (line : Option Line) (d : Desk) → Calls 0 d (acts.line_noted side line d)
line_none side None d = at_most 0
line_none side (Some line) d = no_call refl

lines_none : (side : Side) (lines : List Line) (d : Desk) → Calls 0 d (acts.lines_noted side lines d)
lines_none side [] d = at_most 0
lines_none side (line ∷ more) d = and_then (no_call refl) (lines_none side more (noted (acts.line_note side line) d))

queue_none : (side : Side) (event : QueueEvent) (a : Acting) → Calls 0 a.desk (acts.queue_told side event a).desk
queue_none side event a = line_none side (after event (queue_at side a)).0 a.desk

told_if_none : (b : Bool) (side : Side) (event : QueueEvent) (a : Acting) → Calls 0 a.desk (acts.told_if b side event a).desk
told_if_none true side event a = queue_none side event a
told_if_none false side event a = at_most 0

module _ {M : Type 0} (s : Setting M) (mic : Mic) where
  sent_one : (side : Side) (event : QueueEvent) (o : Bool × Desk) (a : Acting) → Calls 1 a.desk o.1 → Calls 1 a.desk (acts.sent_work side event o a).desk
  sent_one side event o a one = and_then one (told_if_none o.0 side event (with_desk o.1 a))

  called_one : (side : Side) (call : Option SlotCall) (event : QueueEvent) (a : Acting) → Calls 1 a.desk (acts.called_for mic side call event a).desk
  called_one side call event a = sent_one side event (call_sent mic side 0 Root call a.desk) a (call_one mic side 0 Root call a.desk)

  open_one : (b : Bool) (side : Side) (file : ℕ) (a : Acting) → Calls 1 a.desk (acts.open_if b s mic side file a).desk
  open_one true side file a = at_most 1
  open_one false side file a = called_one side (open_call s.me file (site_at side a.desk)) works.OpenSent a

  work_sent_one : (side : Side) (work : Work) (o : Option OpenFile) (a : Acting) → Calls 1 a.desk (acts.work_sent s mic side work o a).desk
  work_sent_one side work None a = open_one (some_opens side (file_of work) all_copies a.desk) side (file_of work) a
  work_sent_one side work (Some opened_file) a = called_one side (acts.work_call opened_file work) works.Sent a

  work_due_one : (side : Side) (work : Option Work) (a : Acting) → Calls 1 a.desk (acts.work_due s mic side work a).desk
  work_due_one side None a = at_most 1
  work_due_one side (Some work) a = work_sent_one side work (file_on side (file_of work) a.desk) a

  work_if_one : (b : Bool) (side : Side) (a : Acting) → Calls 1 a.desk (acts.work_if b s mic side a).desk
  work_if_one false side a = at_most 1
  work_if_one true side a = work_due_one side (due (queue_at side a)) a

  queue_one : (side : Side) (a : Acting) → Calls 1 a.desk (acts.queue_goes_on s mic side a).desk
  queue_one side a = work_if_one (is_up side a.desk) side a

  copies_few : (a : Acting) → Calls 15 a.desk (acts.copies_on s mic a).desk
  copies_few a = copies_each s mic (acts.openings a) all_copies a.desk

  -- both queues, and the copies
  all_few : (a : Acting) → Calls 17 a.desk (acts.all_go_on s mic a).desk
  all_few a =
      let b = acts.queue_goes_on s mic Source a in
      and_then (and_then (queue_one Source a) (queue_one Dest b)) (copies_few (acts.queue_goes_on s mic Dest b))

-- ---- setups that go down or begin

downs_none : (side : Side) (status : Status) (js : List ℕ) (d : Desk) → Calls 0 d (downs_told side status js d)
unfolding downs_told
downs_none side status [] d = at_most 0
downs_none side status (j ∷ js) d = and_then (told_none j (events.Down side status) d) (downs_none side status js (told_to j (events.Down side status) d))

back_none : (back : Option ℕ) (d : Desk) → Calls 0 d (acts.back_ended back d)
back_none None d = at_most 0
back_none (Some number) d = no_call refl

site_down_none : (side : Side) (d : Desk) → Calls 0 d (acts.site_goes_down side d)
site_down_none side d = and_then (site_none side (gone_down (site_at side d)) d) (back_none (site_at side d).back (acts.site_falls side d))

refused_none : (side : Side) (status : Status) (a : Acting) → Calls 0 a.desk (acts.all_refused side status a).desk
refused_none side status a = lines_none side (refusals status (queue_at side a)) a.desk

down_none : (side : Side) (status : Status) (a : Acting) → Calls 0 a.desk (acts.goes_down side status a).desk
down_none side status a =
    let b = on_desk (downs_told side status all_copies) a in
    and_then (and_then (downs_none side status all_copies a.desk) (refused_none side status b)) (site_down_none side (acts.all_refused side status b).desk)

unless_none : (b : Bool) (side : Side) (a : Acting) → Calls 0 a.desk (acts.down_unless b side a).desk
unless_none true side a = at_most 0
unless_none false side a = down_none side statuses.ACCESS a

begun_one : (o : Bool × Desk) (side : Side) (a : Acting) → Calls 1 a.desk o.1 → Calls 1 a.desk (acts.down_unless o.0 side (with_desk o.1 a)).desk
begun_one o side a one = and_then one (unless_none o.0 side (with_desk o.1 a))

begins_one : (b : Bool) (nonce : List ℕ) (token : Option (List ℕ)) (side : Side) (a : Acting) → Calls 1 a.desk (acts.begins_if b nonce token side a).desk
begins_one false nonce token side a = at_most 1
begins_one true nonce token side a =
    begun_one (begin_sent nonce token side a.desk) side a
    (put_one side labels.Init (begun_in (send_at 0 a.desk) nonce token (site_at side a.desk)) a.desk)

-- ---- what was done goes on

module _ {M : Type 0} (s : Setting M) (mic : Mic) (started : List ℕ → Option (List ℕ)) where
  begins_few : (nonce : List ℕ) (side : Side) (a : Acting) → Calls 18 a.desk (acts.all_go_on s mic (acts.begins nonce (started nonce) side a)).desk
  begins_few nonce side a =
      and_then (begins_one (may_begin (send_at 0 a.desk) (site_at side a.desk).mount) nonce (started nonce) side a)
      (all_few s mic (acts.begins nonce (started nonce) side a))

  drawn_few : (side : Side) (drawn : Drawn) (a b : Acting) → IsDrawnOn s mic started side drawn a (Some b) → Calls 18 a.desk b.desk
  drawn_few side (Got nonce) a b is = subst (λ (x : Acting). Calls 18 a.desk x.desk) (sym (same_Some b _ is)) (begins_few nonce side a)
  drawn_few side Failed a b is = absurd (cc)

  goes_few : {W : Type 0} (o : Option Side) (gives : W → Drawn → W → Type 0) (a b : Acting) (v w : W) → GoesOnAt o s mic started gives a v w (Some b)
      → Calls 18 a.desk b.desk
  goes_few None gives a b v w on = subst (λ (x : Acting). Calls 18 a.desk x.desk) (sym (same_Some b _ on.0)) (wider 1 (all_few s mic a))
  goes_few (Some side) gives a b v w on = drawn_few side on.0 a b on.2

-- ---- a reply

back_made_none : (back : Option ℕ) (root : Option (List ℕ × List ℕ)) (side : Side) (d : Desk) → Calls 0 d (replies.back_made back root side d)
back_made_none None root side d = at_most 0
back_made_none (Some number) None side d = at_most 0
back_made_none (Some number) (Some root) side d =
    let e = record d { made = Some root.1 } in
    and_then (made_none root.1 d) (site_none side (record (site_at side e) { back = Some number }) e)
  where
    made_none : (key : List ℕ) (d : Desk) → Calls 0 d (record d { made = Some key })
    made_none key d = no_call refl

back_if_none : (b : Bool) (free : Option ℕ) (root : Option (List ℕ × List ℕ)) (side : Side) (d : Desk) → Calls 0 d (replies.back_if b free root side d)
back_if_none true free root side d = back_made_none free root side d
back_if_none false free root side d = at_most 0

session_one : (mic : Mic) (me : List ℕ) (free : Option ℕ) (side : Side) (d : Desk) → Calls 1 d (replies.session_asked mic me free side d)
session_one mic me free side d =
    let o = step_sent mic me side (back_channel free (site_at side d)) (labels.Operation OP_CREATE_SESSION) d in
    and_then (step_one mic me side (back_channel free (site_at side d)) (labels.Operation OP_CREATE_SESSION) d)
    (back_if_none o.0 free (replies.root_key (root_context (site_at side d).mount)) side o.1)
  where
    step_one : (mic : Mic) (me : List ℕ) (side : Side) (back : Option BackChannel) (label : CallLabel) (d : Desk)
        → Calls 1 d (step_sent mic me side back label d).1
    step_one mic me side back label d = put_one side label (stepped_at mic (send_at 0 d) me back (site_at side d)) d

setup_by_one : (setup : Setup) (mic : Mic) (me : List ℕ) (free : Option ℕ) (side : Side) (d : Desk) → Calls 1 d (replies.setup_by setup mic me free side d)
setup_by_one setups.Down mic me free side d = at_most 1
setup_by_one (setups.Rooted verifier) mic me free side d = put_one side _ _ d
setup_by_one (setups.Registered client sequence) mic me free side d = session_one mic me free side d
setup_by_one (setups.Joined client session) mic me free side d = put_one side _ _ d
setup_by_one (setups.Up client session) mic me free side d = at_most 1

opener_none : (b : Bool) (side : Side) (place : ℕ) (a : Acting) → Calls 0 a.desk (replies.opener_told b side place a).desk
opener_none true side place a = queue_none side works.Opened a
opener_none false side place a = told_none place (events.Opened side) a.desk

opened_none : (side : Side) (place : ℕ) (opened_file : OpenFile) (a : Acting) → Calls 0 a.desk (replies.opened side place opened_file a).desk
opened_none side place opened_file a =
    and_then (site_none side (with_file opened_file (site_at side a.desk)) a.desk)
    (opener_none (place == 0) side place (on_desk (replies.file_added side opened_file) a))

started_none : (j : ℕ) (id : StateId) (sent_at : ℕ) (d : Desk) → Calls 0 d (replies.started j id sent_at d)
started_none j id sent_at d =
    and_then (no_call refl) (said_none j (accepted_at j id sent_at d.copies).0 (record d { copies = (accepted_at j id sent_at d.copies).1 }))

done_one : (deed : Deed) (mic : Mic) (me : List ℕ) (free : Option ℕ) (side : Side) (place sent_at : ℕ) (a : Acting)
    → Calls 1 a.desk (replies.done deed mic me free side place sent_at a).desk
done_one deeds.Rests mic me free side place sent_at a = at_most 1
done_one deeds.Goes mic me free side place sent_at a = setup_by_one (setup_in (site_at side a.desk).mount.standing) mic me free side a.desk
done_one (deeds.Falls status) mic me free side place sent_at a = wider 1 (down_none side status a)
done_one (deeds.Opens opened_file) mic me free side place sent_at a = wider 1 (opened_none side place opened_file a)
done_one (deeds.Queue event) mic me free side place sent_at a = wider 1 (queue_none side event a)
done_one (deeds.Copy event) mic me free side place sent_at a = wider 1 (told_none place event a.desk)
done_one (deeds.Starts id) mic me free side place sent_at a = wider 1 (started_none place id sent_at a.desk)

answered_one : (setting_up : Bool) (mic : Mic) (me : List ℕ) (free : Option ℕ) (side : Side) (found : Option Found) (a : Acting)
    → Calls 1 a.desk (replies.answered setting_up mic me free side found a).desk
answered_one setting_up mic me free side None a = wider 1 (no_call refl)
answered_one setting_up mic me free side (Some found) a =
    let b = on_desk (replies.under_seal found.accepted) a in
    and_then (no_call refl) (done_one (replies.deed_of setting_up found.told side found.place found.sent_at b) mic me free side found.place found.sent_at b)

taken_none : (means : Means) (message : List ℕ) (side : Side) (d : Desk) → Calls 0 d (replies.taken means message side d).1
taken_none means message side d = site_none side (found_in means message (site_at side d)).1 d

replied_one : (means : Means) (me : List ℕ) (free : Option ℕ) (side : Side) (message : List ℕ) (a : Acting)
    → Calls 1 a.desk (replies.replied means me free side message a).desk
replied_one means me free side message a =
    let o = replies.taken means message side a.desk in
    and_then (taken_none means message side a.desk)
    (answered_one (is_setting_up (site_at side a.desk).mount) means.mic me free side o.0 (with_desk o.1 a))

-- ---- a callback

all_said_none : (told : List Told) (d : Desk) → Calls 0 d (all_said told d)
all_said_none [] d = at_most 0
all_said_none (one ∷ more) d = and_then (said_none one.copy one.said d) (all_said_none more (said_by one.copy one.said d))

told_of_none : {M : Type 0} (mic : Mic) (side : Side) (call : Call) (compound : CbCompound) (o : Outcome) (c : ClientState M) (d : Desk)
    → Calls 0 d (told_of mic side call compound o c d)
told_of_none mic side call compound o c d =
    let e = record d { copies = o.copies } in
    and_then (and_then (no_call refl) (all_said_none o.told e)) (posted_none _ (all_said o.told e))
  where
    posted_none : (one : Outgoing) (d : Desk) → Calls 0 d (posted one d)
    posted_none one d = no_call refl

called_back_none : {M : Type 0} (mic : Mic) (side : Side) (call : Call) (compound : CbCompound) (c : ClientState M) (d : Desk)
    → Calls 0 d (called_back mic side call compound c d)
called_back_none mic side call compound c d =
    and_then (no_call refl)
    (told_of_none mic side call compound (evaluated (session_under call.under c) compound d.copies) c (replies.under_seal (accepted_seal c.back call) d))

-- ---- the end of a step

-- from one client to another at most so many calls were made
pub record CallsFew {M : Type 0} (n : ℕ) (c d : ClientState M) : Type 0 where
  pub few : d.calls ≤ c.calls + n

rested : {M : Type 0} {c d : ClientState M} → d.calls ≡ c.calls → CallsFew 34 c d
rested same = record { few = omega (arith, same) }

at_desk : {M : Type 0} {n : ℕ} (more now : ℕ) {c d : ClientState M} {e : Desk} → Calls n (desk_at now c) e → d.calls ≡ e.calls → CallsFew (n + more) c d
at_desk more now calls same = let few = calls.few in record { few = omega (arith, few, same) }

module _ {M W : Type 0} (ways : Ways) (gives : W → Drawn → W → Type 0) where
  ended_few : (does : Acting) (back : Acting → ContextTable ℕ) (now : ℕ) (c : ClientState M) (v w : W) (to : Option Acting) → Calls 1 (desk_at now c) does.desk
      → GoesOn c.setting ways.means.mic ways.started gives does v w to → CallsFew 34 c (ended_by to back c).0
  ended_few does back now c v w None before on = rested refl
  ended_few does back now c v w (Some a) before on =
      at_desk 15 now (and_then before (goes_few c.setting ways.means.mic ways.started (to_begin does) gives does a v w on)) refl

  step_few : (does : Acting) (back : Acting → ContextTable ℕ) (now : ℕ) (c : ClientState M) (v w : W) (end : ClientState M × Outbox)
      → Calls 1 (desk_at now c) does.desk → IsStep ways gives does back c v w end → CallsFew 34 c end.0
  step_few does back now c v w end before step =
      subst (λ (e : ClientState M × Outbox). CallsFew 34 c e.0) (sym step.is) (ended_few does back now c v w step.to before step.goes_on)

  -- an end that is told, in which at most so many calls were made
  told_few : {c : ClientState M} {end made : ClientState M × Outbox} → end ≡ made → CallsFew 34 c made.0 → CallsFew 34 c end.0
  told_few {c} is few = subst (λ (e : ClientState M × Outbox). CallsFew 34 c e.0) (sym is) few

  -- ---- commands

  begun_few : (drawn : Drawn) (j : ℕ) (spec : CopySpec) (now : ℕ) (c : ClientState M) (v w : W) (end : ClientState M × Outbox)
      → IsBegunBy drawn ways gives j spec now c v w end → CallsFew 34 c end.0
  begun_few (Got secret) j spec now c v w end step =
      step_few (on_desk (begun_with j spec secret) (acting_at now c)) (λ a. c.back) now c v w end (wider 1 (no_call refl)) step
  begun_few Failed j spec now c v w end step = told_few step.0 (rested refl)

  -- ---- calls of the callback program

  inited_few : (failed : Bool) (second : ℕ) (side : Side) (told : InitAnswer) (back : ContextTable ℕ) (c : ClientState M)
      → CallsFew 34 c (inited_unless failed second side told back c).0
  inited_few true second side told back c = rested refl
  inited_few false second side told back c = rested refl

  created_few : (misspelt : Bool) (mic : Mic) (second : ℕ) (side : Side) (call : Call) (c : ClientState M)
      → CallsFew 34 c (created misspelt mic second side call c).0
  created_few true mic second side call c = rested refl
  created_few false mic second side call c = rested refl

  compound_few : (o : Result CbCompound ℕ) (now : ℕ) (side : Side) (call : Call) (c : ClientState M) (v w : W) (end : ClientState M × Outbox)
      → IsCompound o ways gives now side call c v w end → CallsFew 34 c end.0
  compound_few (Err at) now side call c v w end step = told_few step.0 (rested refl)
  compound_few (Ok compound) now side call c v w end step =
      step_few (on_desk (called_back ways.means.mic side call compound c) (acting_at now c)) (λ a. counted (second_at now c) call c.back) now c v w end
      (wider 1 (called_back_none ways.means.mic side call compound c (desk_at now c))) step

  what_few : (what : What) (now : ℕ) (side : Side) (call : Call) (c : ClientState M) (v w : W) (end : ClientState M × Outbox)
      → IsWhat what ways gives now side call c v w end → CallsFew 34 c end.0
  what_few (whats.Dropped why) now side call c v w end step = told_few step.0 (rested refl)
  what_few (whats.Denied why) now side call c v w end step = told_few step.0 (rested refl)
  what_few (whats.Failed failure) now side call c v w end step = told_few step.0 (rested refl)
  what_few whats.Null now side call c v w end step = told_few step.0 (rested refl)
  what_few (whats.Init token) now side call c v w end step =
      told_few step.is (inited_few step.told.draw_failed (second_at now c) side step.told step.back c)
  what_few (whats.Create name privilege) now side call c v w end step =
      told_few step.0 (created_few (is_misspelt (privilege_told name privilege)) ways.means.mic (second_at now c) side call c)
  what_few whats.Destroy now side call c v w end step = told_few step.0 (rested refl)
  what_few (whats.Compound args) now side call c v w end step = compound_few (cb_compound_of args) now side call c v w end step

  judged_few : (o : Judged) (side : Side) (message : List ℕ) (now : ℕ) (c : ClientState M) (v w : W) (end : ClientState M × Outbox)
      → IsJudged o ways gives side message now c v w end → CallsFew 34 c end.0
  judged_few judged.Unread side message now c v w end step = told_few step.0 (rested refl)
  judged_few judged.Reply side message now c v w end step =
      step_few (heard ways side message now c) (λ a. back_added ways.means.derived c.setting.me (second_at now c) a.desk.made c.back) now c v w end
      (replied_one ways.means c.setting.me (free_number (second_at now c) c.back) side message (acting_at now c)) step
  judged_few (judged.Call call) side message now c v w end step = what_few call.what now side call c v w end step

  -- ---- every turn

  pub turn_few : (turn : Turn) (c : ClientState M) (v w : W) (end : ClientState M × Outbox) → IsTurn ways gives turn c v w end → CallsFew 34 c end.0
  turn_few (Begins j spec now) c v w end step = begun_few step.drawn j spec now c step.middle w end step.is
  turn_few (Asks query j now) c v w end step =
      told_few step.0 (at_desk 33 now (query_if_one ways.means.mic (nat_lt j MOST_COPIES) j query (desk_at now c)) refl)
  turn_few (Works side work now) c v w end step =
      step_few (with_work side work (acting_at now c)) (λ a. c.back) now c v w end (wider 1 (no_call refl)) step
  turn_few (Ticks now) c v w end step = told_few step.0 (at_desk 19 now (ticked_each ways.means.mic all_copies (desk_at now c)) refl)
  turn_few (Retries now) c v w end step =
      told_few step.0 (at_desk 0 now (all_again_few ways.means.mic (is_setting_up c.source.mount) (is_setting_up c.dest.mount)
      (queue_label c.source_queue) (queue_label c.dest_queue) (desk_at now c)) refl)
  turn_few (Hears side message now) c v w end step =
      judged_few (judged_of ways.means.mic (second_at now c) programs.CALLBACK message c.back) side message now c v w end step
