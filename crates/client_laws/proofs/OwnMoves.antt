-- What a client does of itself in a step: what waits goes on, setups begin and go down, copies are asked of, and all that is
-- awaited goes out again. To copies nothing happens but that.
use Rattle.std.proofs.Common.{◌≡◌, ℕ, ◌<◌, Bool, true, false, List, [], ◌∷◌, length, Option, Some, None, refl, sym, subst, lit<}
use Rattle.std.specs.Prelude.{◌==◌, nat_le, not}
use Rattle.std.specs.List.{AllByRecursion}
use Rattle.client_copies.specs.Copies.{asking, due, is_overdue, side_of}
use Rattle.client_copies.specs.Table.{copy_at}
use Rattle.client_copies.specs.declared.copy.Asking.{Asking}
use Rattle.client_copies.specs.declared.copy.Asking.TheVariants as asking
use Rattle.client_copies.specs.declared.copy.ClientCopy.{ClientCopy}
use Rattle.client_copies.specs.declared.copy.Query.{Query}
use Rattle.client_copies.specs.declared.copy.Query.TheVariants as queries
use Rattle.client_copies.specs.declared.copy.Step.{Step}
use Rattle.client_copies.specs.declared.copy.Step.TheVariants as steps
use Rattle.client_copies.specs.declared.event.Event.{Event}
use Rattle.client_copies.specs.declared.event.Event.TheVariants as events
use Rattle.client_site.specs.Sending.{back_channel, may_begin, stepped_at}
use Rattle.client_site.specs.declared.site.OpenFile.{OpenFile}
use Rattle.client_site.specs.declared.site.Site.{Site}
use Rattle.client_steps.specs.Acting as acts
use Rattle.client_steps.specs.Acting.{Acting, downs_told, GoesOn, GoesOnAt, IsDrawnOn, with_desk}
use Rattle.client_steps.specs.Calling as calling
use Rattle.client_steps.specs.Commands as asks
use Rattle.client_steps.specs.Commands.{copies_again, ticked}
use Rattle.client_steps.specs.CopySteps as steps_of
use Rattle.client_steps.specs.CopySteps.{all_copies}
use Rattle.client_steps.specs.Desks.{in_note, noted, put_out, sent_out, send_at, site_at, told_to, with_site}
use Rattle.client_steps.specs.Replies as replies
use Rattle.client_steps.specs.Setting as setting
use Rattle.client_steps.specs.declared.copy_steps.Openings.{Openings}
use Rattle.client_steps.specs.declared.desk.Desk.{Desk}
use Rattle.client_steps.specs.declared.setting.Setting.{Setting}
use Rattle.copy_privs.specs.declared.privilege.Privilege.{Privilege}
use Rattle.file_ops.specs.declared.operation.TheConstants.{OP_CREATE_SESSION}
use Rattle.gss_ctx.specs.Seals.{Mic}
use Rattle.mount.specs.declared.calling.Under.{Under}
use Rattle.mount.specs.declared.calling.Under.TheVariants as unders
use Rattle.mount.specs.declared.machine.Sent.{Sent}
use Rattle.mount.specs.State.{is_setting_up, root_context}
use Rattle.nfs_base.specs.declared.limits.TheConstants.{PRIVILEGE_LIMIT}
use Rattle.nfs_base.specs.declared.side.Side.{Side}
use Rattle.nfs_base.specs.declared.side.Side.TheVariants.{Source, Dest}
use Rattle.nfs_base.specs.declared.status.Status.{Status}
use Rattle.outbox.specs.declared.label.CallLabel.{CallLabel}
use Rattle.outbox.specs.declared.label.CallLabel.TheVariants as labels
use Rattle.outbox.specs.declared.note.Note.TheVariants as notes
use Rattle.session_calls.specs.declared.slot_call.SlotCall.{SlotCall}
use Rattle.session_client.specs.declared.setup.Setup.{Setup}
use Rattle.session_client.specs.declared.setup.Setup.TheVariants as setups
use Rattle.streams.specs.declared.draws.Drawn.{Drawn}
use Rattle.streams.specs.declared.draws.Drawn.TheVariants.{Got, Failed}
use Rattle.copy_privs.specs.Forms.{privilege_spell}
use Rattle.write_queue.specs.Queue.{refusals}
use Rattle.write_queue.specs.Steps.{after}
use Rattle.write_queue.specs.declared.work.Line.{Line}
use Rattle.write_queue.specs.declared.work.Line.TheVariants as lines
use Rattle.write_queue.specs.declared.work.QueueEvent.{QueueEvent}
use Rattle.write_queue.specs.declared.work.Work.{Work}
use Rattle.client_laws.proofs.Changed.{IsStill, Moves, moves_none, moves_noted, moves_still, moves_then, moves_told}
use Rattle.client_laws.specs.Changes.{is_own}

abbrev pub Own : ℕ → Event → Type 0
Own j event = is_own event ≡ true

abbrev pub OwnMoves : Desk → Desk → Type 0
OwnMoves d e = Moves Own d e

-- numbers of copies are bytes
abbrev AreSmall : List ℕ → Type 0
AreSmall js = AllByRecursion (λ j. j < 256) js

all_small : AreSmall all_copies
all_small =
    (lit< tt, (lit< tt, (lit< tt, (lit< tt, (lit< tt, (lit< tt, (lit< tt, (lit< tt, (lit< tt, (lit< tt, (lit< tt, (lit< tt, (lit< tt, (lit< tt, (lit< tt, tt)))))))))))))))

-- ---- calls that go out

still_site : (side : Side) (s : Site) (d : Desk) → IsStill d (with_site side s d)
still_site Source s d = record { copies = refl; notes = refl }
still_site Dest s d = record { copies = refl; notes = refl }

still_out : (side : Side) (label : CallLabel) (sent : Option Sent) (d : Desk) → IsStill d (sent_out side label sent d)
still_out side label None d = record { copies = refl; notes = refl }
still_out side label (Some sent) d = record { copies = refl; notes = refl }

pub own_put : (side : Side) (label : CallLabel) (o : Option Sent × Site) (d : Desk) → OwnMoves d (put_out side label o d).1
own_put side label o d = moves_then (moves_still (still_site side o.1 d)) (moves_still (still_out side label o.0 (with_site side o.1 d)))

own_call : (mic : Mic) (side : Side) (place : ℕ) (under : Under) (call : Option SlotCall) (d : Desk) → OwnMoves d (calling.call_sent mic side place under call d).1
own_call mic side place under None d = moves_none d
own_call mic side place under (Some call) d = own_put side _ _ d

own_create_if : (b : Bool) (mic : Mic) (side : Side) (j : ℕ) (p : Privilege) (d : Desk) → OwnMoves d (calling.create_if b mic side j p d).1
own_create_if true mic side j p d = own_put side _ _ d
own_create_if false mic side j p d = moves_none d

own_create : (mic : Mic) (side : Side) (j : ℕ) (p : Privilege) (d : Desk) → OwnMoves d (calling.create_sent mic side j p d).1
own_create mic side j p d = own_create_if (nat_le (length (privilege_spell p)) PRIVILEGE_LIMIT) mic side j p d

own_again : (mic : Mic) (side : Side) (place : ℕ) (label : CallLabel) (d : Desk) → OwnMoves d (calling.again_sent mic side place label d)
own_again mic side place label d = own_put side label _ d

-- ---- a copy goes on

own_told : (j : ℕ) (event : Event) (d : Desk) → j < 256 → is_own event ≡ true → OwnMoves d (told_to j event d)
own_told j event d small own = moves_told j event d small own

own_opened : (b : Bool) (j : ℕ) (side : Side) (d : Desk) → j < 256 → OwnMoves d (steps_of.opened_if b j side d)
own_opened true j side d small = own_told j (events.Opened side) d small refl
own_opened false j side d small = moves_none d

own_finds : (j : ℕ) (c : ClientCopy) (o : Option Step) (d : Desk) → j < 256 → OwnMoves d (steps_of.finds_open j c o d)
own_finds j c None d small = moves_none d
own_finds j c (Some step) d small = own_opened (steps_of.is_open step c d) j (side_of step) d small

own_found : (j : ℕ) (o : Option ClientCopy) (d : Desk) → j < 256 → OwnMoves d (steps_of.copy_finds_open j o d)
own_found j None d small = moves_none d
own_found j (Some c) d small = own_finds j c (due c.stage) d small

own_step_call : {M : Type 0} (s : Setting M) (mic : Mic) (step : Step) (j : ℕ) (c : ClientCopy) (d : Desk) → OwnMoves d (steps_of.step_call s mic step j c d).1
own_step_call s mic steps.OpenSource j c d = own_call mic Source j unders.Root (setting.open_call s.me c.spec.src_file d.source) d
own_step_call s mic steps.OpenAgain j c d = own_call mic Source j unders.Root (setting.open_call s.me c.spec.src_file d.source) d
own_step_call s mic steps.OpenDest j c d = own_call mic Dest j unders.Root (setting.open_call s.me c.spec.dst_file d.dest) d
own_step_call s mic steps.AllowSource j c d = own_create mic Source j (setting.privilege_at s Source c.secret) d
own_step_call s mic steps.AllowDest j c d = own_create mic Dest j (setting.privilege_at s Dest c.secret) d
own_step_call s mic steps.Notify j c d = own_call mic Source j (unders.Child j) (setting.notify_call s c d.source) d
own_step_call s mic steps.Copy j c d = own_call mic Dest j (unders.Child j) (setting.copy_call s c d.dest) d
own_step_call s mic steps.Last j c d = own_call mic Source j unders.Root (setting.last_call c) d

own_asked_if : {M : Type 0} (b : Bool) (s : Setting M) (mic : Mic) (step : Step) (j : ℕ) (c : ClientCopy) (d : Desk) → OwnMoves d (steps_of.asked_if b s mic step j c d).1
own_asked_if true s mic step j c d = own_step_call s mic step j c d
own_asked_if false s mic step j c d = moves_none d

own_sent_if : (b : Bool) (j : ℕ) (d : Desk) → j < 256 → OwnMoves d (steps_of.sent_if b j d)
own_sent_if true j d small = own_told j events.Sent d small refl
own_sent_if false j d small = moves_none d

own_told_sent : (j : ℕ) (o : Bool × Desk) → j < 256 → OwnMoves o.1 (steps_of.told_sent j o)
own_told_sent j o small = own_sent_if o.0 j o.1 small

own_asks_step : {M : Type 0} (s : Setting M) (mic : Mic) (open_ones : Openings) (j : ℕ) (c : ClientCopy) (o : Option Step) (d : Desk) → j < 256
    → OwnMoves d (steps_of.asks_step s mic open_ones j c o d)
own_asks_step s mic open_ones j c None d small = moves_none d
own_asks_step s mic open_ones j c (Some step) d small =
    let b = steps_of.may_ask open_ones step c d in
    moves_then (own_asked_if b s mic step j c d) (own_told_sent j (steps_of.asked_if b s mic step j c d) small)

own_copy_asks : {M : Type 0} (s : Setting M) (mic : Mic) (open_ones : Openings) (j : ℕ) (o : Option ClientCopy) (d : Desk) → j < 256
    → OwnMoves d (steps_of.copy_asks s mic open_ones j o d)
own_copy_asks s mic open_ones j None d small = moves_none d
own_copy_asks s mic open_ones j (Some c) d small = own_asks_step s mic open_ones j c (due c.stage) d small

own_copy_goes_on : {M : Type 0} (s : Setting M) (mic : Mic) (open_ones : Openings) (j : ℕ) (d : Desk) → j < 256
    → OwnMoves d (steps_of.copy_goes_on s mic open_ones j d)
own_copy_goes_on s mic open_ones j d small =
    let e = steps_of.copy_finds_open j (copy_at j d.copies) d in
    moves_then (own_found j (copy_at j d.copies) d small) (own_copy_asks s mic open_ones j (copy_at j e.copies) e small)

own_copies_go_on : {M : Type 0} (s : Setting M) (mic : Mic) (open_ones : Openings) (js : List ℕ) (d : Desk) → AreSmall js
    → OwnMoves d (steps_of.copies_go_on s mic open_ones js d)
own_copies_go_on s mic open_ones [] d small = moves_none d
own_copies_go_on s mic open_ones (j ∷ js) d small =
    moves_then (own_copy_goes_on s mic open_ones j d small.0) (own_copies_go_on s mic open_ones js (steps_of.copy_goes_on s mic open_ones j d) small.1)

-- ---- writes and commits

own_line_note : (side : Side) (line : Line) (d : Desk) → OwnMoves d (noted (acts.line_note side line) d)
own_line_note side (lines.Written file count) d = moves_noted (notes.Written side file count) d (λ j. refl)
own_line_note side (lines.Committed file same) d = moves_noted (notes.Commit side file same) d (λ j. refl)
own_line_note side (lines.Refused file status) d = moves_noted (notes.Refused side file status) d (λ j. refl)

own_line : (side : Side) (line : Option Line) (d : Desk) → OwnMoves d (acts.line_noted side line d)
own_line side None d = moves_none d
own_line side (Some line) d = own_line_note side line d

own_lines : (side : Side) (ls : List Line) (d : Desk) → OwnMoves d (acts.lines_noted side ls d)
own_lines side [] d = moves_none d
own_lines side (line ∷ more) d = moves_then (own_line_note side line d) (own_lines side more (noted (acts.line_note side line) d))

pub own_queue : (side : Side) (event : QueueEvent) (a : Acting) → OwnMoves a.desk (acts.queue_told side event a).desk
own_queue Source event a = own_line Source (after event a.source_queue).0 a.desk
own_queue Dest event a = own_line Dest (after event a.dest_queue).0 a.desk

own_told_if : (b : Bool) (side : Side) (event : QueueEvent) (a : Acting) → OwnMoves a.desk (acts.told_if b side event a).desk
own_told_if true side event a = own_queue side event a
own_told_if false side event a = moves_none a.desk

own_called_for : (mic : Mic) (side : Side) (call : Option SlotCall) (event : QueueEvent) (a : Acting)
    → OwnMoves a.desk (acts.called_for mic side call event a).desk
own_called_for mic side call event a =
    let o = calling.call_sent mic side 0 unders.Root call a.desk in
    moves_then (own_call mic side 0 unders.Root call a.desk) (own_told_if o.0 side event (with_desk o.1 a))

own_open_if : {M : Type 0} (b : Bool) (s : Setting M) (mic : Mic) (side : Side) (file : ℕ) (a : Acting) → OwnMoves a.desk (acts.open_if b s mic side file a).desk
own_open_if true s mic side file a = moves_none a.desk
own_open_if false s mic side file a = own_called_for mic side _ _ a

own_work_sent : {M : Type 0} (s : Setting M) (mic : Mic) (side : Side) (work : Work) (o : Option OpenFile) (a : Acting)
    → OwnMoves a.desk (acts.work_sent s mic side work o a).desk
own_work_sent s mic side work None a = own_open_if _ s mic side _ a
own_work_sent s mic side work (Some opened_file) a = own_called_for mic side _ _ a

own_work_due : {M : Type 0} (s : Setting M) (mic : Mic) (side : Side) (o : Option Work) (a : Acting) → OwnMoves a.desk (acts.work_due s mic side o a).desk
own_work_due s mic side None a = moves_none a.desk
own_work_due s mic side (Some work) a = own_work_sent s mic side work _ a

own_work_if : {M : Type 0} (b : Bool) (s : Setting M) (mic : Mic) (side : Side) (a : Acting) → OwnMoves a.desk (acts.work_if b s mic side a).desk
own_work_if true s mic side a = own_work_due s mic side _ a
own_work_if false s mic side a = moves_none a.desk

own_queue_goes_on : {M : Type 0} (s : Setting M) (mic : Mic) (side : Side) (a : Acting) → OwnMoves a.desk (acts.queue_goes_on s mic side a).desk
own_queue_goes_on s mic side a = own_work_if _ s mic side a

own_copies_on : {M : Type 0} (s : Setting M) (mic : Mic) (a : Acting) → OwnMoves a.desk (acts.copies_on s mic a).desk
own_copies_on s mic a = own_copies_go_on s mic (acts.openings a) all_copies a.desk all_small

own_all : {M : Type 0} (s : Setting M) (mic : Mic) (a : Acting) → OwnMoves a.desk (acts.all_go_on s mic a).desk
own_all s mic a =
    let b = acts.queue_goes_on s mic Source a in
    let c = acts.queue_goes_on s mic Dest b in
    moves_then (own_queue_goes_on s mic Source a) (moves_then (own_queue_goes_on s mic Dest b) (own_copies_on s mic c))

-- ---- a setup goes down, or begins

own_downs : (side : Side) (status : Status) (js : List ℕ) (d : Desk) → AreSmall js → OwnMoves d (downs_told side status js d)
unfolding downs_told
own_downs side status [] d small = moves_none d
own_downs side status (j ∷ js) d small =
    moves_then (own_told j (events.Down side status) d small.0 refl) (own_downs side status js (told_to j (events.Down side status) d) small.1)

still_back : (o : Option ℕ) (d : Desk) → IsStill d (acts.back_ended o d)
still_back None d = record { copies = refl; notes = refl }
still_back (Some number) d = record { copies = refl; notes = refl }

own_site_down : (side : Side) (d : Desk) → OwnMoves d (acts.site_goes_down side d)
own_site_down side d =
    let e = acts.site_falls side d in
    moves_then (moves_still (still_site side _ d)) (moves_still (still_back (site_at side d).back e))

own_refused : (side : Side) (status : Status) (a : Acting) → OwnMoves a.desk (acts.all_refused side status a).desk
own_refused Source status a = own_lines Source (refusals status a.source_queue) a.desk
own_refused Dest status a = own_lines Dest (refusals status a.dest_queue) a.desk

pub own_goes_down : (side : Side) (status : Status) (a : Acting) → OwnMoves a.desk (acts.goes_down side status a).desk
own_goes_down side status a =
    let b = with_desk (downs_told side status all_copies a.desk) a in
    let c = acts.all_refused side status b in
    moves_then (own_downs side status all_copies a.desk all_small) (moves_then (own_refused side status b) (own_site_down side c.desk))

own_down_unless : (b : Bool) (side : Side) (a : Acting) → OwnMoves a.desk (acts.down_unless b side a).desk
own_down_unless true side a = moves_none a.desk
own_down_unless false side a = own_goes_down side _ a

own_begins_if : (b : Bool) (nonce : List ℕ) (token : Option (List ℕ)) (side : Side) (a : Acting) → OwnMoves a.desk (acts.begins_if b nonce token side a).desk
own_begins_if false nonce token side a = moves_none a.desk
own_begins_if true nonce token side a =
    let o = calling.begin_sent nonce token side a.desk in
    moves_then (own_put side _ _ a.desk) (own_down_unless o.0 side (with_desk o.1 a))

own_begins : (nonce : List ℕ) (token : Option (List ℕ)) (side : Side) (a : Acting) → OwnMoves a.desk (acts.begins nonce token side a).desk
own_begins nonce token side a = own_begins_if (may_begin (send_at 0 a.desk) (site_at side a.desk).mount) nonce token side a

-- ---- what waits goes on

some_is : {A : Type 0} (x y : A) → Some x ≡ Some y → x ≡ y
some_is x y e = cc

own_drawn_on : {M : Type 0} (s : Setting M) (mic : Mic) (started : List ℕ → Option (List ℕ)) (side : Side) (drawn : Drawn) (a to : Acting)
    → IsDrawnOn s mic started side drawn a (Some to) → OwnMoves a.desk to.desk
own_drawn_on s mic started side (Got nonce) a to e =
    let b = acts.begins nonce (started nonce) side a in
    subst (λ (x : Acting). OwnMoves a.desk x.desk) (sym (some_is to (acts.all_go_on s mic b) e))
    (moves_then (own_begins nonce (started nonce) side a) (own_all s mic b))
own_drawn_on s mic started side Failed a to e = absurd cc

own_at : {M W : Type 0} (o : Option Side) (s : Setting M) (mic : Mic) (started : List ℕ → Option (List ℕ)) (gives : W → Drawn → W → Type 0) (a : Acting) (v w : W) (to : Acting)
    → GoesOnAt o s mic started gives a v w (Some to) → OwnMoves a.desk to.desk
own_at None s mic started gives a v w to e =
    subst (λ (x : Acting). OwnMoves a.desk x.desk) (sym (some_is to (acts.all_go_on s mic a) e.0)) (own_all s mic a)
own_at (Some side) s mic started gives a v w to e = own_drawn_on s mic started side e.0 a to e.2

pub own_goes_on : {M W : Type 0} (s : Setting M) (mic : Mic) (started : List ℕ → Option (List ℕ)) (gives : W → Drawn → W → Type 0) (a : Acting) (v w : W) (to : Acting)
    → GoesOn s mic started gives a v w (Some to) → OwnMoves a.desk to.desk
own_goes_on s mic started gives a v w to e = own_at (acts.to_begin a) s mic started gives a v w to e

-- ---- the destination is asked

own_queried_if : (b : Bool) (j : ℕ) (query : Query) (d : Desk) → j < 256 → OwnMoves d (asks.queried_if b j query d)
own_queried_if true j query d small = own_told j (events.Queried query) d small refl
own_queried_if false j query d small = moves_none d

own_queried : (mic : Mic) (j : ℕ) (query : Query) (c : ClientCopy) (d : Desk) → j < 256 → OwnMoves d (asks.queried mic j query c d)
own_queried mic j query c d small =
    let o = calling.call_sent mic Dest j unders.Root (asks.query_call query c d) d in
    moves_then (own_call mic Dest j unders.Root (asks.query_call query c d) d) (own_queried_if o.0 j query o.1 small)

own_asked_by : (k : Asking) (mic : Mic) (j : ℕ) (query : Query) (c : ClientCopy) (d : Desk) → j < 256 → OwnMoves d (asks.asked_by k mic j query c d)
own_asked_by asking.Busy mic j query c d small = moves_noted (notes.Busy (in_note j)) d (λ i. refl)
own_asked_by asking.Idle mic j query c d small = moves_noted (notes.Idle (in_note j)) d (λ i. refl)
own_asked_by asking.Ready mic j query c d small = own_queried mic j query c d small

own_asked_of : (o : Option ClientCopy) (mic : Mic) (j : ℕ) (query : Query) (d : Desk) → j < 256 → OwnMoves d (asks.asked_of o mic j query d)
own_asked_of None mic j query d small = moves_noted (notes.Idle (in_note j)) d (λ i. refl)
own_asked_of (Some c) mic j query d small = own_asked_by (asking c) mic j query c d small

pub own_asked : (mic : Mic) (j : ℕ) (query : Query) (d : Desk) → j < 256 → OwnMoves d (asks.asked mic j query d)
own_asked mic j query d small = own_asked_of (steps_of.copy_in j d) mic j query d small

pub own_idle : (j : ℕ) (d : Desk) → OwnMoves d (noted (notes.Idle (in_note j)) d)
own_idle j d = moves_noted (notes.Idle (in_note j)) d (λ i. refl)

-- ---- a second comes

own_ticked_if : (b : Bool) (mic : Mic) (j : ℕ) (c : ClientCopy) (d : Desk) → j < 256 → OwnMoves d (asks.ticked_if b mic j c d)
own_ticked_if true mic j c d small = own_queried mic j queries.Status c d small
own_ticked_if false mic j c d small = moves_none d

own_ticked_of : (o : Option ClientCopy) (mic : Mic) (j : ℕ) (d : Desk) → j < 256 → OwnMoves d (asks.ticked_of o mic j d)
own_ticked_of None mic j d small = moves_none d
own_ticked_of (Some c) mic j d small = own_ticked_if (is_overdue d.second c) mic j c d small

own_ticks : (mic : Mic) (js : List ℕ) (d : Desk) → AreSmall js → OwnMoves d (ticked mic js d)
unfolding ticked
own_ticks mic [] d small = moves_none d
own_ticks mic (j ∷ js) d small =
    moves_then (own_ticked_of (steps_of.copy_in j d) mic j d small.0) (own_ticks mic js (asks.ticked_of (steps_of.copy_in j d) mic j d) small.1)

pub own_ticked : (mic : Mic) (d : Desk) → OwnMoves d (ticked mic all_copies d)
own_ticked mic d = own_ticks mic all_copies d all_small

-- ---- all that is awaited goes out again

own_setup_again : (mic : Mic) (b : Bool) (side : Side) (d : Desk) → OwnMoves d (asks.setup_again mic b side d)
own_setup_again mic true side d = own_again mic side 0 _ d
own_setup_again mic false side d = moves_none d

own_work_again : (mic : Mic) (b : Bool) (side : Side) (label : CallLabel) (d : Desk) → OwnMoves d (asks.work_again mic b side label d)
own_work_again mic true side label d = own_again mic side 0 label d
own_work_again mic false side label d = moves_none d

own_copies_again : (mic : Mic) (js : List ℕ) (d : Desk) → OwnMoves d (copies_again mic js d)
unfolding copies_again
own_copies_again mic [] d = moves_none d
own_copies_again mic (j ∷ js) d =
    let e = asks.copy_again mic Dest j d in
    let f = asks.copy_again mic Source j e in
    moves_then (own_again mic Dest j _ d) (moves_then (own_again mic Source j _ e) (own_copies_again mic js f))

own_setups_again : (mic : Mic) (source dest : Bool) (d : Desk) → OwnMoves d (asks.setups_again mic source dest d)
own_setups_again mic source dest d =
    moves_then (own_setup_again mic source Source d) (own_setup_again mic dest Dest (asks.setup_again mic source Source d))

own_works_again : (mic : Mic) (source dest : Bool) (at_source at_dest : CallLabel) (d : Desk) → OwnMoves d (asks.works_again mic source dest at_source at_dest d)
own_works_again mic source dest at_source at_dest d =
    moves_then (own_work_again mic (not source) Source at_source d)
    (own_work_again mic (not dest) Dest at_dest (asks.work_again mic (not source) Source at_source d))

own_all_again : (mic : Mic) (source dest : Bool) (at_source at_dest : CallLabel) (d : Desk) → OwnMoves d (asks.all_again mic source dest at_source at_dest d)
own_all_again mic source dest at_source at_dest d =
    let e = asks.setups_again mic source dest d in
    let f = asks.works_again mic source dest at_source at_dest e in
    moves_then (own_setups_again mic source dest d) (moves_then (own_works_again mic source dest at_source at_dest e) (own_copies_again mic all_copies f))

pub own_retried : (mic : Mic) (a : Acting) → OwnMoves a.desk (asks.retried mic a).desk
own_retried mic a =
    own_all_again mic (is_setting_up a.desk.source.mount) (is_setting_up a.desk.dest.mount) (asks.queue_label a.source_queue) (asks.queue_label a.dest_queue) a.desk

-- ---- a setup goes on

still_back_with : (back : Option ℕ) (side : Side) (d : Desk) → IsStill d (replies.with_back back side d)
still_back_with back Source d = record { copies = refl; notes = refl }
still_back_with back Dest d = record { copies = refl; notes = refl }

still_made : (free : Option ℕ) (root : Option (List ℕ × List ℕ)) (side : Side) (d : Desk) → IsStill d (replies.back_made free root side d)
still_made None root side d = record { copies = refl; notes = refl }
still_made (Some number) None side d = record { copies = refl; notes = refl }
still_made (Some number) (Some root) Source d = record { copies = refl; notes = refl }
still_made (Some number) (Some root) Dest d = record { copies = refl; notes = refl }

still_back_if : (b : Bool) (free : Option ℕ) (root : Option (List ℕ × List ℕ)) (side : Side) (d : Desk) → IsStill d (replies.back_if b free root side d)
still_back_if true free root side d = still_made free root side d
still_back_if false free root side d = record { copies = refl; notes = refl }

own_session : (mic : Mic) (me : List ℕ) (free : Option ℕ) (side : Side) (d : Desk) → OwnMoves d (replies.session_asked mic me free side d)
own_session mic me free side d =
    let label = labels.Operation OP_CREATE_SESSION in
    let sent = stepped_at mic (send_at 0 d) me (back_channel free (site_at side d)) (site_at side d) in
    let o = put_out side label sent d in
    moves_then (own_put side label sent d) (moves_still (still_back_if o.0 free (replies.root_key (root_context (site_at side d).mount)) side o.1))

own_setup_by : (s : Setup) (mic : Mic) (me : List ℕ) (free : Option ℕ) (side : Side) (d : Desk) → OwnMoves d (replies.setup_by s mic me free side d)
own_setup_by (setups.Rooted verifier) mic me free side d = own_put side _ _ d
own_setup_by (setups.Registered client sequence) mic me free side d = own_session mic me free side d
own_setup_by (setups.Joined client session) mic me free side d = own_put side _ _ d
own_setup_by setups.Down mic me free side d = moves_none d
own_setup_by (setups.Up client session) mic me free side d = moves_none d

pub own_setup : (mic : Mic) (me : List ℕ) (free : Option ℕ) (side : Side) (d : Desk) → OwnMoves d (replies.setup_goes_on mic me free side d)
own_setup mic me free side d = own_setup_by _ mic me free side d

-- ---- an OPEN was answered

pub own_file : (side : Side) (opened_file : OpenFile) (d : Desk) → OwnMoves d (replies.file_added side opened_file d)
own_file side opened_file d = moves_still (still_site side _ d)

own_opener : (b : Bool) (side : Side) (place : ℕ) (a : Acting) → place < 256 → OwnMoves a.desk (replies.opener_told b side place a).desk
own_opener true side place a small = own_queue side _ a
own_opener false side place a small = own_told place (events.Opened side) a.desk small refl

pub own_opens : (side : Side) (place : ℕ) (opened_file : OpenFile) (a : Acting) → place < 256 → OwnMoves a.desk (replies.opened side place opened_file a).desk
own_opens side place opened_file a small =
    let b = acts.on_desk (replies.file_added side opened_file) a in
    moves_then (own_file side opened_file a.desk) (own_opener (place == 0) side place b small)
