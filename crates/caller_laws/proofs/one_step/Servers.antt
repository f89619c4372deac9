-- A step of a mount leaves its server, and its root while it isn't lost.
use Rattle.std.proofs.Common.{◌≡◌, ◌∙◌, ℕ, Bool, true, false, List, Option, Some, None, Result, Ok, Err, refl, sym, ap}
use Rattle.caller_laws.specs.Good.{Identity, IsGood}
use Rattle.caller_laws.specs.Lawful.{Suits}
use Rattle.caller_laws.specs.Moves.{Again, Begin, BeginAnew, Falls, Finish, Forgets, GivesUp, InSlot, Make, Move, Reclaim, Rests, Send, Sends, SetUp, Takes, done, sent_by}
use Rattle.caller_laws.specs.View.{Above}
use Rattle.gss_ctx.specs.Seals.{Mic}
use Rattle.gss_ctx.specs.declared.begin.Begun.{Begun}
use Rattle.gss_ctx.specs.declared.begin.Begun.TheVariants as begins
use Rattle.mount.specs.Sending as sending
use Rattle.mount.specs.State.{Mounted, awaited_at, context_of, emptied, is_present, kept_in, root_name, setup_in}
use Rattle.mount.specs.Taking.{Means, after_call, after_create, after_init, after_reply, after_setup, after_step, by_aim, by_awaiting, by_context, by_pending, child_for, fallen_if, parent_of}
use Rattle.mount.specs.declared.calling.Ending.{Ending}
use Rattle.mount.specs.declared.machine.SendAt.{SendAt}
use Rattle.mount.specs.declared.machine.Sent as out
use Rattle.mount.specs.declared.state.Aim.{Aim}
use Rattle.mount.specs.declared.state.Aim.TheVariants as aims
use Rattle.mount.specs.declared.state.Awaiting.{Awaiting}
use Rattle.mount.specs.declared.state.Context.{Context}
use Rattle.mount.specs.declared.state.Pending.{Pending}
use Rattle.mount.specs.declared.state.Pending.TheVariants.{Init, Under}
use Rattle.mount.specs.declared.state.Standing.{Standing}
use Rattle.mount.specs.declared.state.Standing.TheVariants.{Down, Rooted}
use Rattle.mount.specs.declared.taking.Heard.{Heard}
use Rattle.nfs_base.specs.declared.seal.Seal.{Seal}
use Rattle.nfs_base.specs.declared.status.Status.{Status}
use Rattle.nfs_compound.specs.declared.reply.Reply.{Reply}
use Rattle.session_calls.specs.declared.slot_call.SlotCall.TheVariants.{ReclaimComplete}
use Rattle.session_calls.specs.declared.sole_call.BackChannel.{BackChannel}
use Rattle.session_client.specs.Answers.{child_of, taken_of}
use Rattle.session_client.specs.Asked.{ops_of}
use Rattle.session_client.specs.Pending.{Asking, Beginning}
use Rattle.session_client.specs.Setup.{after_answer}
use Rattle.session_client.specs.declared.answers.Taken.{Taken}
use Rattle.session_client.specs.declared.answers.Taken.TheVariants as answers
use Rattle.session_client.specs.declared.answers.TakenChild.{TakenChild}
use Rattle.session_client.specs.declared.answers.TakenChild.TheVariants as children
use Rattle.session_client.specs.declared.asked.Asked.{Asked}
use Rattle.session_client.specs.declared.sealing.SealedCall.{SealedCall}
use Rattle.session_client.specs.declared.setup.Setup.{Setup}
use Rattle.session_client.specs.declared.setup.Setup.TheVariants as setups

-- ---- a record is taken

abbrev Same : Mounted → Heard × Mounted → Type 0
Same m o = o.1.server ≡ m.server

init_server : (place : ℕ) (init : Beginning) (begun : Begun) (m : Mounted) → Same m (after_init place init begun m)
init_server place init (begins.Made handle key) m = refl
init_server place init (begins.Refused major) m = refl
init_server place init (begins.Failed stat) m = refl
init_server place init (begins.Denied why) m = refl
init_server place init begins.Unmatched m = refl

create_server : (derived : List ℕ → ℕ → List ℕ → List ℕ) (place child : ℕ) (c : Context) (seal : Seal) (xid : ℕ) (taken : TakenChild) (m : Mounted)
    → Same m (after_create derived place child (parent_of c) seal xid taken m)
create_server derived place child c seal xid (children.Made handle) m = refl
create_server derived place child c seal xid (children.Refused major) m = refl
create_server derived place child c seal xid children.Misspelt m = refl
create_server derived place child c seal xid (children.Failed stat) m = refl
create_server derived place child c seal xid (children.Denied why) m = refl
create_server derived place child c seal xid children.Unmatched m = refl

fallen_server : (b : Bool) (m : Mounted) → (fallen_if b m).server ≡ m.server
fallen_server true m = refl
fallen_server false m = refl

step_server : (o : Result Setup Status) (accepted : Option Seal) (m : Mounted) → Same m (after_step o accepted m)
step_server (Ok setup) accepted m = refl
step_server (Err status) accepted m = fallen_server _ m

setup_server : (st : Standing) (reply : Reply) (accepted : Option Seal) (m : Mounted) → Same m (after_setup st reply accepted m)
setup_server (Down kept) reply accepted m = refl
setup_server (Rooted root) reply accepted m = step_server (after_answer m.reclaims reply.status reply.results root.setup) accepted m

reply_server : (aim : Aim) (present : Bool) (reply : Reply) (accepted : Option Seal) (m : Mounted) → Same m (after_reply aim present reply accepted m)
reply_server aims.Setup present reply accepted m = setup_server m.standing reply accepted m
reply_server (aims.Child child) present reply accepted m = refl
reply_server aims.Slot present reply accepted m = fallen_server _ m
reply_server aims.End present reply accepted m = refl

call_server : (place : ℕ) (aim : Aim) (present : Bool) (seal : Seal) (taken : Taken) (m : Mounted) → Same m (after_call place aim present seal taken m)
call_server place aim present seal (answers.Answer reply) m = reply_server aim present reply (Some seal) (emptied place m)
call_server place aim present seal answers.Misspelt m = refl
call_server place aim present seal (answers.Failed stat) m = refl
call_server place aim present seal (answers.Denied why) m = fallen_server present (emptied place m)
call_server place aim present seal answers.Unmatched m = refl

aim_server : (means : Means) (place : ℕ) (message : List ℕ) (child : Option ℕ) (aim : Aim) (call : Asking) (c : Context) (m : Mounted)
    → Same m (by_aim means place message child aim call c m)
aim_server means place message (Some child) aim call c m =
    create_server means.derived place child c call.seal call.awaited.xid (child_of means.mic c.caller.key call.awaited message) m
aim_server means place message None aim call c m =
    call_server place aim (is_present m.standing c) call.seal (taken_of means.mic c.caller.key call.awaited (ops_of call.asked) message) m

context_server : (means : Means) (place : ℕ) (message : List ℕ) (aim : Aim) (call : Asking) (c : Option Context) (m : Mounted)
    → Same m (by_context means place message aim call c m)
context_server means place message aim call None m = refl
context_server means place message aim call (Some c) m = aim_server means place message (child_for aim) aim call c m

pending_server : (means : Means) (place : ℕ) (message : List ℕ) (p : Pending) (m : Mounted) → Same m (by_pending means place message p m)
pending_server means place message (Init init) m = init_server place init _ m
pending_server means place message (Under context aim call) m = context_server means place message aim call (context_of context m.contexts) m

awaiting_server : (means : Means) (place : ℕ) (message : List ℕ) (o : Option Awaiting) (m : Mounted) → Same m (by_awaiting means place message o m)
awaiting_server means place message None m = refl
awaiting_server means place message (Some a) m = pending_server means place message a.pending m

-- ---- a call goes out

under_server : (at : SendAt) (context : ℕ) (aim : Aim) (asked : Asked) (o : Option SealedCall) (m : Mounted) → (sending.call_awaits at context aim asked o m).1.server ≡ m.server
under_server at context aim asked None m = refl
under_server at context aim asked (Some call) m = refl

asked_server : (mic : Mic) (at : SendAt) (context : Option ℕ) (aim : Aim) (asked : Option Asked) (m : Mounted) → (sending.sent_by mic at context aim asked m).1.server ≡ m.server
asked_server mic at None aim asked m = refl
asked_server mic at (Some context) aim None m = refl
asked_server mic at (Some context) aim (Some asked) m =
    under_server at context aim asked (sending.sealed_by mic context at.xid asked m.contexts).0 (record m { contexts = (sending.sealed_by mic context at.xid asked m.contexts).1 })

numbered_server : (slot : ℕ) (o : Option out.Sent) (m : Mounted) → (sending.numbered slot o m).1.server ≡ m.server
numbered_server slot None m = refl
numbered_server slot (Some sent) m = refl

slotted_server : (slot : ℕ) (o : Option out.Sent × Mounted) (m : Mounted) → o.1.server ≡ m.server → (sending.slotted_by slot o).1.server ≡ m.server
slotted_server slot o m same = numbered_server slot o.0 o.1 ∙ same

anew_server : (at : SendAt) (o : Option out.Sent) (contexts : List Context) (p : Pending) (m : Mounted) → (sending.awaits_anew at o contexts p m).1.server ≡ m.server
anew_server at None contexts p m = refl
anew_server at (Some sent) contexts p m = refl

again_server : (mic : Mic) (at : SendAt) (o : Option Awaiting) (m : Mounted) → (sending.sent_anew mic at o m).1.server ≡ m.server
again_server mic at None m = refl
again_server mic at (Some a) m = anew_server at (sending.out_anew mic at.xid m.contexts a.pending) _ _ m

begun_server : (at : SendAt) (o : Option Beginning) (m : Mounted) → (sending.begun_by at o m).1.server ≡ m.server
begun_server at None m = refl
begun_server at (Some init) m = refl

begins_server : (at : SendAt) (nonce : List ℕ) (token : Option (List ℕ)) (m : Mounted) → (sending.begun at nonce token m).1.server ≡ m.server
begins_server at nonce None m = refl
begins_server at nonce (Some token) m = refl

steps_server : (mic : Mic) (at : SendAt) (me : List ℕ) (back : Option BackChannel) (st : Standing) (m : Mounted) → (sending.stepped_in mic at me back st m).1.server ≡ m.server
steps_server mic at me back (Down kept) m = refl
steps_server mic at me back (Rooted root) m = asked_server mic at (Some root.name) aims.Setup (sending.step_asked me back root.setup) m

ends_server : (mic : Mic) (at : SendAt) (ending : Ending) (st : Standing) (m : Mounted) → (sending.ended_in mic at ending st m).1.server ≡ m.server
ends_server mic at ending (Down kept) m = refl
ends_server mic at ending (Rooted root) m = asked_server mic at (Some root.name) aims.End (sending.ending_call ending root.setup) m

sent_server : (mic : Mic) (at : SendAt) (send : Send) (m : Mounted) → (sent_by mic at send m).1.server ≡ m.server
sent_server mic at (Begin nonce token) m = begins_server at nonce token m
sent_server mic at BeginAnew m = begun_server at (kept_in m.standing) m
sent_server mic at (SetUp me back) m = steps_server mic at me back m.standing m
sent_server mic at Reclaim m = slotted_server at.place _ m (asked_server mic at (root_name m.standing) aims.Setup (sending.slot_asked_in at.place ReclaimComplete m.standing) m)
sent_server mic at (InSlot under call) m = slotted_server at.place _ m (asked_server mic at (sending.name_under under m) aims.Slot (sending.slot_asked_in at.place call m.standing) m)
sent_server mic at (Make child name privilege) m = asked_server mic at (root_name m.standing) (aims.Child child) _ m
sent_server mic at (Finish ending) m = ends_server mic at ending m.standing m
sent_server mic at Again m = again_server mic at (awaited_at m at.place) m

pub done_server : (means : Means) (move : Move) (m : Mounted) → (done means move m).mount.server ≡ m.server
done_server means (Sends at send) m = sent_server means.mic at send m
done_server means (Takes place message) m = awaiting_server means place message (awaited_at m place) m
done_server means (GivesUp place) m = refl
done_server means (Forgets child) m = refl
done_server means Falls m = refl
done_server means Rests m = refl

-- ---- a call that goes out leaves the root; an INIT goes out only where there is none

numbered_root : (slot : ℕ) (st : Standing) → root_name (sending.numbered_in slot st) ≡ root_name st
numbered_root slot (Down kept) = refl
numbered_root slot (Rooted root) = refl

slotted_root : (slot : ℕ) (o : Option out.Sent) (m : Mounted) → root_name (sending.numbered slot o m).1.standing ≡ root_name m.standing
slotted_root slot None m = refl
slotted_root slot (Some sent) m = numbered_root slot m.standing

anew_root : (at : SendAt) (o : Option out.Sent) (contexts : List Context) (p : Pending) (m : Mounted) → (sending.awaits_anew at o contexts p m).1.standing ≡ m.standing
anew_root at None contexts p m = refl
anew_root at (Some sent) contexts p m = refl

again_root : (mic : Mic) (at : SendAt) (o : Option Awaiting) (m : Mounted) → (sending.sent_anew mic at o m).1.standing ≡ m.standing
again_root mic at None m = refl
again_root mic at (Some a) m = anew_root at (sending.out_anew mic at.xid m.contexts a.pending) _ _ m

down_root : (who : Identity) (m : Mounted) (st : Standing) → IsGood who m → m.standing ≡ st → setup_in st ≡ setups.Down → root_name st ≡ None
down_root who m (Down kept) g is down = refl
down_root who m (Rooted root) g is down = absurd ((g.up root is).set_up down)

begins_root : (at : SendAt) (nonce : List ℕ) (token : Option (List ℕ)) (m : Mounted) → root_name m.standing ≡ None
    → root_name (sending.begun at nonce token m).1.standing ≡ root_name m.standing
begins_root at nonce None m none = refl
begins_root at nonce (Some token) m none = sym none

called_standing : (at : SendAt) (context : ℕ) (aim : Aim) (asked : Asked) (o : Option SealedCall) (m : Mounted) → (sending.call_awaits at context aim asked o m).1.standing ≡ m.standing
called_standing at context aim asked None m = refl
called_standing at context aim asked (Some call) m = refl

asked_standing : (mic : Mic) (at : SendAt) (context : Option ℕ) (aim : Aim) (asked : Option Asked) (m : Mounted) → (sending.sent_by mic at context aim asked m).1.standing ≡ m.standing
asked_standing mic at None aim asked m = refl
asked_standing mic at (Some context) aim None m = refl
asked_standing mic at (Some context) aim (Some asked) m =
    called_standing at context aim asked (sending.sealed_by mic context at.xid asked m.contexts).0 (record m { contexts = (sending.sealed_by mic context at.xid asked m.contexts).1 })

stepped_standing : (mic : Mic) (at : SendAt) (me : List ℕ) (back : Option BackChannel) (st : Standing) (m : Mounted) → (sending.stepped_in mic at me back st m).1.standing ≡ m.standing
stepped_standing mic at me back (Down kept) m = refl
stepped_standing mic at me back (Rooted root) m = asked_standing mic at (Some root.name) aims.Setup (sending.step_asked me back root.setup) m

begun_root : (at : SendAt) (st : Standing) (m : Mounted) → m.standing ≡ st → root_name (sending.begun_by at (kept_in st) m).1.standing ≡ root_name st
begun_root at (Down None) m is = ap root_name is
begun_root at (Down (Some init)) m is = refl
begun_root at (Rooted root) m is = ap root_name is

-- sends that leave the root
abbrev pub LeavesRoot : Send → Type 0
LeavesRoot (Finish ending) = ⊥
LeavesRoot _ = Unit {0}

pub sent_root : (who : Identity) (above : Above) (mic : Mic) (at : SendAt) (send : Send) (m : Mounted) → IsGood who m → Suits who above m at send → LeavesRoot send
    → root_name (sent_by mic at send m).1.standing ≡ root_name m.standing
sent_root who above mic at (Begin nonce token) m g suits leaves = begins_root at nonce token m (down_root who m m.standing g refl suits.2)
sent_root who above mic at BeginAnew m g suits leaves = begun_root at m.standing m refl
sent_root who above mic at (SetUp me back) m g suits leaves = ap root_name (stepped_standing mic at me back m.standing m)
sent_root who above mic at Reclaim m g suits leaves =
    let asked = sending.slot_asked_in at.place ReclaimComplete m.standing in
    let o = sending.sent_by mic at (root_name m.standing) aims.Setup asked m in
    slotted_root at.place o.0 o.1 ∙ ap root_name (asked_standing mic at (root_name m.standing) aims.Setup asked m)
sent_root who above mic at (InSlot under call) m g suits leaves =
    let asked = sending.slot_asked_in at.place call m.standing in
    let o = sending.sent_by mic at (sending.name_under under m) aims.Slot asked m in
    slotted_root at.place o.0 o.1 ∙ ap root_name (asked_standing mic at (sending.name_under under m) aims.Slot asked m)
sent_root who above mic at (Make child name privilege) m g suits leaves = ap root_name (asked_standing mic at (root_name m.standing) (aims.Child child) _ m)
sent_root who above mic at (Finish ending) m g suits leaves = absurd leaves
sent_root who above mic at Again m g suits leaves = ap root_name (again_root mic at (awaited_at m at.place) m)
