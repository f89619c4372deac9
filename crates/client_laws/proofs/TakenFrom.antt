-- What a mount accepts is sealed by its server.
use Rattle.std.proofs.Common.{◌≡◌, ◌∙◌, ℕ, Bool, List, Option, Some, None, Result, Ok, Err, refl, sym, ap}
use Rattle.caller_laws.specs.Good.{Identity, IsGood}
use Rattle.gss_ctx.specs.declared.begin.Begun.{Begun}
use Rattle.gss_ctx.specs.declared.begin.Begun.TheVariants as begins
use Rattle.mount.specs.State.{Mounted, awaited_at, context_of, emptied, is_present, pending_at, pending_in}
use Rattle.mount.specs.Taking.{Means, after_call, after_create, after_init, after_reply, after_setup, after_step, by_aim, by_awaiting, by_context, by_pending, child_for, parent_of, taken_at}
use Rattle.mount.specs.declared.state.Aim.{Aim}
use Rattle.mount.specs.declared.state.Aim.TheVariants as aims
use Rattle.mount.specs.declared.state.Awaiting.{Awaiting}
use Rattle.mount.specs.declared.state.Context.{Context}
use Rattle.mount.specs.declared.state.Pending.{Pending}
use Rattle.mount.specs.declared.state.Pending.TheVariants.{Init, Under}
use Rattle.mount.specs.declared.state.Standing.{Standing}
use Rattle.mount.specs.declared.state.Standing.TheVariants.{Down, Rooted}
use Rattle.mount.specs.declared.taking.Heard.{Heard}
use Rattle.nfs_base.specs.declared.seal.End.{End}
use Rattle.nfs_base.specs.declared.seal.Seal.{Seal}
use Rattle.nfs_base.specs.declared.status.Status.{Status}
use Rattle.nfs_compound.specs.declared.reply.Reply.{Reply}
use Rattle.session_client.specs.Answers.{child_of, taken_of}
use Rattle.session_client.specs.Asked.{ops_of}
use Rattle.session_client.specs.Pending.{Asking, Beginning}
use Rattle.session_client.specs.Setup.{after_answer}
use Rattle.session_client.specs.declared.answers.Taken.{Taken}
use Rattle.session_client.specs.declared.answers.Taken.TheVariants as answers
use Rattle.session_client.specs.declared.answers.TakenChild.{TakenChild}
use Rattle.session_client.specs.declared.answers.TakenChild.TheVariants as children
use Rattle.session_client.specs.declared.setup.Setup.{Setup}

abbrev From : End → Heard × Mounted → Type 0
From owner o = (seal : Seal) → o.0.accepted ≡ Some seal → seal.owner ≡ owner

none_from : {A : Type 0} (seal : Seal) → None ≡ Some seal → A
none_from seal e = absurd cc

some_from : (owner : End) (had seal : Seal) → had.owner ≡ owner → Some had ≡ Some seal → seal.owner ≡ owner
some_from owner had seal own e =
    let same : had ≡ seal = cc in
    ap (λ (s : Seal). s.owner) (sym same) ∙ own

init_from : (place : ℕ) (init : Beginning) (begun : Begun) (m : Mounted) → From m.server (after_init place init begun m)
init_from place init (begins.Made handle key) m seal is = some_from m.server _ seal refl is
init_from place init (begins.Refused major) m seal is = none_from seal is
init_from place init (begins.Failed stat) m seal is = none_from seal is
init_from place init (begins.Denied why) m seal is = none_from seal is
init_from place init begins.Unmatched m seal is = none_from seal is

create_from : (owner : End) (derived : List ℕ → ℕ → List ℕ → List ℕ) (place child : ℕ) (c : Context) (by : Seal) (xid : ℕ) (taken : TakenChild) (m : Mounted) → by.owner ≡ owner
    → From owner (after_create derived place child (parent_of c) by xid taken m)
create_from owner derived place child c by xid (children.Made handle) m own seal is = some_from owner by seal own is
create_from owner derived place child c by xid (children.Refused major) m own seal is = some_from owner by seal own is
create_from owner derived place child c by xid children.Misspelt m own seal is = some_from owner by seal own is
create_from owner derived place child c by xid (children.Failed stat) m own seal is = none_from seal is
create_from owner derived place child c by xid (children.Denied why) m own seal is = none_from seal is
create_from owner derived place child c by xid children.Unmatched m own seal is = none_from seal is

step_from : (owner : End) (o : Result Setup Status) (by : Seal) (m : Mounted) → by.owner ≡ owner → From owner (after_step o (Some by) m)
step_from owner (Ok setup) by m own seal is = some_from owner by seal own is
step_from owner (Err status) by m own seal is = some_from owner by seal own is

setup_from : (owner : End) (st : Standing) (reply : Reply) (by : Seal) (m : Mounted) → by.owner ≡ owner → From owner (after_setup st reply (Some by) m)
setup_from owner (Down kept) reply by m own seal is = some_from owner by seal own is
setup_from owner (Rooted root) reply by m own seal is = step_from owner (after_answer m.reclaims reply.status reply.results root.setup) by m own seal is

reply_from : (owner : End) (aim : Aim) (present : Bool) (reply : Reply) (by : Seal) (m : Mounted) → by.owner ≡ owner → From owner (after_reply aim present reply (Some by) m)
reply_from owner aims.Setup present reply by m own seal is = setup_from owner m.standing reply by m own seal is
reply_from owner (aims.Child child) present reply by m own seal is = some_from owner by seal own is
reply_from owner aims.Slot present reply by m own seal is = some_from owner by seal own is
reply_from owner aims.End present reply by m own seal is = some_from owner by seal own is

call_from : (owner : End) (place : ℕ) (aim : Aim) (present : Bool) (by : Seal) (taken : Taken) (m : Mounted) → by.owner ≡ owner → From owner (after_call place aim present by taken m)
call_from owner place aim present by (answers.Answer reply) m own seal is = reply_from owner aim present reply by (emptied place m) own seal is
call_from owner place aim present by answers.Misspelt m own seal is = some_from owner by seal own is
call_from owner place aim present by (answers.Failed stat) m own seal is = none_from seal is
call_from owner place aim present by (answers.Denied why) m own seal is = none_from seal is
call_from owner place aim present by answers.Unmatched m own seal is = none_from seal is

aim_from : (owner : End) (means : Means) (place : ℕ) (message : List ℕ) (child : Option ℕ) (aim : Aim) (call : Asking) (c : Context) (m : Mounted) → call.seal.owner ≡ owner
    → From owner (by_aim means place message child aim call c m)
aim_from owner means place message (Some child) aim call c m own =
    create_from owner means.derived place child c call.seal call.awaited.xid (child_of means.mic c.caller.key call.awaited message) m own
aim_from owner means place message None aim call c m own =
    call_from owner place aim (is_present m.standing c) call.seal (taken_of means.mic c.caller.key call.awaited (ops_of call.asked) message) m own

context_from : (owner : End) (means : Means) (place : ℕ) (message : List ℕ) (aim : Aim) (call : Asking) (c : Option Context) (m : Mounted) → call.seal.owner ≡ owner
    → From owner (by_context means place message aim call c m)
context_from owner means place message aim call None m own seal is = none_from seal is
context_from owner means place message aim call (Some c) m own seal is = aim_from owner means place message (child_for aim) aim call c m own seal is

pending_from : (who : Identity) (means : Means) (place : ℕ) (message : List ℕ) (p : Pending) (m : Mounted) → IsGood who m → pending_at m place ≡ Some p
    → From m.server (by_pending means place message p m)
pending_from who means place message (Init init) m g there = init_from place init _ m
pending_from who means place message (Under context aim call) m g there =
    context_from m.server means place message aim call (context_of context m.contexts) m (g.fair place (Under context aim call) there).owner

awaiting_from : (who : Identity) (means : Means) (place : ℕ) (message : List ℕ) (o : Option Awaiting) (m : Mounted) → IsGood who m → awaited_at m place ≡ o
    → From m.server (by_awaiting means place message o m)
awaiting_from who means place message None m g there seal is = none_from seal is
awaiting_from who means place message (Some a) m g there seal is = pending_from who means place message a.pending m g (ap pending_in there) seal is

pub taken_owner : (who : Identity) (means : Means) (place : ℕ) (message : List ℕ) (m : Mounted) → IsGood who m → (seal : Seal)
    → (taken_at means place message m).0.accepted ≡ Some seal → seal.owner ≡ m.server
taken_owner who means place message m g seal is = awaiting_from who means place message (awaited_at m place) m g refl seal is
