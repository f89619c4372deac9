-- What a record that is taken leaves of a mount: the count of its calls, and, where it tells of a child, all but that CREATE.
use Rattle.std.proofs.Common.{◌≡◌, ℕ, Bool, true, false, List, Option, Some, None, Result, Ok, Err, refl}
use Rattle.gss_ctx.specs.declared.begin.Begun.{Begun}
use Rattle.gss_ctx.specs.declared.begin.Begun.TheVariants as begins
use Rattle.mount.specs.State.{Mounted, awaited_at, context_of, emptied, is_present}
use Rattle.mount.specs.Taking.{Means, after_call, after_create, after_init, after_reply, after_setup, after_step, by_aim, by_awaiting, by_context, by_pending, child_for, fallen_if, parent_of, taken_at}
use Rattle.mount.specs.declared.state.Aim.{Aim}
use Rattle.mount.specs.declared.state.Aim.TheVariants as aims
use Rattle.mount.specs.declared.state.Awaiting.{Awaiting}
use Rattle.mount.specs.declared.state.Context.{Context}
use Rattle.mount.specs.declared.state.Pending.{Pending}
use Rattle.mount.specs.declared.state.Pending.TheVariants.{Init, Under}
use Rattle.mount.specs.declared.state.Standing.{Standing}
use Rattle.mount.specs.declared.state.Standing.TheVariants.{Down, Rooted}
use Rattle.mount.specs.declared.taking.Heard.{Heard}
use Rattle.nfs_base.specs.declared.seal.Seal.{Seal}
use Rattle.nfs_base.specs.declared.status.Status.{Status}
use Rattle.nfs_compound.specs.declared.reply.Reply.{Reply}
use Rattle.session_client.specs.Answers.{child_of, taken_of}
use Rattle.session_client.specs.Asked.{ops_of}
use Rattle.session_client.specs.Pending.{Asking, Beginning}
use Rattle.session_client.specs.Setup.{after_answer}
use Rattle.session_client.specs.declared.answers.Taken.{Taken}
use Rattle.session_client.specs.declared.answers.Taken.TheVariants as answers
use Rattle.session_client.specs.declared.answers.TakenChild.{TakenChild}
use Rattle.session_client.specs.declared.answers.TakenChild.TheVariants as children
use Rattle.session_client.specs.declared.setup.Setup.{Setup}
use Rattle.std.specs.Prelude.{slice_set}
use Rattle.dest_work.specs.Work.{is_child}
use Rattle.mount.specs.State.{pending_at, pending_in}

-- ---- a record is taken

abbrev Same : Mounted → Heard × Mounted → Type 0
Same m o = o.1.calls ≡ m.calls

init_calls : (place : ℕ) (init : Beginning) (begun : Begun) (m : Mounted) → Same m (after_init place init begun m)
init_calls place init (begins.Made handle key) m = refl
init_calls place init (begins.Refused major) m = refl
init_calls place init (begins.Failed stat) m = refl
init_calls place init (begins.Denied why) m = refl
init_calls place init begins.Unmatched m = refl

create_calls : (derived : List ℕ → ℕ → List ℕ → List ℕ) (place child : ℕ) (c : Context) (seal : Seal) (xid : ℕ) (taken : TakenChild) (m : Mounted)
    → Same m (after_create derived place child (parent_of c) seal xid taken m)
create_calls derived place child c seal xid (children.Made handle) m = refl
create_calls derived place child c seal xid (children.Refused major) m = refl
create_calls derived place child c seal xid children.Misspelt m = refl
create_calls derived place child c seal xid (children.Failed stat) m = refl
create_calls derived place child c seal xid (children.Denied why) m = refl
create_calls derived place child c seal xid children.Unmatched m = refl

fallen_calls : (b : Bool) (m : Mounted) → (fallen_if b m).calls ≡ m.calls
fallen_calls true m = refl
fallen_calls false m = refl

step_calls : (o : Result Setup Status) (accepted : Option Seal) (m : Mounted) → Same m (after_step o accepted m)
step_calls (Ok setup) accepted m = refl
step_calls (Err status) accepted m = fallen_calls _ m

setup_calls : (st : Standing) (reply : Reply) (accepted : Option Seal) (m : Mounted) → Same m (after_setup st reply accepted m)
setup_calls (Down kept) reply accepted m = refl
setup_calls (Rooted root) reply accepted m = step_calls (after_answer m.reclaims reply.status reply.results root.setup) accepted m

reply_calls : (aim : Aim) (present : Bool) (reply : Reply) (accepted : Option Seal) (m : Mounted) → Same m (after_reply aim present reply accepted m)
reply_calls aims.Setup present reply accepted m = setup_calls m.standing reply accepted m
reply_calls (aims.Child child) present reply accepted m = refl
reply_calls aims.Slot present reply accepted m = fallen_calls _ m
reply_calls aims.End present reply accepted m = refl

call_calls : (place : ℕ) (aim : Aim) (present : Bool) (seal : Seal) (taken : Taken) (m : Mounted) → Same m (after_call place aim present seal taken m)
call_calls place aim present seal (answers.Answer reply) m = reply_calls aim present reply (Some seal) (emptied place m)
call_calls place aim present seal answers.Misspelt m = refl
call_calls place aim present seal (answers.Failed stat) m = refl
call_calls place aim present seal (answers.Denied why) m = fallen_calls present (emptied place m)
call_calls place aim present seal answers.Unmatched m = refl

aim_calls : (means : Means) (place : ℕ) (message : List ℕ) (child : Option ℕ) (aim : Aim) (call : Asking) (c : Context) (m : Mounted)
    → Same m (by_aim means place message child aim call c m)
aim_calls means place message (Some child) aim call c m =
    create_calls means.derived place child c call.seal call.awaited.xid (child_of means.mic c.caller.key call.awaited message) m
aim_calls means place message None aim call c m =
    call_calls place aim (is_present m.standing c) call.seal (taken_of means.mic c.caller.key call.awaited (ops_of call.asked) message) m

context_calls : (means : Means) (place : ℕ) (message : List ℕ) (aim : Aim) (call : Asking) (c : Option Context) (m : Mounted)
    → Same m (by_context means place message aim call c m)
context_calls means place message aim call None m = refl
context_calls means place message aim call (Some c) m = aim_calls means place message (child_for aim) aim call c m

pending_calls : (means : Means) (place : ℕ) (message : List ℕ) (p : Pending) (m : Mounted) → Same m (by_pending means place message p m)
pending_calls means place message (Init init) m = init_calls place init _ m
pending_calls means place message (Under context aim call) m = context_calls means place message aim call (context_of context m.contexts) m

awaiting_calls : (means : Means) (place : ℕ) (message : List ℕ) (o : Option Awaiting) (m : Mounted) → Same m (by_awaiting means place message o m)
awaiting_calls means place message None m = refl
awaiting_calls means place message (Some a) m = pending_calls means place message a.pending m

pub taken_calls : (means : Means) (place : ℕ) (message : List ℕ) (m : Mounted) → (taken_at means place message m).1.calls ≡ m.calls
taken_calls means place message m = awaiting_calls means place message (awaited_at m place) m

-- ---- a child is told of: its CREATE isn't awaited any more, and nothing else changes of what is

pub record Leaves (place : ℕ) (m : Mounted) (p : Option Pending) (n : Mounted) : Type 0 where
  pub places : n.places ≡ slice_set m.places place None
  pub no_init : (init : Beginning) → p ≡ Some (Init init) → ⊥

abbrev Tells : ℕ → Mounted → Option Pending → Heard × Mounted → Type 0
Tells place m p o = is_child o.0.told ≡ true → Leaves place m p o.1

never : {A : Type 0} → false ≡ true → A
never e = absurd cc

init_tells : (place : ℕ) (init : Beginning) (begun : Begun) (m : Mounted) (p : Option Pending) → Tells place m p (after_init place init begun m)
init_tells place init (begins.Made handle key) m p e = never e
init_tells place init (begins.Refused major) m p e = never e
init_tells place init (begins.Failed stat) m p e = never e
init_tells place init (begins.Denied why) m p e = never e
init_tells place init begins.Unmatched m p e = never e

create_tells : (derived : List ℕ → ℕ → List ℕ → List ℕ) (place child : ℕ) (c : Context) (seal : Seal) (xid : ℕ) (taken : TakenChild) (m : Mounted) (context : ℕ) (aim : Aim) (call : Asking)
    → Tells place m (Some (Under context aim call)) (after_create derived place child (parent_of c) seal xid taken m)
create_tells derived place child c seal xid (children.Made handle) m context aim call e = record { places = refl; no_init = λ init is. absurd cc }
create_tells derived place child c seal xid (children.Refused major) m context aim call e = never e
create_tells derived place child c seal xid children.Misspelt m context aim call e = never e
create_tells derived place child c seal xid (children.Failed stat) m context aim call e = never e
create_tells derived place child c seal xid (children.Denied why) m context aim call e = never e
create_tells derived place child c seal xid children.Unmatched m context aim call e = never e

step_tells : {A : Type 0} (o : Result Setup Status) (accepted : Option Seal) (m : Mounted) → is_child (after_step o accepted m).0.told ≡ true → A
step_tells (Ok setup) accepted m e = never e
step_tells (Err status) accepted m e = never e

setup_tells : {A : Type 0} (st : Standing) (reply : Reply) (accepted : Option Seal) (m : Mounted) → is_child (after_setup st reply accepted m).0.told ≡ true → A
setup_tells (Down kept) reply accepted m e = never e
setup_tells (Rooted root) reply accepted m e = step_tells (after_answer m.reclaims reply.status reply.results root.setup) accepted m e

reply_tells : {A : Type 0} (aim : Aim) (present : Bool) (reply : Reply) (accepted : Option Seal) (m : Mounted) → is_child (after_reply aim present reply accepted m).0.told ≡ true → A
reply_tells aims.Setup present reply accepted m e = setup_tells m.standing reply accepted m e
reply_tells (aims.Child child) present reply accepted m e = never e
reply_tells aims.Slot present reply accepted m e = never e
reply_tells aims.End present reply accepted m e = never e

call_tells : {A : Type 0} (place : ℕ) (aim : Aim) (present : Bool) (seal : Seal) (taken : Taken) (m : Mounted) → is_child (after_call place aim present seal taken m).0.told ≡ true → A
call_tells place aim present seal (answers.Answer reply) m e = reply_tells aim present reply (Some seal) (emptied place m) e
call_tells place aim present seal answers.Misspelt m e = never e
call_tells place aim present seal (answers.Failed stat) m e = never e
call_tells place aim present seal (answers.Denied why) m e = never e
call_tells place aim present seal answers.Unmatched m e = never e

aim_tells : (means : Means) (place : ℕ) (message : List ℕ) (child : Option ℕ) (aim : Aim) (call : Asking) (c : Context) (m : Mounted) (context : ℕ)
    → Tells place m (Some (Under context aim call)) (by_aim means place message child aim call c m)
aim_tells means place message (Some child) aim call c m context e =
    create_tells means.derived place child c call.seal call.awaited.xid (child_of means.mic c.caller.key call.awaited message) m context aim call e
aim_tells means place message None aim call c m context e =
    call_tells place aim (is_present m.standing c) call.seal (taken_of means.mic c.caller.key call.awaited (ops_of call.asked) message) m e

context_tells : (means : Means) (place : ℕ) (message : List ℕ) (aim : Aim) (call : Asking) (o : Option Context) (m : Mounted) (context : ℕ)
    → Tells place m (Some (Under context aim call)) (by_context means place message aim call o m)
context_tells means place message aim call None m context e = never e
context_tells means place message aim call (Some c) m context e = aim_tells means place message (child_for aim) aim call c m context e

pending_tells : (means : Means) (place : ℕ) (message : List ℕ) (p : Pending) (m : Mounted) → Tells place m (Some p) (by_pending means place message p m)
pending_tells means place message (Init init) m e = init_tells place init _ m (Some (Init init)) e
pending_tells means place message (Under context aim call) m e = context_tells means place message aim call (context_of context m.contexts) m context e

child_tells : (means : Means) (place : ℕ) (message : List ℕ) (o : Option Awaiting) (m : Mounted) → Tells place m (pending_in o) (by_awaiting means place message o m)
child_tells means place message None m e = never e
child_tells means place message (Some a) m e = pending_tells means place message a.pending m e

pub taken_child : (means : Means) (place : ℕ) (message : List ℕ) (m : Mounted) → is_child (taken_at means place message m).0.told ≡ true
    → Leaves place m (pending_at m place) (taken_at means place message m).1
taken_child means place message m e = child_tells means place message (awaited_at m place) m e
