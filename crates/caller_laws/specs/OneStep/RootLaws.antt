-- Where a mount is told its root, its setup goes on from a root behind it.
use Rattle.std.proofs.Common.{◌≡◌, ℕ, Bool, true, false, List, Option, Some, None, Result, Ok, Err, refl}
use Rattle.caller_laws.specs.OneStep.Order.{is_root}
use Rattle.gss_ctx.specs.declared.begin.Begun.{Begun}
use Rattle.gss_ctx.specs.declared.begin.Begun.TheVariants as begins
use Rattle.mount.specs.State.{Mounted, awaited_at, context_of, emptied, is_present, setup_in}
use Rattle.mount.specs.Taking.{Means, after_call, after_create, after_init, after_reply, after_setup, after_step, by_aim, by_awaiting, by_context, by_pending, child_for, parent_of, taken_at}
use Rattle.mount.specs.declared.state.Aim.{Aim}
use Rattle.mount.specs.declared.state.Aim.TheVariants as aims
use Rattle.mount.specs.declared.state.Awaiting.{Awaiting}
use Rattle.mount.specs.declared.state.Context.{Context}
use Rattle.mount.specs.declared.state.Pending.{Pending}
use Rattle.mount.specs.declared.state.Pending.TheVariants.{Init, Under}
use Rattle.mount.specs.declared.state.Standing.{Standing}
use Rattle.mount.specs.declared.state.Standing.TheVariants.{Down, Rooted}
use Rattle.mount.specs.declared.taking.Heard.{Heard}
use Rattle.nfs_base.specs.declared.seal.Seal.{Seal}
use Rattle.nfs_base.specs.declared.status.Status.{Status}
use Rattle.nfs_compound.specs.declared.reply.Reply.{Reply}
use Rattle.session_client.specs.Answers.{child_of, taken_of}
use Rattle.session_client.specs.Asked.{ops_of}
use Rattle.session_client.specs.Pending.{Asking, Beginning}
use Rattle.session_client.specs.declared.answers.Taken.{Taken}
use Rattle.session_client.specs.declared.answers.Taken.TheVariants as answers
use Rattle.session_client.specs.declared.answers.TakenChild.{TakenChild}
use Rattle.session_client.specs.declared.answers.TakenChild.TheVariants as children
use Rattle.session_client.specs.declared.setup.Setup.{Setup}
use Rattle.session_client.specs.declared.setup.Setup.TheVariants as setups

-- a context is there, and nothing more yet
pub record IsRooted (setup : Setup) : Type 0 where
  pub verifier : List ℕ
  pub is : setup ≡ setups.Rooted verifier

-- what is heard, if it is a root, leaves the setup there
abbrev Up : Heard × Mounted → Type 0
Up o = is_root o.0.told ≡ true → IsRooted (setup_in o.1.standing)

unlike : {A : Type 0} → false ≡ true → A
unlike e = absurd cc

up_init : (place : ℕ) (init : Beginning) (begun : Begun) (m : Mounted) → Up (after_init place init begun m)
up_init place init (begins.Made handle key) m e = record { verifier = _; is = refl }
up_init place init (begins.Refused major) m e = unlike e
up_init place init (begins.Failed stat) m e = unlike e
up_init place init (begins.Denied why) m e = unlike e
up_init place init begins.Unmatched m e = unlike e

up_create : (derived : List ℕ → ℕ → List ℕ → List ℕ) (place child : ℕ) (c : Context) (seal : Seal) (xid : ℕ) (taken : TakenChild) (m : Mounted)
    → Up (after_create derived place child (parent_of c) seal xid taken m)
up_create derived place child c seal xid (children.Made handle) m e = unlike e
up_create derived place child c seal xid (children.Refused major) m e = unlike e
up_create derived place child c seal xid children.Misspelt m e = unlike e
up_create derived place child c seal xid (children.Failed stat) m e = unlike e
up_create derived place child c seal xid (children.Denied why) m e = unlike e
up_create derived place child c seal xid children.Unmatched m e = unlike e

up_step : (o : Result Setup Status) (accepted : Option Seal) (m : Mounted) → Up (after_step o accepted m)
up_step (Ok setup) accepted m e = unlike e
up_step (Err status) accepted m e = unlike e

up_setup : (st : Standing) (reply : Reply) (accepted : Option Seal) (m : Mounted) → Up (after_setup st reply accepted m)
up_setup (Down kept) reply accepted m e = unlike e
up_setup (Rooted root) reply accepted m e = up_step _ accepted m e

up_reply : (aim : Aim) (present : Bool) (reply : Reply) (accepted : Option Seal) (m : Mounted) → Up (after_reply aim present reply accepted m)
up_reply aims.Setup present reply accepted m e = up_setup m.standing reply accepted m e
up_reply (aims.Child child) present reply accepted m e = unlike e
up_reply aims.Slot present reply accepted m e = unlike e
up_reply aims.End present reply accepted m e = unlike e

up_call : (place : ℕ) (aim : Aim) (present : Bool) (seal : Seal) (taken : Taken) (m : Mounted) → Up (after_call place aim present seal taken m)
up_call place aim present seal (answers.Answer reply) m e = up_reply aim present reply (Some seal) (emptied place m) e
up_call place aim present seal answers.Misspelt m e = unlike e
up_call place aim present seal (answers.Failed stat) m e = unlike e
up_call place aim present seal (answers.Denied why) m e = unlike e
up_call place aim present seal answers.Unmatched m e = unlike e

up_aim : (means : Means) (place : ℕ) (message : List ℕ) (child : Option ℕ) (aim : Aim) (call : Asking) (c : Context) (m : Mounted)
    → Up (by_aim means place message child aim call c m)
up_aim means place message (Some child) aim call c m e =
    up_create means.derived place child c call.seal call.awaited.xid (child_of means.mic c.caller.key call.awaited message) m e
up_aim means place message None aim call c m e =
    up_call place aim (is_present m.standing c) call.seal (taken_of means.mic c.caller.key call.awaited (ops_of call.asked) message) m e

up_context : (means : Means) (place : ℕ) (message : List ℕ) (aim : Aim) (call : Asking) (c : Option Context) (m : Mounted)
    → Up (by_context means place message aim call c m)
up_context means place message aim call None m e = unlike e
up_context means place message aim call (Some c) m e = up_aim means place message (child_for aim) aim call c m e

up_pending : (means : Means) (place : ℕ) (message : List ℕ) (p : Pending) (m : Mounted) → Up (by_pending means place message p m)
up_pending means place message (Init init) m e = up_init place init _ m e
up_pending means place message (Under context aim call) m e = up_context means place message aim call (context_of context m.contexts) m e

up_awaiting : (means : Means) (place : ℕ) (message : List ℕ) (o : Option Awaiting) (m : Mounted) → Up (by_awaiting means place message o m)
up_awaiting means place message None m e = unlike e
up_awaiting means place message (Some a) m e = up_pending means place message a.pending m e

pub rooted_up : (means : Means) (place : ℕ) (message : List ℕ) (m : Mounted) → is_root (taken_at means place message m).0.told ≡ true
    → IsRooted (setup_in (taken_at means place message m).1.standing)
rooted_up means place message m e = up_awaiting means place message (awaited_at m place) m e
