-- An answer is taken once, and a mount that begins again keeps nothing of its setup.
use Rattle.std.proofs.Common.{◌≡◌, ℕ, zero, suc, Bool, true, false, List, [], ◌∷◌, Option, Some, None, Result, Ok, Err, refl, ap, ◌∙◌, get_or, set}
use Rattle.std.specs.Prelude.{map, replicate, ◌&&◌}
use Rattle.std.specs.List.{list_any}
use Rattle.nfs_base.specs.declared.seal.Seal.{Seal}
use Rattle.nfs_base.specs.declared.status.Status.{Status}
use Rattle.nfs_compound.specs.declared.reply.Reply.{Reply}
use Rattle.gss_ctx.specs.Replies.{begun_of}
use Rattle.gss_ctx.specs.declared.begin.Begun.{Begun}
use Rattle.gss_ctx.specs.declared.begin.Begun.TheVariants as begins
use Rattle.session_client.specs.Answers.{taken_of, child_of}
use Rattle.session_client.specs.Asked.{ops_of}
use Rattle.session_client.specs.Pending.{Asking, Beginning}
use Rattle.session_client.specs.Setup.{after_answer}
use Rattle.session_client.specs.declared.answers.Taken.{Taken}
use Rattle.session_client.specs.declared.answers.Taken.TheVariants as answers
use Rattle.session_client.specs.declared.answers.TakenChild.{TakenChild}
use Rattle.session_client.specs.declared.answers.TakenChild.TheVariants as children
use Rattle.session_client.specs.declared.setup.Setup.{Setup}
use Rattle.mount.specs.Falling.{fallen, staying}
use Rattle.mount.specs.Laws.{is_heard}
use Rattle.mount.specs.State.{Mounted, awaited_at, emptied, context_of, is_present, place_sets_up}
use Rattle.mount.specs.Taking.{Means, heard, after_init, after_create, after_call, after_reply, after_setup, after_step, fallen_if, is_lost, parent_of, child_for, by_aim, by_context, by_pending, by_awaiting, taken_at}
use Rattle.mount.specs.declared.state.Aim.{Aim}
use Rattle.mount.specs.declared.state.Aim.TheVariants as aims
use Rattle.mount.specs.declared.state.Awaiting.{Awaiting}
use Rattle.mount.specs.declared.state.Context.{Context}
use Rattle.mount.specs.declared.state.Pending.{Pending}
use Rattle.mount.specs.declared.state.Pending.TheVariants.{Init, Under}
use Rattle.mount.specs.declared.state.Standing.{Standing}
use Rattle.mount.specs.declared.state.Standing.TheVariants as standings
use Rattle.mount.specs.declared.taking.Heard.{Heard}
use Rattle.mount.specs.declared.taking.Parent.{Parent}
use Rattle.mount.specs.declared.taking.Told.{Told}
use Rattle.mount.specs.declared.taking.Told.TheVariants as tells

set_default : {X : Type 0} (xs : List X) (i : ℕ) (d : X) → get_or (set xs i d) i d ≡ d
set_default [] zero d = refl
set_default [] (suc i) d = refl
set_default (x ∷ xs) zero d = refl
set_default (x ∷ xs) (suc i) d = set_default xs i d

staying_at : (xs : List (Option Awaiting)) (i : ℕ) → get_or (map staying xs) i None ≡ staying (get_or xs i None)
staying_at [] zero = refl
staying_at [] (suc i) = refl
staying_at (x ∷ xs) zero = refl
staying_at (x ∷ xs) (suc i) = staying_at xs i

empty_is : (place : ℕ) (m : Mounted) → awaited_at (emptied place m) place ≡ None
empty_is place m = set_default m.places place None

fallen_none : (place : ℕ) (m : Mounted) → awaited_at m place ≡ None → awaited_at (fallen m) place ≡ None
fallen_none place m e = staying_at m.places place ∙ ap staying e

fallen_if_none : (b : Bool) (place : ℕ) (m : Mounted) → awaited_at m place ≡ None → awaited_at (fallen_if b m) place ≡ None
fallen_if_none true place m e = fallen_none place m e
fallen_if_none false place m e = e

-- what is heard is taken once
pub record IsOnce (place : ℕ) (m : Mounted) (o : Heard × Mounted) : Type 0 where
  pub once : is_heard o.0.told ≡ true → awaited_at o.1 place ≡ None
  pub unmatched : is_heard o.0.told ≡ false → o.1 ≡ m

heard_once : (place : ℕ) (m w : Mounted) (told : Told) (accepted : Option Seal) → is_heard told ≡ true → awaited_at w place ≡ None → IsOnce place m (heard told accepted w)
heard_once place m w told accepted t none = record { once = λ _. none; unmatched = λ f. absurd cc }

unheard : (place : ℕ) (m : Mounted) → IsOnce place m (heard tells.Unmatched None m)
unheard place m = record { once = λ t. absurd cc; unmatched = λ _. refl }

init_once : (place : ℕ) (init : Beginning) (begun : Begun) (m : Mounted) → IsOnce place m (after_init place init begun m)
init_once place init (begins.Made handle key) m = heard_once place m _ _ _ refl (empty_is place m)
init_once place init (begins.Refused major) m = heard_once place m _ _ _ refl (fallen_none place (emptied place m) (empty_is place m))
init_once place init (begins.Failed stat) m = heard_once place m _ _ _ refl (empty_is place m)
init_once place init (begins.Denied why) m = heard_once place m _ _ _ refl (fallen_none place (emptied place m) (empty_is place m))
init_once place init begins.Unmatched m = unheard place m

create_once : (derived : List ℕ → ℕ → List ℕ → List ℕ) (place child : ℕ) (parent : Parent) (seal : Seal) (xid : ℕ) (taken : TakenChild) (m : Mounted)
    → IsOnce place m (after_create derived place child parent seal xid taken m)
create_once derived place child parent seal xid (children.Made handle) m = heard_once place m _ _ _ refl (empty_is place m)
create_once derived place child parent seal xid (children.Refused major) m = heard_once place m _ _ _ refl (empty_is place m)
create_once derived place child parent seal xid children.Misspelt m = heard_once place m _ _ _ refl (empty_is place m)
create_once derived place child parent seal xid (children.Failed stat) m = heard_once place m _ _ _ refl (empty_is place m)
create_once derived place child parent seal xid (children.Denied why) m = heard_once place m _ _ _ refl (empty_is place m)
create_once derived place child parent seal xid children.Unmatched m = unheard place m

step_once : (place : ℕ) (next : Result Setup Status) (accepted : Option Seal) (m w : Mounted) → awaited_at w place ≡ None → IsOnce place m (after_step next accepted w)
step_once place (Ok setup) accepted m w none = heard_once place m _ _ _ refl none
step_once place (Err status) accepted m w none = heard_once place m _ _ _ refl (fallen_if_none (is_lost status) place w none)

setup_once : (place : ℕ) (standing : Standing) (reply : Reply) (accepted : Option Seal) (m w : Mounted) → awaited_at w place ≡ None → IsOnce place m (after_setup standing reply accepted w)
setup_once place (standings.Down kept) reply accepted m w none = heard_once place m _ _ _ refl none
setup_once place (standings.Rooted root) reply accepted m w none =
    step_once place (after_answer w.reclaims reply.status reply.results root.setup) accepted m w none

reply_once : (place : ℕ) (aim : Aim) (present : Bool) (reply : Reply) (accepted : Option Seal) (m w : Mounted) → awaited_at w place ≡ None
    → IsOnce place m (after_reply aim present reply accepted w)
reply_once place aims.Setup present reply accepted m w none = setup_once place w.standing reply accepted m w none
reply_once place (aims.Child child) present reply accepted m w none = heard_once place m _ _ _ refl none
reply_once place aims.Slot present reply accepted m w none = heard_once place m _ _ _ refl (fallen_if_none (present && is_lost reply.status) place w none)
reply_once place aims.End present reply accepted m w none = heard_once place m _ _ _ refl none

call_once : (place : ℕ) (aim : Aim) (present : Bool) (seal : Seal) (taken : Taken) (m : Mounted) → IsOnce place m (after_call place aim present seal taken m)
call_once place aim present seal (answers.Answer reply) m = reply_once place aim present reply (Some seal) m (emptied place m) (empty_is place m)
call_once place aim present seal answers.Misspelt m = heard_once place m _ _ _ refl (empty_is place m)
call_once place aim present seal (answers.Failed stat) m = heard_once place m _ _ _ refl (empty_is place m)
call_once place aim present seal (answers.Denied why) m = heard_once place m _ _ _ refl (fallen_if_none present place (emptied place m) (empty_is place m))
call_once place aim present seal answers.Unmatched m = unheard place m

aim_once : (means : Means) (place : ℕ) (message : List ℕ) (child : Option ℕ) (aim : Aim) (call : Asking) (c : Context) (m : Mounted) → IsOnce place m (by_aim means place message child aim call c m)
aim_once means place message (Some child) aim call c m =
    create_once means.derived place child (parent_of c) call.seal call.awaited.xid (child_of means.mic c.caller.key call.awaited message) m
aim_once means place message None aim call c m =
    call_once place aim (is_present m.standing c) call.seal (taken_of means.mic c.caller.key call.awaited (ops_of call.asked) message) m

context_once : (means : Means) (place : ℕ) (message : List ℕ) (aim : Aim) (call : Asking) (c : Option Context) (m : Mounted) → IsOnce place m (by_context means place message aim call c m)
context_once means place message aim call None m = unheard place m
context_once means place message aim call (Some c) m = aim_once means place message (child_for aim) aim call c m

pending_once : (means : Means) (place : ℕ) (message : List ℕ) (pending : Pending) (m : Mounted) → IsOnce place m (by_pending means place message pending m)
pending_once means place message (Init init) m = init_once place init (begun_of means.mic (means.finished init.nonce) init.xid message) m
pending_once means place message (Under context aim call) m = context_once means place message aim call (context_of context m.contexts) m

awaiting_once : (means : Means) (place : ℕ) (message : List ℕ) (a : Option Awaiting) (m : Mounted) → IsOnce place m (by_awaiting means place message a m)
awaiting_once means place message None m = unheard place m
awaiting_once means place message (Some a) m = pending_once means place message a.pending m

pub taken_once : (means : Means) (place : ℕ) (message : List ℕ) (m : Mounted) → IsOnce place m (taken_at means place message m)
taken_once means place message m = awaiting_once means place message (awaited_at m place) m

-- ---- a mount that begins again

pub none_at : (n i : ℕ) → get_or (replicate n (let none : Option ℕ = None in none)) i None ≡ None
none_at zero zero = refl
none_at zero (suc i) = refl
none_at (suc n) zero = refl
none_at (suc n) (suc i) = none_at n i

aim_stays : (sent_at context : ℕ) (aim : Aim) (call : Asking) → let a : Awaiting = record { sent_at = sent_at; pending = Under context aim call } in place_sets_up (staying (Some a)) ≡ false
aim_stays sent_at context aims.Setup call = refl
aim_stays sent_at context (aims.Child child) call = refl
aim_stays sent_at context aims.Slot call = refl
aim_stays sent_at context aims.End call = refl

pending_stays : (sent_at : ℕ) (pending : Pending) → let a : Awaiting = record { sent_at = sent_at; pending = pending } in place_sets_up (staying (Some a)) ≡ false
pending_stays sent_at (Init init) = refl
pending_stays sent_at (Under context aim call) = aim_stays sent_at context aim call

place_stays : (a : Option Awaiting) → place_sets_up (staying a) ≡ false
place_stays None = refl
place_stays (Some a) = pending_stays a.sent_at a.pending

pub none_sets_up : (places : List (Option Awaiting)) → list_any place_sets_up (map staying places) ≡ false
none_sets_up [] = refl
none_sets_up (a ∷ places) = rw (place_stays a) (none_sets_up places)
