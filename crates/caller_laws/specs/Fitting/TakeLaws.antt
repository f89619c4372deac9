-- A record that is taken, and all else that becomes of a mount, leaves one that is fit.
use Rattle.std.proofs.Common.{ℕ, ◌+◌, ◌≤◌, ◌<◌, ◌^◌, Bool, true, false, List, [], ◌∷◌, Option, Some, None, Result, Ok, Err, arith}
use Rattle.std.specs.Prelude.{◌&&◌, IfOk, IfSome, if◌then◌else◌}
use Rattle.std.specs.List.{AllByRecursion}
use Rattle.std.proofs.lemmas.List.{length-take}
use Rattle.caller_laws.specs.Fitting.Answers.{FileResIsFit, ReplyIsFit, ResIsFit, ToldIsFit}
use Rattle.caller_laws.specs.Fitting.Bounds.{FixedFits}
use Rattle.caller_laws.specs.Fitting.Fitting.{BeginningIsFit, ContextIsFit, MountIsFit, PendingIsFit, PlaceIsFit, SetupIsFit, StandingIsFit}
use Rattle.caller_laws.specs.Fitting.HeardLaws.{BegunIsFit, ChildIsFit, TakenIsFit, begun_is, child_is, taken_is}
use Rattle.caller_laws.specs.Fitting.ListLaws.{append_holds, filter_holds, map_holds, same_holds, set_holds}
use Rattle.caller_laws.specs.Fitting.SendLaws.{context_fits}
use Rattle.file_ops.specs.declared.results.FileRes.{FileRes}
use Rattle.file_ops.specs.declared.results.FileRes.TheVariants as files
use Rattle.gss_ctx.specs.Replies.{begun_of}
use Rattle.gss_ctx.specs.declared.begin.Begun.{Begun}
use Rattle.gss_ctx.specs.declared.begin.Begun.TheVariants as begins
use Rattle.gss_ctx.specs.declared.numbers.TheConstants.{CHILD_KEY}
use Rattle.mount.specs.Falling.{fallen, given_up, is_used, standing_after, standing_without, staying, stays_pending, tidied}
use Rattle.mount.specs.State.{Mounted, awaited_at, context_of, emptied, fresh, is_present, root_name}
use Rattle.mount.specs.Taking.{Means, after_call, after_create, after_init, after_reply, after_setup, after_step, by_aim, by_awaiting, by_context, by_pending, child_for, fallen_if, is_lost, parent_of, stepped_to, taken_at, with_context, with_root}
use Rattle.mount.specs.declared.state.Aim.{Aim}
use Rattle.mount.specs.declared.state.Aim.TheVariants as aims
use Rattle.mount.specs.declared.state.Awaiting.{Awaiting}
use Rattle.mount.specs.declared.state.Context.{Context}
use Rattle.mount.specs.declared.state.Pending.{Pending}
use Rattle.mount.specs.declared.state.Pending.TheVariants.{Init, Under}
use Rattle.mount.specs.declared.state.Standing.{Standing}
use Rattle.mount.specs.declared.state.Standing.TheVariants.{Down, Rooted}
use Rattle.mount.specs.declared.state.TheConstants.{PLACES}
use Rattle.mount.specs.declared.taking.Heard.{Heard}
use Rattle.nfs_base.specs.declared.answer.Answer.TheVariants.{Done}
use Rattle.nfs_base.specs.declared.limits.TheConstants.{SLOTS}
use Rattle.nfs_base.specs.declared.seal.End.{End}
use Rattle.nfs_base.specs.declared.seal.Seal.{Seal}
use Rattle.nfs_base.specs.declared.status.Status.{Status}
use Rattle.nfs_compound.specs.declared.reply.Reply.{Reply}
use Rattle.nfs_compound.specs.declared.res.Res.{Res}
use Rattle.nfs_compound.specs.declared.res.Res.TheVariants.{Bare, Copy, File}
use Rattle.session_client.specs.Answers.{child_of, taken_of}
use Rattle.session_client.specs.Asked.{ops_of}
use Rattle.session_client.specs.Pending.{Asking, Beginning}
use Rattle.session_client.specs.Setup.{after_answer, created, exchanged, file_created, file_exchanged, joined, reclaimed, registered, res_created, res_exchanged, rooted}
use Rattle.session_client.specs.declared.answers.Taken.{Taken}
use Rattle.session_client.specs.declared.answers.Taken.TheVariants as answers
use Rattle.session_client.specs.declared.answers.TakenChild.{TakenChild}
use Rattle.session_client.specs.declared.answers.TakenChild.TheVariants as children
use Rattle.session_client.specs.declared.setup.Setup.{Setup}
use Rattle.session_client.specs.declared.setup.Setup.TheVariants as setups
use Rattle.wire_xdr.specs.Cursor.{IsBytes}
use Rattle.wire_xdr.specs.StepLaws.{IsBytes-take}

-- ---- the beginning

pub fresh_fits : (server : End) (reclaims : Bool) → MountIsFit (fresh server reclaims)
fresh_fits server reclaims = record { contexts = tt; standing = tt; places = same_holds PlaceIsFit None None PLACES tt tt }

-- ---- what is given up, and a mount that begins again

emptied_fits : (place : ℕ) (m : Mounted) → MountIsFit m → MountIsFit (emptied place m)
emptied_fits place m h = record { contexts = h.contexts; standing = h.standing; places = set_holds PlaceIsFit None m.places place None h.places tt }

tidied_fits : (m : Mounted) → MountIsFit m → MountIsFit (tidied m)
tidied_fits m h = record {
  contexts = filter_holds ContextIsFit (λ (c : Context). is_used (root_name m.standing) m.children m.places c.name) m.contexts h.contexts;
  standing = h.standing;
  places = h.places;
}

staying_fits : (o : Option Awaiting) → PlaceIsFit o → PlaceIsFit (staying o)
staying_fits None h = tt
staying_fits (Some a) h = by (stays_pending a.pending)
  where
    by : (b : Bool) → PlaceIsFit (if b then Some a else None)
    by true = h
    by false = tt

pub fallen_fits : (m : Mounted) → MountIsFit m → MountIsFit (fallen m)
fallen_fits m h =
    tidied_fits _ (record { contexts = h.contexts; standing = tt; places = map_holds PlaceIsFit PlaceIsFit None None staying m.places staying_fits tt h.places })

fallen_if_fits : (b : Bool) (m : Mounted) → MountIsFit m → MountIsFit (fallen_if b m)
fallen_if_fits true m h = fallen_fits m h
fallen_if_fits false m h = h

after_fits : (calls : ℕ) (s : Standing) (p : Pending) → StandingIsFit calls s → PendingIsFit p → StandingIsFit calls (standing_after s p)
after_fits calls s (Init init) h fit = fit
after_fits calls s (Under context aim call) h fit = h

without_fits : (calls : ℕ) (s : Standing) (o : Option Awaiting) → StandingIsFit calls s → PlaceIsFit o → StandingIsFit calls (standing_without s o)
without_fits calls s None h fit = h
without_fits calls s (Some a) h fit = after_fits calls s a.pending h fit

pub given_up_fits : (place : ℕ) (m : Mounted) → MountIsFit m → MountIsFit (given_up place m)
given_up_fits place m h = record {
  contexts = h.contexts;
  standing = without_fits m.calls m.standing (awaited_at m place) h.standing (h.places place);
  places = (emptied_fits place m h).places;
}

-- ---- what an answer leaves of the setup

file_exchanged_fits : (res : FileRes) → FileResIsFit res → IfSome (file_exchanged res) (λ (c : ℕ × ℕ). (c.0 < 2 ^ 64) × (c.1 < 2 ^ 32))
file_exchanged_fits (files.ExchangeId (Done told)) h = h
file_exchanged_fits _ h = tt

res_exchanged_fits : (res : Res) → ResIsFit res → IfSome (res_exchanged res) (λ (c : ℕ × ℕ). (c.0 < 2 ^ 64) × (c.1 < 2 ^ 32))
res_exchanged_fits (File res) h = file_exchanged_fits res h
res_exchanged_fits (Copy res) h = tt
res_exchanged_fits (Bare op s) h = tt

exchanged_fits : (told : List Res) → AllByRecursion ResIsFit told → IfSome (exchanged told) (λ (c : ℕ × ℕ). (c.0 < 2 ^ 64) × (c.1 < 2 ^ 32))
exchanged_fits [] h = tt
exchanged_fits (res ∷ more) h = res_exchanged_fits res h.0

file_created_fits : (res : FileRes) → FileResIsFit res → IfSome (file_created res) (FixedFits 16)
file_created_fits (files.CreateSession (Done told)) h = h
file_created_fits _ h = tt

res_created_fits : (res : Res) → ResIsFit res → IfSome (res_created res) (FixedFits 16)
res_created_fits (File res) h = file_created_fits res h
res_created_fits (Copy res) h = tt
res_created_fits (Bare op s) h = tt

created_fits : (told : List Res) → AllByRecursion ResIsFit told → IfSome (created told) (FixedFits 16)
created_fits [] h = tt
created_fits (res ∷ more) h = res_created_fits res h.0

registered_fits : (status : Status) (o : Option (ℕ × ℕ)) → IfSome o (λ (c : ℕ × ℕ). (c.0 < 2 ^ 64) × (c.1 < 2 ^ 32)) → IfOk (registered status o) SetupIsFit
registered_fits status None h = tt
registered_fits status (Some c) h = h

joined_fits : (reclaims : Bool) (client : ℕ) (status : Status) (o : Option (List ℕ)) → client < 2 ^ 64 → IfSome o (FixedFits 16) → IfOk (joined reclaims client status o) SetupIsFit
joined_fits reclaims client status None c h = tt
joined_fits true client status (Some session) c h = (c, h)
joined_fits false client status (Some session) c h = (c, h)

either : (b : Bool) (one other : Result Setup Status) → IfOk one SetupIsFit → IfOk other SetupIsFit → IfOk (if b then one else other) SetupIsFit
either true one other h k = h
either false one other h k = k

reclaimed_fits : (up : Setup) (status : Status) → SetupIsFit up → IfOk (reclaimed up status) SetupIsFit
reclaimed_fits up status h = either _ (Ok up) (Err status) h tt

answer_fits : (reclaims : Bool) (status : Status) (told : List Res) (setup : Setup) → AllByRecursion ResIsFit told → SetupIsFit setup
    → IfOk (after_answer reclaims status told setup) SetupIsFit
unfolding after_answer
answer_fits reclaims status told setups.Down all h = tt
answer_fits reclaims status told (setups.Rooted verifier) all h = registered_fits status (exchanged told) (exchanged_fits told all)
answer_fits reclaims status told (setups.Registered client sequence) all h = joined_fits reclaims client status (created told) h.0 (created_fits told all)
answer_fits reclaims status told (setups.Joined client session) all h = reclaimed_fits (setups.Up client session) status h
answer_fits reclaims status told (setups.Up client session) all h = h

-- ---- a record is taken

-- what is told is fit, and the mount afterwards
pub record TakesFit (o : Heard × Mounted) : Type 0 where
  pub told : ToldIsFit o.0.told
  pub fits : MountIsFit o.1

only : (o : Heard × Mounted) → ToldIsFit o.0.told → MountIsFit o.1 → TakesFit o
only o told fits = record { told = told; fits = fits }

stepped_fits : (calls : ℕ) (setup : Setup) (s : Standing) → SetupIsFit setup → StandingIsFit calls s → StandingIsFit calls (stepped_to setup s)
stepped_fits calls setup (Down kept) fit h = h
stepped_fits calls setup (Rooted root) fit h = record { set_up = fit; numbers = h.numbers }

step_takes : (o : Result Setup Status) (accepted : Option Seal) (m : Mounted) → IfOk o SetupIsFit → MountIsFit m → TakesFit (after_step o accepted m)
step_takes (Ok setup) accepted m fit h =
    only _ tt (record { contexts = h.contexts; standing = stepped_fits m.calls setup m.standing fit h.standing; places = h.places })
step_takes (Err status) accepted m fit h = only _ tt (fallen_if_fits (is_lost status) m h)

setup_takes : (s : Standing) (reply : Reply) (accepted : Option Seal) (m : Mounted) → StandingIsFit m.calls s → ReplyIsFit reply → MountIsFit m
    → TakesFit (after_setup s reply accepted m)
setup_takes (Down kept) reply accepted m s fit h = only _ fit h
setup_takes (Rooted root) reply accepted m s fit h =
    step_takes (after_answer m.reclaims reply.status reply.results root.setup) accepted m (answer_fits m.reclaims reply.status reply.results root.setup fit s.set_up) h

reply_takes : (aim : Aim) (present : Bool) (reply : Reply) (accepted : Option Seal) (m : Mounted) → ReplyIsFit reply → MountIsFit m
    → TakesFit (after_reply aim present reply accepted m)
reply_takes aims.Setup present reply accepted m fit h = setup_takes m.standing reply accepted m h.standing fit h
reply_takes (aims.Child child) present reply accepted m fit h = only _ fit h
reply_takes aims.Slot present reply accepted m fit h = only _ fit (fallen_if_fits (present && is_lost reply.status) m h)
reply_takes aims.End present reply accepted m fit h = only _ fit h

call_takes : (place : ℕ) (aim : Aim) (present : Bool) (seal : Seal) (taken : Taken) (m : Mounted) → TakenIsFit taken → MountIsFit m
    → TakesFit (after_call place aim present seal taken m)
call_takes place aim present seal (answers.Answer reply) m fit h = reply_takes aim present reply (Some seal) (emptied place m) fit (emptied_fits place m h)
call_takes place aim present seal answers.Misspelt m fit h = only _ tt (emptied_fits place m h)
call_takes place aim present seal (answers.Failed stat) m fit h = only _ tt (emptied_fits place m h)
call_takes place aim present seal (answers.Denied why) m fit h = only _ tt (fallen_if_fits present (emptied place m) (emptied_fits place m h))
call_takes place aim present seal answers.Unmatched m fit h = only _ tt h

with_context_fits : (child name : ℕ) (c : Context) (handle key : List ℕ) (m : Mounted) → IsBytes handle → ContextIsFit c → MountIsFit m → MountIsFit (with_context child name (parent_of c) handle key m)
with_context_fits child name c handle key m are fit h =
    tidied_fits _ (record { contexts = append_holds ContextIsFit m.contexts _ h.contexts (record { handle = are; root = fit.root }, tt); standing = h.standing; places = h.places })

create_takes : (derived : List ℕ → ℕ → List ℕ → List ℕ) (place child : ℕ) (c : Context) (seal : Seal) (xid : ℕ) (taken : TakenChild) (m : Mounted) → ChildIsFit taken
    → ContextIsFit c → MountIsFit m → TakesFit (after_create derived place child (parent_of c) seal xid taken m)
create_takes derived place child c seal xid (children.Made handle) m fit there h =
    only _ tt (with_context_fits child xid c handle (derived c.key CHILD_KEY handle) (emptied place m) fit there (emptied_fits place m h))
create_takes derived place child c seal xid (children.Refused major) m fit there h = only _ tt (emptied_fits place m h)
create_takes derived place child c seal xid children.Misspelt m fit there h = only _ tt (emptied_fits place m h)
create_takes derived place child c seal xid (children.Failed stat) m fit there h = only _ tt (emptied_fits place m h)
create_takes derived place child c seal xid (children.Denied why) m fit there h = only _ tt (emptied_fits place m h)
create_takes derived place child c seal xid children.Unmatched m fit there h = only _ tt h

front_fits : (nonce : List ℕ) → FixedFits 32 nonce → SetupIsFit (rooted nonce)
front_fits nonce h = record { size_is = omega (arith, length-take 8 nonce, h.size_is); are_bytes = IsBytes-take 8 nonce h.are_bytes }

with_root_fits : (name : ℕ) (nonce handle key : List ℕ) (m : Mounted) → FixedFits 32 nonce → FixedFits 8 handle → MountIsFit m
    → MountIsFit (with_root name (rooted nonce) handle key m)
with_root_fits name nonce handle key m n are h =
    tidied_fits _ (record {
      contexts = append_holds ContextIsFit m.contexts _ h.contexts (record { handle = are.are_bytes; root = are }, tt);
      standing = record { set_up = front_fits nonce n; numbers = same_holds (λ (n : ℕ). n ≤ m.calls + 1) 0 1 SLOTS (omega arith) (omega arith) };
      places = h.places;
    })

init_takes : (place : ℕ) (init : Beginning) (begun : Begun) (m : Mounted) → BeginningIsFit init → BegunIsFit begun → MountIsFit m → TakesFit (after_init place init begun m)
init_takes place init (begins.Made handle key) m b fit h = only _ tt (with_root_fits init.xid init.nonce handle key (emptied place m) b.nonce fit (emptied_fits place m h))
init_takes place init (begins.Refused major) m b fit h = only _ tt (fallen_fits (emptied place m) (emptied_fits place m h))
init_takes place init (begins.Failed stat) m b fit h =
    let e = emptied_fits place m h in
    only _ tt (record { contexts = e.contexts; standing = b; places = e.places })
init_takes place init (begins.Denied why) m b fit h = only _ tt (fallen_fits (emptied place m) (emptied_fits place m h))
init_takes place init begins.Unmatched m b fit h = only _ tt h

-- ---- at a place

module _ (means : Means) (place : ℕ) (message : List ℕ) (are : IsBytes message) where
  aim_takes : (o : Option ℕ) (aim : Aim) (call : Asking) (c : Context) (m : Mounted) → ContextIsFit c → MountIsFit m → TakesFit (by_aim means place message o aim call c m)
  aim_takes (Some child) aim call c m there h =
      create_takes means.derived place child c call.seal call.awaited.xid (child_of means.mic c.caller.key call.awaited message) m
      (child_is means.mic c.caller.key call.awaited message are) there h
  aim_takes None aim call c m there h =
      call_takes place aim (is_present m.standing c) call.seal (taken_of means.mic c.caller.key call.awaited (ops_of call.asked) message) m
      (taken_is means.mic c.caller.key call.awaited (ops_of call.asked) message are) h

  context_takes : (aim : Aim) (call : Asking) (o : Option Context) (m : Mounted) → IfSome o ContextIsFit → MountIsFit m → TakesFit (by_context means place message aim call o m)
  context_takes aim call None m there h = only _ tt h
  context_takes aim call (Some c) m there h = aim_takes (child_for aim) aim call c m there h

  pending_takes : (p : Pending) (m : Mounted) → PendingIsFit p → MountIsFit m → TakesFit (by_pending means place message p m)
  pending_takes (Init init) m fit h =
      init_takes place init (begun_of means.mic (means.finished init.nonce) init.xid message) m fit (begun_is means.mic (means.finished init.nonce) init.xid message are) h
  pending_takes (Under context aim call) m fit h = context_takes aim call (context_of context m.contexts) m (context_fits context m.contexts h.contexts) h

  awaiting_takes : (o : Option Awaiting) (m : Mounted) → PlaceIsFit o → MountIsFit m → TakesFit (by_awaiting means place message o m)
  awaiting_takes None m fit h = only _ tt h
  awaiting_takes (Some a) m fit h = pending_takes a.pending m fit h

  pub takes_fit : (m : Mounted) → MountIsFit m → TakesFit (taken_at means place message m)
  takes_fit m h = awaiting_takes (awaited_at m place) m (h.places place) h
