-- What a record does that is taken at a place (RFC 2203 section 5, RFC 7861 section 2.5, RFC 8881 section 2.10): what it
-- is to the call that is awaited there, under which seal it was accepted, and the mount afterwards. An answer is taken
-- once: nothing is awaited there any more. A denial of a call of the mount that is there, but of a CREATE, makes it begin
-- again; so do a refused INIT, and the statuses BADSESSION and STALE_CLIENTID.
use Rattle.std.specs.Prelude.{ℕ, ◌==◌, ◌||◌, ◌&&◌, Bool, true, false, List, [], ◌∷◌, ◌++◌, slice_set, Option, Some, None, Result, Ok, Err}
use Rattle.nfs_base.specs.declared.seal.Seal.{Seal}
use Rattle.nfs_base.specs.declared.status.Status.{Status}
use Rattle.nfs_base.specs.declared.status.TheConstants.Status.{BADSESSION, STALE_CLIENTID}
use Rattle.gss_ctx.specs.Calls.{Side, seal_of}
use Rattle.gss_ctx.specs.Replies.{begun_of}
use Rattle.gss_ctx.specs.Seals.{Mic}
use Rattle.gss_ctx.specs.declared.begin.Begun.{Begun}
use Rattle.gss_ctx.specs.declared.begin.Begun.TheVariants as begins
use Rattle.gss_ctx.specs.declared.numbers.TheConstants.{CHILD_KEY}
use Rattle.nfs_compound.specs.declared.reply.Reply.{Reply}
use Rattle.session_client.specs.Answers.{taken_of, child_of}
use Rattle.session_client.specs.Asked.{ops_of}
use Rattle.session_client.specs.Pending.{Asking, Beginning}
use Rattle.session_client.specs.Setup.{after_answer, rooted}
use Rattle.session_client.specs.Slots.{fresh_numbers}
use Rattle.session_client.specs.declared.answers.Taken.{Taken}
use Rattle.session_client.specs.declared.answers.Taken.TheVariants as answers
use Rattle.session_client.specs.declared.answers.TakenChild.{TakenChild}
use Rattle.session_client.specs.declared.answers.TakenChild.TheVariants as children
use Rattle.session_client.specs.declared.setup.Setup.{Setup}
use Rattle.mount.specs.declared.state.Aim.{Aim}
use Rattle.mount.specs.declared.state.Aim.TheVariants as aims
use Rattle.mount.specs.declared.state.Awaiting.{Awaiting}
use Rattle.mount.specs.declared.state.Context.{Context}
use Rattle.mount.specs.declared.state.Pending.{Pending}
use Rattle.mount.specs.declared.state.Pending.TheVariants.{Init, Under}
use Rattle.mount.specs.declared.state.Standing.{Standing}
use Rattle.mount.specs.declared.state.Standing.TheVariants as standings
use Rattle.mount.specs.declared.taking.Heard.{Heard}
use Rattle.mount.specs.declared.taking.Parent.{Parent}
use Rattle.mount.specs.declared.taking.Told.{Told}
use Rattle.mount.specs.declared.taking.Told.TheVariants as tells
use Rattle.mount.specs.Falling.{fallen, tidied}
use Rattle.mount.specs.State.{Mounted, no_children, awaited_at, emptied, context_of, is_present}

abbrev pub heard : Told → Option Seal → Mounted → Heard × Mounted
heard told accepted m = (record { told = told; accepted = accepted }, m)

-- ---- INIT: its answer gives the root context

abbrev pub new_side : Mounted → List ℕ → List ℕ → Side
new_side m handle key = record { owner = m.server; handle = handle; key = key; next = 1 }

abbrev pub with_root : ℕ → Setup → List ℕ → List ℕ → Mounted → Mounted
with_root name setup handle key m = tidied (record m {
  contexts = m.contexts ++ (record { name = name; mount = name; root = handle; key = key; caller = new_side m handle key }) ∷ [];
  standing = standings.Rooted (record { name = name; setup = setup; numbers = fresh_numbers });
  children = no_children;
})

-- that answer is accepted under number 0 of the context that it makes
abbrev pub after_init : ℕ → Beginning → Begun → Mounted → Heard × Mounted
after_init place init (begins.Made handle key) m =
    heard tells.Rooted (Some (seal_of (new_side m handle key) 0)) (with_root init.xid (rooted init.nonce) handle key (emptied place m))
after_init place init (begins.Refused major) m = heard (tells.Refused major) None (fallen (emptied place m))
after_init place init (begins.Failed stat) m = heard (tells.Failed stat) None (record (emptied place m) { standing = standings.Down (Some init) })
after_init place init (begins.Denied why) m = heard (tells.Denied why) None (fallen (emptied place m))
after_init place init begins.Unmatched m = heard tells.Unmatched None m

-- what is awaited at a place is an INIT
abbrev pub init_heard : ℕ → Option Pending → Begun → Mounted → Heard × Mounted
init_heard place (Some (Init init)) begun m = after_init place init begun m
init_heard place _ begun m = heard tells.Unmatched None m

-- ---- CREATE: its answer gives a child, whose key is derived from its root's

-- what a child has of its root
abbrev pub parent_of : Context → Parent
parent_of c = record { mount = c.mount; root = c.root; key = c.key }

abbrev pub with_context : ℕ → ℕ → Parent → List ℕ → List ℕ → Mounted → Mounted
with_context child name parent handle key m = tidied (record m {
  contexts = m.contexts ++ (record { name = name; mount = parent.mount; root = parent.root; key = key; caller = new_side m handle key }) ∷ [];
  children = slice_set m.children child (Some name);
})

abbrev pub after_create : (List ℕ → ℕ → List ℕ → List ℕ) → ℕ → ℕ → Parent → Seal → ℕ → TakenChild → Mounted → Heard × Mounted
after_create derived place child parent seal xid (children.Made handle) m =
    heard (tells.Child child) (Some seal) (with_context child xid parent handle (derived parent.key CHILD_KEY handle) (emptied place m))
after_create derived place child parent seal xid (children.Refused major) m = heard (tells.Refused major) (Some seal) (emptied place m)
after_create derived place child parent seal xid children.Misspelt m = heard tells.Misspelt (Some seal) (emptied place m)
after_create derived place child parent seal xid (children.Failed stat) m = heard (tells.Failed stat) None (emptied place m)
after_create derived place child parent seal xid (children.Denied why) m = heard (tells.Denied why) None (emptied place m)
after_create derived place child parent seal xid children.Unmatched m = heard tells.Unmatched None m

-- ---- compounds and DESTROY

-- the session is gone, or the client
abbrev pub is_lost : Status → Bool
is_lost status = (status.number == BADSESSION.number) || (status.number == STALE_CLIENTID.number)

abbrev pub fallen_if : Bool → Mounted → Mounted
fallen_if true m = fallen m
fallen_if false m = m

-- the answer to a call of the setup leads to the next step
abbrev pub stepped_to : Setup → Standing → Standing
stepped_to setup (standings.Down kept) = standings.Down kept
stepped_to setup (standings.Rooted root) = standings.Rooted (record root { setup = setup })

abbrev pub after_step : Result Setup Status → Option Seal → Mounted → Heard × Mounted
after_step (Ok setup) accepted m = heard tells.Stepped accepted (record m { standing = stepped_to setup m.standing })
after_step (Err status) accepted m = heard (tells.Stopped status) accepted (fallen_if (is_lost status) m)

abbrev pub after_setup : Standing → Reply → Option Seal → Mounted → Heard × Mounted
after_setup (standings.Down kept) reply accepted m = heard (tells.Answer reply) accepted m
after_setup (standings.Rooted root) reply accepted m = after_step (after_answer m.reclaims reply.status reply.results root.setup) accepted m

abbrev pub after_reply : Aim → Bool → Reply → Option Seal → Mounted → Heard × Mounted
after_reply aims.Setup present reply accepted m = after_setup m.standing reply accepted m
after_reply (aims.Child child) present reply accepted m = heard (tells.Answer reply) accepted m
after_reply aims.Slot present reply accepted m = heard (tells.Answer reply) accepted (fallen_if (present && is_lost reply.status) m)
after_reply aims.End present reply accepted m = heard (tells.Answer reply) accepted m

abbrev pub after_call : ℕ → Aim → Bool → Seal → Taken → Mounted → Heard × Mounted
after_call place aim present seal (answers.Answer reply) m = after_reply aim present reply (Some seal) (emptied place m)
after_call place aim present seal answers.Misspelt m = heard tells.Misspelt (Some seal) (emptied place m)
after_call place aim present seal (answers.Failed stat) m = heard (tells.Failed stat) None (emptied place m)
after_call place aim present seal (answers.Denied why) m = heard (tells.Denied why) None (fallen_if present (emptied place m))
after_call place aim present seal answers.Unmatched m = heard tells.Unmatched None m

-- ---- a record at a place

-- what a mechanism does: its codes, its keys of children, and its keys of contexts by their nonce
pub record Means : Type 0 where
  pub mic : Mic
  pub derived : List ℕ → ℕ → List ℕ → List ℕ
  pub finished : List ℕ → List ℕ → Option (List ℕ)

-- what a child that is being made is for
abbrev pub child_for : Aim → Option ℕ
child_for (aims.Child child) = Some child
child_for _ = None

abbrev pub by_aim : Means → ℕ → List ℕ → Option ℕ → Aim → Asking → Context → Mounted → Heard × Mounted
by_aim means place message (Some child) aim call c m =
    after_create means.derived place child (parent_of c) call.seal call.awaited.xid (child_of means.mic c.caller.key call.awaited message) m
by_aim means place message None aim call c m =
    after_call place aim (is_present m.standing c) call.seal (taken_of means.mic c.caller.key call.awaited (ops_of call.asked) message) m

abbrev pub by_context : Means → ℕ → List ℕ → Aim → Asking → Option Context → Mounted → Heard × Mounted
by_context means place message aim call None m = heard tells.Unmatched None m
by_context means place message aim call (Some c) m = by_aim means place message (child_for aim) aim call c m

abbrev pub by_pending : Means → ℕ → List ℕ → Pending → Mounted → Heard × Mounted
by_pending means place message (Init init) m =
    after_init place init (begun_of means.mic (means.finished init.nonce) init.xid message) m
by_pending means place message (Under context aim call) m =
    by_context means place message aim call (context_of context m.contexts) m

abbrev pub by_awaiting : Means → ℕ → List ℕ → Option Awaiting → Mounted → Heard × Mounted
by_awaiting means place message None m = heard tells.Unmatched None m
by_awaiting means place message (Some a) m = by_pending means place message a.pending m

abbrev pub taken_at : Means → ℕ → List ℕ → Mounted → Heard × Mounted
taken_at means place message m = by_awaiting means place message (awaited_at m place) m
