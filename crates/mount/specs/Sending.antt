-- What a caller sends, and what then awaits its answer (RFC 5531 section 9, RFC 2203 section 5, RFC 8881 section 2.10.6).
-- Each of these gives what goes out and the mount afterwards; where nothing goes out, the mount is as it was.
use Rattle.std.specs.Prelude.{ℕ, ◌==◌, ◌≤◌, List, length, slice_index, Option, Some, None, IfSome, option_map}
use Rattle.nfs_base.specs.Changed.{changed}
use Rattle.gss_ctx.specs.Init.{init_message}
use Rattle.gss_ctx.specs.Seals.{Mic}
use Rattle.rpc_msg.specs.declared.records.TheConstants.{RECORD_LIMIT}
use Rattle.session_calls.specs.Calls.{slot_compound, sole_compound}
use Rattle.session_calls.specs.declared.slot_call.SlotCall.{SlotCall}
use Rattle.session_calls.specs.declared.sole_call.BackChannel.{BackChannel}
use Rattle.session_calls.specs.declared.sole_call.SoleCall.{SoleCall}
use Rattle.session_calls.specs.declared.sole_call.SoleCall.TheVariants.{DestroySession, DestroyClientId}
use Rattle.session_client.specs.Asked.{called_under, create_args}
use Rattle.session_client.specs.Pending.{Asking, Beginning, asking}
use Rattle.gss_ctx.specs.Calls.{Side}
use Rattle.session_client.specs.Setup.{next_call}
use Rattle.session_client.specs.Slots.{after_new}
use Rattle.session_client.specs.declared.asked.Asked.{Asked}
use Rattle.session_client.specs.declared.asked.Asked.TheVariants.{Compound, Create, Destroy}
use Rattle.session_client.specs.declared.sealing.SealedCall.{SealedCall}
use Rattle.session_client.specs.declared.setup.Setup.{Setup}
use Rattle.session_client.specs.declared.setup.Setup.TheVariants.{Joined, Up}
use Rattle.mount.specs.declared.calling.Ending.{Ending}
use Rattle.mount.specs.declared.calling.Ending.TheVariants as endings
use Rattle.mount.specs.declared.calling.Under.{Under}
use Rattle.mount.specs.declared.calling.Under.TheVariants as unders
use Rattle.mount.specs.declared.machine.SendAt.{SendAt}
use Rattle.mount.specs.declared.machine.Sent.{Sent}
use Rattle.mount.specs.declared.state.Aim.{Aim}
use Rattle.mount.specs.declared.state.Aim.TheVariants as aims
use Rattle.mount.specs.declared.state.Awaiting.{Awaiting}
use Rattle.mount.specs.declared.state.Context.{Context}
use Rattle.mount.specs.declared.state.Pending.{Pending}
use Rattle.mount.specs.declared.state.Pending.TheVariants as pendings
use Rattle.mount.specs.declared.state.Standing.{Standing}
use Rattle.mount.specs.declared.state.Standing.TheVariants.{Down, Rooted}
use Rattle.mount.specs.State.{Mounted, awaited_at, awaiting_at, child_name, context_of, kept_in, root_name}

-- what goes out is no longer than a record may be (RFC 5531 section 11)
abbrev pub FitsRecord : Option Sent → Type 0
FitsRecord told = IfSome told (λ sent. length sent.bytes ≤ RECORD_LIMIT)

-- ---- INIT

abbrev pub init_awaits : SendAt → Beginning → Mounted → Option Sent × Mounted
init_awaits at init m = (
  Some (record { bytes = init_message at.xid init.token; seal = None }),
  awaiting_at at.place (record { sent_at = at.now; pending = pendings.Init (record init { xid = at.xid }) }) (record m { calls = at.xid }),
)

-- it is begun with a new nonce, where the principal has a token
abbrev pub begun : SendAt → List ℕ → Option (List ℕ) → Mounted → Option Sent × Mounted
begun at nonce None m = (None, m)
begun at nonce (Some token) m = init_awaits at (record { nonce = nonce; token = token; xid = at.xid }) (record m { standing = Down None })

-- it goes out anew with the token that was kept
abbrev pub begun_by : SendAt → Option Beginning → Mounted → Option Sent × Mounted
begun_by at None m = (None, m)
begun_by at (Some init) m = init_awaits at init (record m { standing = Down None })

abbrev pub begun_anew : SendAt → Mounted → Option Sent × Mounted
begun_anew at m = begun_by at (kept_in m.standing) m

-- ---- a call under a context

-- it is sealed with the context's next number, which isn't given again
abbrev pub numbered_once : ℕ → Side → List Context → List Context
numbered_once name side contexts = changed (λ c. c.name == name) (λ c. record c { caller = side }) contexts

-- unless the numbers have run out
abbrev pub sealed_so : ℕ → Option SealedCall → Side → List Context → List Context
sealed_so name None side contexts = contexts
sealed_so name (Some call) side contexts = numbered_once name side contexts

abbrev pub call_under : Mic → ℕ → Asked → Option Context → Option SealedCall
call_under mic xid asked None = None
call_under mic xid asked (Some c) = (called_under mic c.caller xid asked).0

abbrev pub contexts_after : Mic → ℕ → ℕ → Asked → Option Context → List Context → List Context
contexts_after mic name xid asked None contexts = contexts
contexts_after mic name xid asked (Some c) contexts =
    sealed_so name (called_under mic c.caller xid asked).0 (called_under mic c.caller xid asked).1 contexts

-- the call under the first context of a name, and the contexts afterwards
abbrev pub sealed_by : Mic → ℕ → ℕ → Asked → List Context → Option SealedCall × List Context
sealed_by mic name xid asked contexts =
    (call_under mic xid asked (context_of name contexts), contexts_after mic name xid asked (context_of name contexts) contexts)

-- it awaits its answer
abbrev pub call_awaits : SendAt → ℕ → Aim → Asked → Option SealedCall → Mounted → Option Sent × Mounted
call_awaits at context aim asked None m = (None, m)
call_awaits at context aim asked (Some call) m = (
  Some (record { bytes = call.bytes; seal = Some call.seal }),
  awaiting_at at.place (record { sent_at = at.now; pending = pendings.Under context aim (asking asked call) }) (record m { calls = at.xid }),
)

abbrev pub sent_under : Mic → SendAt → ℕ → Aim → Asked → Mounted → Option Sent × Mounted
sent_under mic at context aim asked m =
    call_awaits at context aim asked (sealed_by mic context at.xid asked m.contexts).0 (record m { contexts = (sealed_by mic context at.xid asked m.contexts).1 })

-- under the root's context, or that of a child, where it is there
abbrev pub sent_by : Mic → SendAt → Option ℕ → Aim → Option Asked → Mounted → Option Sent × Mounted
sent_by mic at None aim asked m = (None, m)
sent_by mic at (Some context) aim None m = (None, m)
sent_by mic at (Some context) aim (Some asked) m = sent_under mic at context aim asked m

abbrev pub name_under : Under → Mounted → Option ℕ
name_under unders.Root m = root_name m.standing
name_under (unders.Child child) m = child_name m child

-- ---- the setup: EXCHANGE_ID and CREATE_SESSION

abbrev pub step_asked : List ℕ → Option BackChannel → Setup → Option Asked
step_asked principal back setup = option_map (λ call. Compound (sole_compound call)) (next_call principal back setup)

abbrev pub stepped_in : Mic → SendAt → List ℕ → Option BackChannel → Standing → Mounted → Option Sent × Mounted
stepped_in mic at principal back (Down kept) m = (None, m)
stepped_in mic at principal back (Rooted root) m = sent_by mic at (Some root.name) aims.Setup (step_asked principal back root.setup) m

-- ---- a call in the slot of its place, with the slot's next number

abbrev pub session_in : Setup → Option (List ℕ)
session_in (Joined client session) = Some session
session_in (Up client session) = Some session
session_in _ = None

abbrev pub slot_asked : ℕ → List ℕ → SlotCall → List ℕ → Asked
slot_asked slot numbers call session = Compound (slot_compound (record { session = session; slot = slot; number = slice_index numbers slot }) call)

abbrev pub slot_asked_in : ℕ → SlotCall → Standing → Option Asked
slot_asked_in slot call (Down kept) = None
slot_asked_in slot call (Rooted root) = option_map (slot_asked slot root.numbers call) (session_in root.setup)

-- once it went out, the slot's number isn't given again
abbrev pub numbered_in : ℕ → Standing → Standing
numbered_in slot (Down kept) = Down kept
numbered_in slot (Rooted root) = Rooted (record root { numbers = after_new root.numbers slot })

abbrev pub numbered : ℕ → Option Sent → Mounted → Option Sent × Mounted
numbered slot None m = (None, m)
numbered slot (Some sent) m = (Some sent, record m { standing = numbered_in slot m.standing })

abbrev pub slotted_by : ℕ → Option Sent × Mounted → Option Sent × Mounted
slotted_by slot outcome = numbered slot outcome.0 outcome.1

abbrev pub slotted : Mic → SendAt → Option ℕ → Aim → SlotCall → Mounted → Option Sent × Mounted
slotted mic at context aim call m = slotted_by at.place (sent_by mic at context aim (slot_asked_in at.place call m.standing) m)

-- ---- CREATE of a child, and what ends a session, a client or the root's context

abbrev pub child_asked : Mic → SendAt → ℕ → List ℕ → List ℕ → Mounted → Option Sent × Mounted
child_asked mic at child name privilege m = sent_by mic at (root_name m.standing) (aims.Child child) (Some (Create (create_args name privilege))) m

abbrev pub ending_of : Ending → ℕ → List ℕ → Option SoleCall
ending_of endings.Session client session = Some (DestroySession session)
ending_of endings.Client client session = Some (DestroyClientId client)
ending_of endings.Context client session = None

abbrev pub ending_sole : Ending → Setup → Option SoleCall
ending_sole ending (Joined client session) = ending_of ending client session
ending_sole ending (Up client session) = ending_of ending client session
ending_sole ending _ = None

abbrev pub ending_bare : Ending → Option Asked
ending_bare endings.Context = Some Destroy
ending_bare _ = None

abbrev pub ending_by : Ending → Option SoleCall → Option Asked
ending_by ending None = ending_bare ending
ending_by ending (Some call) = Some (Compound (sole_compound call))

abbrev pub ending_call : Ending → Setup → Option Asked
ending_call ending setup = ending_by ending (ending_sole ending setup)

abbrev pub ended_in : Mic → SendAt → Ending → Standing → Mounted → Option Sent × Mounted
ended_in mic at ending (Down kept) m = (None, m)
ended_in mic at ending (Rooted root) m = sent_by mic at (Some root.name) aims.End (ending_call ending root.setup) m

-- ---- what awaits its answer goes out again: the same, by another xid, and sealed anew under its context

abbrev pub under_anew : Option SealedCall → Option Sent
under_anew None = None
under_anew (Some call) = Some (record { bytes = call.bytes; seal = Some call.seal })

abbrev pub pending_under : ℕ → Aim → Asking → Option SealedCall → Pending
pending_under context aim call None = pendings.Under context aim call
pending_under context aim call (Some sealed) = pendings.Under context aim (asking call.asked sealed)

-- what goes out, the contexts and what awaits its answer
abbrev pub out_anew : Mic → ℕ → List Context → Pending → Option Sent
out_anew mic xid contexts (pendings.Init init) = Some (record { bytes = init_message xid init.token; seal = None })
out_anew mic xid contexts (pendings.Under context aim call) = under_anew (sealed_by mic context xid call.asked contexts).0

abbrev pub contexts_anew : Mic → ℕ → List Context → Pending → List Context
contexts_anew mic xid contexts (pendings.Init init) = contexts
contexts_anew mic xid contexts (pendings.Under context aim call) = (sealed_by mic context xid call.asked contexts).1

abbrev pub pending_anew : Mic → ℕ → List Context → Pending → Pending
pending_anew mic xid contexts (pendings.Init init) = pendings.Init (record init { xid = xid })
pending_anew mic xid contexts (pendings.Under context aim call) = pending_under context aim call (sealed_by mic context xid call.asked contexts).0

abbrev pub awaits_anew : SendAt → Option Sent → List Context → Pending → Mounted → Option Sent × Mounted
awaits_anew at None contexts pending m = (None, m)
awaits_anew at (Some sent) contexts pending m =
    (Some sent, awaiting_at at.place (record { sent_at = at.now; pending = pending }) (record m { calls = at.xid; contexts = contexts }))

abbrev pub sent_anew : Mic → SendAt → Option Awaiting → Mounted → Option Sent × Mounted
sent_anew mic at None m = (None, m)
sent_anew mic at (Some a) m =
    awaits_anew at (out_anew mic at.xid m.contexts a.pending) (contexts_anew mic at.xid m.contexts a.pending) (pending_anew mic at.xid m.contexts a.pending) m

abbrev pub sent_again : Mic → SendAt → Mounted → Option Sent × Mounted
sent_again mic at m = sent_anew mic at (awaited_at m at.place) m
