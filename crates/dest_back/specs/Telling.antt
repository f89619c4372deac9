-- How a client is told that its copy has ended (RFC 7862 section 16.1): the call, and what then awaits its answer. Where none
-- goes out, nothing changes.
use Rattle.std.specs.Prelude.{ℕ, ◌-◌, ◌^◌, ◌≤◌, nat_lt, List, length, slice_index, if◌then◌else◌, Option, Some, None, IfSome}
use Rattle.gss_ctx.specs.Calls.{Side, call_cred, seal_of, sealed_of, with_cred}
use Rattle.gss_ctx.specs.Init.{asked_cred, asked_head}
use Rattle.gss_ctx.specs.Seals.{Mic}
use Rattle.gss_ctx.specs.declared.caller.Sealed.{Sealed}
use Rattle.nfs_base.specs.declared.programs.TheConstants.{CALLBACK_VERSION, PROC_COMPOUND}
use Rattle.nfs_compound.specs.Compounds.{cb_compound_bytes}
use Rattle.rpc_msg.specs.declared.call.CallHead.{CallHead}
use Rattle.rpc_msg.specs.declared.numbers.TheConstants.{RPCSEC_GSS_DATA}
use Rattle.rpc_msg.specs.declared.records.TheConstants.{RECORD_LIMIT}
use Rattle.sess_slots.specs.Begins.{back_at}
use Rattle.sess_slots.specs.Table.{SessionTable, session_id}
use Rattle.sess_slots.specs.declared.answers.Back.{Back}
use Rattle.session_calls.specs.declared.slot_call.SlotUse.{SlotUse}
use Rattle.session_client.specs.Sealing.{after_call}
use Rattle.session_client.specs.Slots.{after_new}
use Rattle.dest_back.specs.Callbacks.{CallbackTable, line_for, post_at, with_line, with_post}
use Rattle.dest_back.specs.Compounds.{offload_compound}
use Rattle.dest_back.specs.declared.callbacks.Awaiting.{Awaiting}
use Rattle.dest_back.specs.declared.callbacks.Post.{Post}
use Rattle.dest_back.specs.declared.compound.Ended.{Ended}
use Rattle.dest_back.specs.declared.line.Line.{Line}
use Rattle.dest_back.specs.declared.telling.CallAt.{CallAt}
use Rattle.dest_back.specs.declared.telling.Sent.{Sent}

-- what goes out is no longer than a record may be (RFC 5531 section 11)
abbrev pub FitsRecord : Option Sent → Type 0
FitsRecord told = IfSome told (λ sent. length sent.bytes ≤ RECORD_LIMIT)

-- ---- the call, to the client's program

abbrev pub callback_head : (xid program : ℕ) → CallHead
callback_head xid program = record (asked_head xid PROC_COMPOUND RPCSEC_GSS_DATA) { prog = program; vers = CALLBACK_VERSION }

abbrev pub sealed_callback : Mic → Side → (xid program : ℕ) → SlotUse → Ended → Sealed
sealed_callback mic side xid program slot told =
    sealed_of mic side (with_cred (callback_head xid program) (call_cred side.handle side.next (asked_cred RPCSEC_GSS_DATA)))
    (cb_compound_bytes (offload_compound slot told))

-- with the next number of its context, unless the numbers have run out, which is at 2^31
abbrev pub sealed_with : Mic → Side → (xid program : ℕ) → SlotUse → Ended → Option Sealed × Side
sealed_with mic side xid program slot told =
    if nat_lt side.next 2147483648 then (Some (sealed_callback mic side xid program slot told), after_call side) else (None, side)

-- ---- it goes out on a line with a number of its slot, and awaits its answer

abbrev pub slot_use : CallAt → Line → (number : ℕ) → SlotUse
slot_use at line number = record { session = session_id at.boot line.session; slot = at.seat; number = number }

abbrev pub awaiting_of : CallAt → Line → (number : ℕ) → Ended → Sealed → Awaiting
awaiting_of at line number told sealed = record {
  sent_at = at.now;
  told = told;
  number = number;
  key = line.key;
  seal = seal_of line.caller sealed.awaited.seq;
  awaited = sealed.awaited;
}

abbrev pub sent_on : SessionTable → CallAt → Post → Back → Line → (number : ℕ) → Ended → Option Sealed × Side → CallbackTable → Option Sent × CallbackTable
sent_on sessions at post back line number told (None, side) c = (None, c)
sent_on sessions at post back line number told (Some sealed, side) c = (
  Some (record { conn = back.conn; bytes = sealed.bytes; seal = seal_of line.caller sealed.awaited.seq }),
  with_post at.seat (record post { awaiting = Some (awaiting_of at line number told sealed) })
      (record c { calls = at.xid; lines = with_line sessions (record line { caller = side }) c.lines }),
)

abbrev pub called_on : Mic → SessionTable → CallAt → Post → Back → Line → (number : ℕ) → Ended → CallbackTable → Option Sent × CallbackTable
called_on mic sessions at post back line number told c =
    sent_on sessions at post back line number told (sealed_with mic line.caller at.xid back.program (slot_use at line number) told) c

-- ---- a new call: the next number of the slot isn't given again

abbrev pub new_on : Mic → SessionTable → CallAt → Post → Back → Ended → Line → CallbackTable → Option Sent × CallbackTable
new_on mic sessions at post back told line c =
    if nat_lt (slice_index line.numbers at.seat) (2 ^ 32 - 1)
    then called_on mic sessions at post back (record line { numbers = after_new line.numbers at.seat }) (slice_index line.numbers at.seat) told c
    else (None, c)

abbrev pub told_to : Mic → (derived : List ℕ → ℕ → List ℕ → List ℕ) → SessionTable → CallAt → Ended → Post → Option Back → CallbackTable → Option Sent × CallbackTable
told_to mic derived sessions at told post None c = (None, c)
told_to mic derived sessions at told post (Some back) c =
    new_on mic sessions at post back told (line_for derived post.party back c.lines) c

abbrev pub told_at : Mic → (derived : List ℕ → ℕ → List ℕ → List ℕ) → SessionTable → CallAt → Ended → Option Post → CallbackTable → Option Sent × CallbackTable
told_at mic derived sessions at told None c = (None, c)
told_at mic derived sessions at told (Some post) c = told_to mic derived sessions at told post (back_at sessions post.party.session) c

-- on the back channel of its party's session, where that is there
abbrev pub told : Mic → (derived : List ℕ → ℕ → List ℕ → List ℕ) → SessionTable → CallAt → Ended → CallbackTable → Option Sent × CallbackTable
told mic derived sessions at ended c = told_at mic derived sessions at ended (post_at c at.seat) c

-- ---- the same once more: it keeps its number

abbrev pub again_to : Mic → (derived : List ℕ → ℕ → List ℕ → List ℕ) → SessionTable → CallAt → Post → Awaiting → Option Back → CallbackTable → Option Sent × CallbackTable
again_to mic derived sessions at post awaiting None c = (None, c)
again_to mic derived sessions at post awaiting (Some back) c =
    called_on mic sessions at post back (line_for derived post.party back c.lines) awaiting.number awaiting.told c

abbrev pub again_for : Mic → (derived : List ℕ → ℕ → List ℕ → List ℕ) → SessionTable → CallAt → Post → Option Awaiting → CallbackTable → Option Sent × CallbackTable
again_for mic derived sessions at post None c = (None, c)
again_for mic derived sessions at post (Some awaiting) c =
    again_to mic derived sessions at post awaiting (back_at sessions post.party.session) c

abbrev pub again_at : Mic → (derived : List ℕ → ℕ → List ℕ → List ℕ) → SessionTable → CallAt → Option Post → CallbackTable → Option Sent × CallbackTable
again_at mic derived sessions at None c = (None, c)
again_at mic derived sessions at (Some post) c = again_for mic derived sessions at post post.awaiting c

abbrev pub told_again : Mic → (derived : List ℕ → ℕ → List ℕ → List ℕ) → SessionTable → CallAt → CallbackTable → Option Sent × CallbackTable
told_again mic derived sessions at c = again_at mic derived sessions at (post_at c at.seat) c
