-- What the two ends of a context may expect of each other: a call that one seals is admitted by the other, and
-- a reply that this one seals is a result for the first (RFC 2203 section 5.3).
use Rattle.std.specs.Prelude.{◌≡◌, ℕ, ◌<◌, ◌^◌, true, false, List, drop, length, Some, Result, Ok, Err}
use Rattle.rpc_msg.specs.Heads.{call}
use Rattle.rpc_msg.specs.Messages.{head_told}
use Rattle.rpc_msg.specs.declared.call.CallHead.{CallHead}
use Rattle.rpc_msg.specs.declared.gss_cred.GssCred.{GssCred}
use Rattle.rpc_msg.specs.declared.messages.RpcFault.{RpcFault}
use Rattle.gss_ctx.specs.declared.context.Entry.{Entry}
use Rattle.gss_ctx.specs.declared.admit.Admit.TheVariants.{Admitted}
use Rattle.gss_ctx.specs.declared.admit.Verdict.{Verdict}
use Rattle.gss_ctx.specs.Admission.{is_served, may_create, verdict_of}
use Rattle.gss_ctx.specs.Calls.{Side, call_cred, with_cred, verified}
use Rattle.gss_ctx.specs.Once.{is_shut}
use Rattle.gss_ctx.specs.Seals.{Mic}
use Rattle.gss_ctx.specs.Table.{ContextTable, live_entry}

-- The contexts hold the context of this side, with its key. The next number of the side is open there, and what
-- it asks for is served.
pub record IsOpenTo {P : Type 0} (now : ℕ) (table : ContextTable P) (side : Side) (asked : GssCred) (entry : Entry P) : Type 0 where
  pub handle : length side.handle ≡ 8
  pub found : live_entry table.boot now side.handle table.entries ≡ Some entry
  pub key : entry.context.key ≡ side.key
  pub left : side.next < 2 ^ 31
  pub unseen : is_shut side.next entry.window ≡ false
  pub served : is_served (call_cred side.handle side.next asked) ≡ true
  pub creates : may_create (call_cred side.handle side.next asked) entry ≡ true

-- the head under which a side seals a call, before and with its verifier
abbrev pub next_head : Side → CallHead → GssCred → CallHead
next_head side head asked = with_cred head (call_cred side.handle side.next asked)

abbrev pub sent_head : Mic → Side → CallHead → GssCred → CallHead
sent_head mic side head asked = verified mic side.key (next_head side head asked)

-- what is answered to a record, where a call stands in it
abbrev pub verdict_read : {P : Type 0} → Mic → ℕ → List ℕ → ContextTable P → Result (CallHead × ℕ) RpcFault → Result Verdict RpcFault
verdict_read mic now message table (Ok read) = Ok (verdict_of mic now read.0 (drop read.1 message) table)
verdict_read mic now message table (Err fault) = Err fault

abbrev pub verdict_on : {P : Type 0} → Mic → ℕ → List ℕ → ContextTable P → Result Verdict RpcFault
verdict_on mic now message table = verdict_read mic now message table (head_told call 1 message)

-- the call is carried out with these arguments, and its number is seen
abbrev pub admission : ℕ → ℕ → List ℕ → Verdict
admission number seq args = record { answer = Admitted number seq args; seen = Some (number, seq) }
