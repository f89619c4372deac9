-- What an initiator takes for the reply to its call.
use Rattle.std.specs.Prelude.{ℕ, ◌==◌, if◌then◌else◌, List, drop, length, Option, Some, None, Result, Ok, Err}
use Rattle.wire_xdr.specs.Words.{word_bytes}
use Rattle.rpc_msg.specs.Heads.{reply}
use Rattle.rpc_msg.specs.Messages.{head_told}
use Rattle.rpc_msg.specs.declared.auth.Auth.{Auth}
use Rattle.rpc_msg.specs.declared.messages.RpcFault.{RpcFault}
use Rattle.rpc_msg.specs.declared.reply.Stat.{Stat}
use Rattle.rpc_msg.specs.declared.reply.Stat.TheVariants.{Success}
use Rattle.rpc_msg.specs.declared.reply.ReplyHead.{ReplyHead}
use Rattle.rpc_msg.specs.declared.reply.ReplyHead.TheVariants as heads
use Rattle.wire_xdr.specs.All.{value_of}
use Rattle.gss_ctx.specs.declared.begin.Begun.{Begun}
use Rattle.gss_ctx.specs.declared.begin.Begun.TheVariants as begun
use Rattle.gss_ctx.specs.declared.begin.InitResult.{InitResult}
use Rattle.gss_ctx.specs.declared.caller.Awaited.{Awaited}
use Rattle.gss_ctx.specs.declared.caller.Checked.{Checked}
use Rattle.gss_ctx.specs.declared.caller.Checked.TheVariants as checked
use Rattle.gss_ctx.specs.Forms.{init_result}
use Rattle.gss_ctx.specs.Seals.{Mic, is_code, unsealed}
use Rattle.gss_mech.specs.declared.mechanism.TheConstants.{ACCEPTOR}

-- ---- the reply to a sealed call

abbrev pub result_of : Option (List ℕ) → Checked
result_of None = checked.Unmatched
result_of (Some result) = checked.Result result

-- a result has the awaited code as verifier, and a body sealed by the acceptor with the call's number
abbrev pub of_stat : Mic → List ℕ → Awaited → List ℕ → Auth → Stat → Checked
of_stat mic key awaited body verf Success =
    if is_code verf awaited.code then result_of (unsealed (mic key ACCEPTOR) awaited.seq body) else checked.Unmatched
of_stat mic key awaited body verf stat = checked.Failed stat

abbrev pub of_head : Mic → List ℕ → Awaited → List ℕ → ReplyHead → Checked
of_head mic key awaited body (heads.Accepted xid verf stat) =
    if xid == awaited.xid then of_stat mic key awaited body verf stat else checked.Unmatched
of_head mic key awaited body (heads.Denied xid why) = if xid == awaited.xid then checked.Denied why else checked.Unmatched

abbrev pub of_read : Mic → List ℕ → Awaited → List ℕ → Result (ReplyHead × ℕ) RpcFault → Checked
of_read mic key awaited message (Ok head) = of_head mic key awaited (drop head.1 message) head.0
of_read mic key awaited message (Err fault) = checked.Unmatched

unfoldable pub checked_of : Mic → List ℕ → Awaited → List ℕ → Checked
checked_of mic key awaited message = of_read mic key awaited message (head_told reply 0 message)

-- ---- the reply to INIT

-- the key, where the verifier is the acceptor's code of the window under it
abbrev pub begun_under : Mic → Auth → InitResult → Option (List ℕ) → Begun
begun_under mic verf made None = begun.Unmatched
begun_under mic verf made (Some key) =
    if is_code verf (mic key ACCEPTOR (word_bytes made.window)) then begun.Made made.handle key else begun.Unmatched

-- a result whose major status is 0 has a handle of 8 bytes
abbrev pub begun_with : Mic → (List ℕ → Option (List ℕ)) → Auth → Option InitResult → Begun
begun_with mic finish verf None = begun.Unmatched
begun_with mic finish verf (Some made) =
    if made.major == 0
    then (if length made.handle == 8 then begun_under mic verf made (finish made.token) else begun.Unmatched)
    else begun.Refused made.major

abbrev pub begun_stat : Mic → (List ℕ → Option (List ℕ)) → List ℕ → Auth → Stat → Begun
begun_stat mic finish body verf Success = begun_with mic finish verf (value_of init_result body)
begun_stat mic finish body verf stat = begun.Failed stat

abbrev pub begun_head : Mic → (List ℕ → Option (List ℕ)) → ℕ → List ℕ → ReplyHead → Begun
begun_head mic finish awaited body (heads.Accepted xid verf stat) = if xid == awaited then begun_stat mic finish body verf stat else begun.Unmatched
begun_head mic finish awaited body (heads.Denied xid why) = if xid == awaited then begun.Denied why else begun.Unmatched

abbrev pub begun_read : Mic → (List ℕ → Option (List ℕ)) → ℕ → List ℕ → Result (ReplyHead × ℕ) RpcFault → Begun
begun_read mic finish awaited message (Ok head) = begun_head mic finish awaited (drop head.1 message) head.0
begun_read mic finish awaited message (Err fault) = begun.Unmatched

unfoldable pub begun_of : Mic → (List ℕ → Option (List ℕ)) → ℕ → List ℕ → Begun
begun_of mic finish awaited message = begun_read mic finish awaited message (head_told reply 0 message)
