-- How calls that aren't a COMPOUND are answered, and what that leaves of the contexts (RFC 5531 section 9, RFC 2203
-- section 5.3.3).
use Rattle.std.specs.Prelude.{ℕ, List, ◌++◌, Option, Some, None}
use Rattle.nfs_base.specs.declared.seal.Seal.{Seal}
use Rattle.rpc_msg.specs.Heads.{reply}
use Rattle.rpc_msg.specs.declared.call.CallHead.{CallHead}
use Rattle.rpc_msg.specs.declared.reply.Denial.{Denial}
use Rattle.rpc_msg.specs.declared.reply.ReplyHead.TheVariants.{Accepted, Denied}
use Rattle.rpc_msg.specs.declared.reply.Stat.{Stat}
use Rattle.rpc_msg.specs.declared.reply.Stat.TheVariants.{Success}
use Rattle.gss_ctx.specs.Admission.{after_verdict}
use Rattle.gss_ctx.specs.Calls.{none_auth}
use Rattle.gss_ctx.specs.Seals.{Mic, reply_front, sealed_reply}
use Rattle.gss_ctx.specs.Table.{ContextTable, context_of, destroyed}
use Rattle.gss_ctx.specs.declared.admit.Admit.{Admit}
use Rattle.gss_ctx.specs.declared.admit.Admit.TheVariants.{Admitted}
use Rattle.gss_ctx.specs.declared.admit.Verdict.{Verdict}
use Rattle.gss_ctx.specs.declared.context.Context.{Context}
use Rattle.rpc_calls.specs.declared.call.Call.{Call}
use Rattle.rpc_calls.specs.declared.call.Under.{Under}

-- ---- what a call leaves, whatever it is answered

abbrev pub counted_by : {P : Type 0} → ℕ → Option Verdict → ContextTable P → ContextTable P
counted_by now None table = table
counted_by now (Some verdict) table = after_verdict now verdict table

abbrev pub counted : {P : Type 0} → ℕ → Call → ContextTable P → ContextTable P
counted now call table = counted_by now call.verdict table

-- DESTROY ends the calling context and its children too (RFC 2203 section 5.4, RFC 7861 section 2.7.1.4)
abbrev pub ended_by : {P : Type 0} → Option Under → ContextTable P → ContextTable P
ended_by None table = table
ended_by (Some under) table = destroyed under.number table

abbrev pub ended : {P : Type 0} → ℕ → Call → ContextTable P → ContextTable P
ended now call table = ended_by call.under (counted now call table)

-- ---- replies

abbrev pub denial_reply : ℕ → Denial → List ℕ
denial_reply xid why = reply.spell (Denied xid why)

-- a reply up to its result, with an empty verifier of flavor 0
abbrev pub plain_front : ℕ → Stat → List ℕ
plain_front xid stat = reply.spell (Accepted xid none_auth stat)

-- a call that failed: its verifier has the code where it is answered under a context
abbrev pub failure_with : {P : Type 0} → Mic → CallHead → ℕ → Stat → Option (Context P) → List ℕ
failure_with mic head seq failure None = plain_front head.xid failure
failure_with mic head seq failure (Some context) = reply_front mic context.key head seq failure

abbrev pub failure_by : {P : Type 0} → Mic → ContextTable P → CallHead → Stat → Option Under → List ℕ
failure_by mic table head failure None = plain_front head.xid failure
failure_by mic table head failure (Some under) = failure_with mic head under.seq failure (context_of under.number table.entries)

abbrev pub failure_reply : {P : Type 0} → Mic → ContextTable P → Call → Stat → List ℕ
failure_reply mic table call failure = failure_by mic table call.head failure call.under

-- a call that was carried out: its result is sealed where it is answered under a context
abbrev pub result_with : {P : Type 0} → Mic → CallHead → ℕ → List ℕ → Option (Context P) → List ℕ
result_with mic head seq result None = plain_front head.xid Success ++ result
result_with mic head seq result (Some context) = sealed_reply mic context.key head seq result

abbrev pub result_by : {P : Type 0} → Mic → ContextTable P → CallHead → List ℕ → Option Under → List ℕ
result_by mic table head result None = plain_front head.xid Success ++ result
result_by mic table head result (Some under) = result_with mic head under.seq result (context_of under.number table.entries)

abbrev pub result_reply : {P : Type 0} → Mic → ContextTable P → Call → List ℕ → List ℕ
result_reply mic table call result = result_by mic table call.head result call.under

-- ---- the seal under which a call is accepted: that of its admission (own)

abbrev pub seal_in : {P : Type 0} → ContextTable P → ℕ → ℕ → Seal
seal_in table number seq = record { owner = table.owner; boot = table.boot; number = number; seq = seq }

abbrev pub admitted_seal : {P : Type 0} → ContextTable P → Admit → Option Seal
admitted_seal table (Admitted number seq args) = Some (seal_in table number seq)
admitted_seal table _ = None

abbrev pub seal_by : {P : Type 0} → ContextTable P → Option Verdict → Option Seal
seal_by table None = None
seal_by table (Some verdict) = admitted_seal table verdict.answer

abbrev pub accepted_seal : {P : Type 0} → ContextTable P → Call → Option Seal
accepted_seal table call = seal_by table call.verdict
