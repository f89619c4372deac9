-- How long a server's replies are.
use Rattle.std.proofs.Common.{◌≡◌, ℕ, ◌+◌, ◌≤◌, List, [], ◌∷◌, ◌++◌, length, Option, Some, None, sym, ap, subst, ◌∙◌, length-append, arith}
use Rattle.std.proofs.lemmas.List.Elements.{All-cons, All-nil}
use Rattle.gss_ctx.specs.Forms.{create_result}
use Rattle.gss_ctx.specs.Seals.{Mic, code_auth, reply_code, reply_front, sealed_body, sealed_reply}
use Rattle.gss_ctx.specs.Table.{ContextTable, context_of, handle_of}
use Rattle.gss_ctx.specs.declared.context.Context.{Context}
use Rattle.gss_mech.specs.Tokens.{IsSized}
use Rattle.gss_mech.specs.declared.mechanism.TheConstants.{ACCEPTOR}
use Rattle.nfs_base.specs.declared.seal.Seal.{Seal}
use Rattle.outbox.specs.Outboxes.{one_reply}
use Rattle.outbox.specs.declared.outgoing.Outbox.{Outbox}
use Rattle.outbox.specs.declared.outgoing.Outgoing.{Outgoing}
use Rattle.rpc_calls.specs.Answers.{denial_reply, failure_by, failure_reply, failure_with, plain_front, result_by, result_reply, result_with}
use Rattle.rpc_calls.specs.Making.{create_told}
use Rattle.rpc_calls.specs.declared.call.Call.{Call}
use Rattle.rpc_calls.specs.declared.call.Under.{Under}
use Rattle.rpc_msg.specs.Heads.{auth, denial, reply, stat}
use Rattle.rpc_msg.specs.declared.auth.Auth.{Auth}
use Rattle.rpc_msg.specs.declared.call.CallHead.{CallHead}
use Rattle.rpc_msg.specs.declared.reply.Denial.{Denial}
use Rattle.rpc_msg.specs.declared.reply.Denial.TheVariants as denials
use Rattle.rpc_msg.specs.declared.reply.ReplyHead.TheVariants.{Accepted, Denied}
use Rattle.rpc_msg.specs.declared.reply.Stat.{Stat}
use Rattle.rpc_msg.specs.declared.reply.Stat.TheVariants.{Success, ProgUnavail, ProgMismatch, ProcUnavail, Garbage, SystemErr}
use Rattle.wire_xdr.specs.LengthLaws.{opaque_length, padding_below, word_length}
use Rattle.wire_xdr.specs.Words.{opaque_bytes, word_bytes}
use Rattle.session_server.specs.Lengths.{AreShort, IsShort}

-- ---- heads

stat_length : (what : Stat) → length (stat.spell what) ≤ 12
unfolding stat
stat_length Success = simp length-append (omega (arith, word_length))
stat_length ProgUnavail = simp length-append (omega (arith, word_length))
stat_length (ProgMismatch low high) = simp length-append (omega (arith, word_length))
stat_length ProcUnavail = simp length-append (omega (arith, word_length))
stat_length Garbage = simp length-append (omega (arith, word_length))
stat_length SystemErr = simp length-append (omega (arith, word_length))

accepted_length : (xid : ℕ) (verf : Auth) (what : Stat) → length (reply.spell (Accepted xid verf what)) ≤ 35 + length verf.body
unfolding reply auth
accepted_length xid verf what =
    simp length-append (omega (arith, word_length, opaque_length verf.body, padding_below (length verf.body), stat_length what))

denied_length : (xid : ℕ) (why : Denial) → length (reply.spell (Denied xid why)) ≤ 24
unfolding reply denial
denied_length xid (denials.Mismatch low high) = simp length-append (omega (arith, word_length))
denied_length xid (denials.Auth why) = simp length-append (omega (arith, word_length))

code_length : (mic : Mic) (key : List ℕ) (head : CallHead) (seq : ℕ) → IsSized mic → length (reply_code mic key head seq) ≡ 32
unfolding reply_code
code_length mic key head seq sized = sized key ACCEPTOR _

front_length : (mic : Mic) (key : List ℕ) (head : CallHead) (seq : ℕ) (what : Stat) → IsSized mic → length (reply_front mic key head seq what) ≤ 67
unfolding reply_front
front_length mic key head seq what sized =
    omega (arith, accepted_length head.xid (code_auth (reply_code mic key head seq)) what, code_length mic key head seq sized)

-- ---- results

sealed_length : (mic : Mic) (key : List ℕ) (head : CallHead) (seq : ℕ) (body : List ℕ) → IsSized mic → length (sealed_reply mic key head seq body) ≤ length body + 120
unfolding sealed_reply
sealed_length mic key head seq body sized =
    let payload = word_bytes seq ++ body in
    let code = mic key ACCEPTOR payload in
    omega (
      arith,
      front_length mic key head seq Success sized,
      length-append (reply_front mic key head seq Success) (opaque_bytes payload ++ opaque_bytes code),
      length-append (opaque_bytes payload) (opaque_bytes code),
      opaque_length payload,
      padding_below (length payload),
      opaque_length code,
      padding_below (length code),
      sized key ACCEPTOR payload,
      length-append (word_bytes seq) body,
      word_length seq,
    )

plain_length : (xid : ℕ) (what : Stat) → length (plain_front xid what) ≤ 35
plain_length xid what = omega (arith, accepted_length xid (record { flavor = 0; body = [] }) what)

handle_length : (boot number : ℕ) → length (handle_of boot number) ≡ 8
handle_length boot number = omega (arith, length-append (word_bytes boot) (word_bytes number), word_length boot, word_length number)

created_length : (boot : ℕ) (made : Option ℕ) → length (create_result.spell (create_told boot made)) ≤ 24
unfolding create_result
created_length boot None = simp length-append (omega (arith, word_length, opaque_length [], padding_below 0))
created_length boot (Some number) =
    let handle = handle_of boot number in
    let long = handle_length boot number in
    simp length-append (omega (arith, word_length, opaque_length handle, long, padding_below (length handle)))

module _ {P : Type 0} (mic : Mic) (sized : IsSized mic) (table : ContextTable P) (call : Call) where
  short_with : (seq : ℕ) (body : List ℕ) (context : Option (Context P)) → length body ≤ 73100 → IsShort (result_with mic call.head seq body context)
  short_with seq body None small = omega (arith, length-append (plain_front call.head.xid Success) body, plain_length call.head.xid Success)
  short_with seq body (Some context) small = omega (arith, sealed_length mic context.key call.head seq body sized)

  short_by : (body : List ℕ) (under : Option Under) → length body ≤ 73100 → IsShort (result_by mic table call.head body under)
  short_by body None small = omega (arith, length-append (plain_front call.head.xid Success) body, plain_length call.head.xid Success)
  short_by body (Some under) small = short_with under.seq body (context_of under.number table.entries) small

  pub result_short : (body : List ℕ) → length body ≤ 73100 → IsShort (result_reply mic table call body)
  result_short body small = short_by body call.under small

  failure_with_short : (seq : ℕ) (what : Stat) (context : Option (Context P)) → IsShort (failure_with mic call.head seq what context)
  failure_with_short seq what None = omega (arith, plain_length call.head.xid what)
  failure_with_short seq what (Some context) = omega (arith, front_length mic context.key call.head seq what sized)

  failure_by_short : (what : Stat) (under : Option Under) → IsShort (failure_by mic table call.head what under)
  failure_by_short what None = omega (arith, plain_length call.head.xid what)
  failure_by_short what (Some under) = failure_with_short under.seq what (context_of under.number table.entries)

  pub failure_short : (what : Stat) → IsShort (failure_reply mic table call what)
  failure_short what = failure_by_short what call.under

  pub create_short : (boot : ℕ) (made : Option ℕ) → IsShort (result_reply mic table call (create_result.spell (create_told boot made)))
  create_short boot made = result_short (create_result.spell (create_told boot made)) (omega (arith, created_length boot made))

pub denial_short : (xid : ℕ) (why : Denial) → IsShort (denial_reply xid why)
denial_short xid why = omega (arith, denied_length xid why)

-- ---- outboxes

-- one that sends this record alone
pub sends_short : (accepted : Option Seal) (reply told : Outgoing) (out : Outbox) → out ≡ one_reply accepted reply → reply ≡ told → IsShort told.bytes
    → AreShort out.sent
sends_short accepted reply told out is same short =
    let sent : out.sent ≡ told ∷ [] = ap (λ (o : Outbox). o.sent) is ∙ ap (λ (o : Outgoing). o ∷ []) same in
    subst AreShort (sym sent) (All-cons (λ (o : Outgoing). IsShort o.bytes) told [] short (All-nil (λ (o : Outgoing). IsShort o.bytes)))

pub none_short : AreShort []
none_short = All-nil (λ (o : Outgoing). IsShort o.bytes)
