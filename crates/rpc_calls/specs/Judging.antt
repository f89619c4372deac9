-- What a record is to an end that serves a program, and what becomes of a call. Tests come in the order in which they
-- stand here; the first that fails is the answer.
use Rattle.std.specs.Prelude.{◌≡◌, ◌≢◌, ℕ, ◌==◌, ◌||◌, ◌&&◌, Bool, nat_lt, if◌then◌else◌, List, [], ◌∷◌, drop, length, Option, Some, None, IfSome, IsSome, Result, Ok, Err}
use Rattle.wire_xdr.specs.All.{value_of}
use Rattle.nfs_base.specs.declared.programs.TheConstants.{PROC_COMPOUND, PROC_NULL}
use Rattle.rpc_msg.specs.Heads as heads
use Rattle.rpc_msg.specs.Messages.{head_told}
use Rattle.rpc_msg.specs.declared.call.CallHead.{CallHead}
use Rattle.rpc_msg.specs.declared.gss_cred.GssCred.{GssCred}
use Rattle.rpc_msg.specs.declared.messages.RpcFault.{RpcFault}
use Rattle.rpc_msg.specs.declared.messages.RpcFault.TheVariants.{BadXdr, OtherKind}
use Rattle.rpc_msg.specs.declared.numbers.TheConstants.{AUTH_BADCRED, AUTH_NONE, AUTH_SYS, AUTH_TOOWEAK, CALL, REPLY, RPC_VERSION, RPCSEC_GSS, RPCSEC_GSS_DATA, RPCSEC_GSS_DESTROY, RPCSEC_GSS_INIT}
use Rattle.rpc_msg.specs.declared.reply.Denial.TheVariants.{Mismatch, Auth}
use Rattle.rpc_msg.specs.declared.reply.ReplyHead.{ReplyHead}
use Rattle.rpc_msg.specs.declared.reply.Stat.{Stat}
use Rattle.rpc_msg.specs.declared.reply.Stat.TheVariants.{Success, ProgUnavail, ProgMismatch, ProcUnavail, Garbage}
use Rattle.gss_ctx.specs.Forms.{init_token, create}
use Rattle.gss_ctx.specs.Ends.{admission}
use Rattle.gss_ctx.specs.Seals.{Mic, cred_of}
use Rattle.gss_ctx.specs.Table.{ContextTable, context_of}
use Rattle.gss_ctx.specs.Admission.{IsNamed, parent_of, verdict_of}
use Rattle.gss_ctx.specs.declared.admit.Admit.{Admit}
use Rattle.gss_ctx.specs.declared.admit.Admit.TheVariants as admits
use Rattle.gss_ctx.specs.declared.admit.Verdict.{Verdict}
use Rattle.gss_ctx.specs.declared.create.Create.{Create}
use Rattle.gss_ctx.specs.declared.numbers.TheConstants.{RPCSEC_GSS_CREATE, RPCSEC_GSS_VERSION_1, RPCSEC_GSS_VERSION_3}
use Rattle.rpc_calls.specs.declared.call.Call.{Call}
use Rattle.rpc_calls.specs.declared.call.Judged.{Judged}
use Rattle.rpc_calls.specs.declared.call.Judged.TheVariants as judged
use Rattle.rpc_calls.specs.declared.call.Program.{Program}
use Rattle.rpc_calls.specs.declared.call.Under.{Under}
use Rattle.rpc_calls.specs.declared.call.What.{What}
use Rattle.rpc_calls.specs.declared.call.What.TheVariants as whats

-- ---- the program, its version, the procedure (RFC 5531 section 9)

abbrev pub program_fault : Program → CallHead → Option Stat
program_fault program head =
    if head.prog == program.number
    then (if head.vers == program.version then None else Some (ProgMismatch program.version program.version))
    else Some ProgUnavail

abbrev pub or_fault : Option Stat → Option Stat → Option Stat
or_fault (Some fault) other = Some fault
or_fault None other = other

abbrev pub procedure_fault : CallHead → Option Stat
procedure_fault head = if nat_lt PROC_COMPOUND head.proc then Some ProcUnavail else None

abbrev pub call_fault : Program → CallHead → Option Stat
call_fault program head = or_fault (program_fault program head) (procedure_fault head)

abbrev pub unless_fault : Option Stat → What → What
unless_fault None what = what
unless_fault (Some fault) what = whats.Failed fault

-- ---- arguments: none at all, or those of INIT (RFC 2203 section 5.2.2) and CREATE (RFC 7861 section 2.7)

abbrev pub with_none : List ℕ → What → What
with_none [] what = what
with_none (byte ∷ bytes) what = whats.Failed Garbage

abbrev pub init_with : Option (List ℕ) → What
init_with None = whats.Failed Garbage
init_with (Some token) = whats.Init token

abbrev pub create_with : Option Create → What
create_with None = whats.Failed Garbage
create_with (Some asked) = whats.Create asked.name asked.privilege

-- ---- a call that a context admitted (RFC 2203 section 5.3.3, RFC 7861 section 2): DATA goes with NULL and COMPOUND,
-- CREATE and DESTROY go with NULL

abbrev pub data_call : ℕ → List ℕ → What
data_call proc args = if proc == PROC_NULL then with_none args whats.Null else whats.Compound args

abbrev pub context_call : ℕ → List ℕ → What
context_call gss_proc args =
    if gss_proc == RPCSEC_GSS_CREATE then create_with (value_of create args)
    else (if gss_proc == RPCSEC_GSS_DESTROY then with_none args whats.Destroy else whats.Failed ProcUnavail)

abbrev pub paired : ℕ → ℕ → List ℕ → What
paired gss_proc proc args =
    if gss_proc == RPCSEC_GSS_DATA then data_call proc args
    else (if proc == PROC_NULL then context_call gss_proc args else whats.Failed ProcUnavail)

abbrev pub admitted : Program → CallHead → ℕ → List ℕ → What
admitted program head gss_proc args = unless_fault (call_fault program head) (paired gss_proc head.proc args)

-- by what its context says of it
abbrev pub by_answer : Program → CallHead → ℕ → Admit → What
by_answer program head gss_proc (admits.Admitted number seq args) = admitted program head gss_proc args
by_answer program head gss_proc (admits.Dropped why) = whats.Dropped why
by_answer program head gss_proc (admits.Denied why) = whats.Denied (Auth why)
by_answer program head gss_proc (admits.BadBody number seq) = whats.Failed Garbage

-- under what it is answered
abbrev pub under_of : Admit → Option Under
under_of (admits.Admitted number seq args) = Some (record { number = number; seq = seq })
under_of (admits.BadBody number seq) = Some (record { number = number; seq = seq })
under_of _ = None

-- the verdict without the arguments, by which the call is counted
abbrev pub without_args : Admit → Admit
without_args (admits.Admitted number seq args) = admits.Admitted number seq []
without_args answer = answer

abbrev pub verdict_kept : Verdict → Verdict
verdict_kept verdict = record verdict { answer = without_args verdict.answer }

abbrev pub by_verdict : Program → CallHead → ℕ → Verdict → Call
by_verdict program head gss_proc verdict = record {
  head = head;
  verdict = Some (verdict_kept verdict);
  under = under_of verdict.answer;
  what = by_answer program head gss_proc verdict.answer;
}

-- ---- a call without an established context

abbrev pub without_context : CallHead → What → Call
without_context head what = record { head = head; verdict = None; under = None; what = what }

-- INIT is of version 1 or 3, with an empty handle and verifier, on procedure NULL (RFC 2203 section 5.2.2); its number
-- and service are free
abbrev pub is_init : CallHead → GssCred → Bool
is_init head cred =
    ((cred.version == RPCSEC_GSS_VERSION_1) || (cred.version == RPCSEC_GSS_VERSION_3)) && (length cred.handle == 0)
    && (head.proc == PROC_NULL) && (head.verf.flavor == AUTH_NONE) && (length head.verf.body == 0)

abbrev pub init_call : Program → CallHead → GssCred → List ℕ → What
init_call program head cred body =
    if is_init head cred then unless_fault (program_fault program head) (init_with (value_of init_token body))
    else whats.Denied (Auth AUTH_BADCRED)

-- AUTH_NONE and AUTH_SYS serve for NULL alone (RFC 5531 section 8.2; that COMPOUND is refused is own), no other flavor
-- serves
abbrev pub plain_call : CallHead → List ℕ → What
plain_call head body = if head.proc == PROC_NULL then with_none body whats.Null else whats.Denied (Auth AUTH_TOOWEAK)

abbrev pub flavor_call : CallHead → List ℕ → What
flavor_call head body =
    if (head.cred.flavor == AUTH_NONE) || (head.cred.flavor == AUTH_SYS) then plain_call head body else whats.Denied (Auth AUTH_BADCRED)

abbrev pub other_call : Program → CallHead → List ℕ → What
other_call program head body = unless_fault (call_fault program head) (flavor_call head body)

-- ---- a call, by the version of RPC, then by its credential

abbrev pub gss_call : {P : Type 0} → Mic → ℕ → Program → CallHead → List ℕ → ContextTable P → Option GssCred → Call
gss_call mic now program head body table None = without_context head (whats.Denied (Auth AUTH_BADCRED))
gss_call mic now program head body table (Some cred) =
    if cred.gss_proc == RPCSEC_GSS_INIT then without_context head (init_call program head cred body)
    else by_verdict program head cred.gss_proc (verdict_of mic now head body table)

unfoldable pub call_judged : {P : Type 0} → Mic → ℕ → Program → CallHead → List ℕ → ContextTable P → Call
call_judged mic now program head body table =
    if head.rpcvers == RPC_VERSION
    then (if head.cred.flavor == RPCSEC_GSS
    then gss_call mic now program head body table (cred_of head)
    else without_context head (other_call program head body))
    else without_context head (whats.Denied (Mismatch RPC_VERSION RPC_VERSION))

-- ---- a record (RFC 5531 section 9)

abbrev pub reply_read : Result (ReplyHead × ℕ) RpcFault → Judged
reply_read (Ok read) = judged.Reply
reply_read (Err fault) = judged.Unread

abbrev pub record_read : {P : Type 0} → Mic → ℕ → Program → List ℕ → ContextTable P → Result (CallHead × ℕ) RpcFault → Judged
record_read mic now program bytes table (Ok read) = judged.Call (call_judged mic now program read.0 (drop read.1 bytes) table)
record_read mic now program bytes table (Err (OtherKind found)) = reply_read (head_told heads.reply CALL bytes)
record_read mic now program bytes table (Err (BadXdr at)) = judged.Unread

abbrev pub judged_of : {P : Type 0} → Mic → ℕ → Program → List ℕ → ContextTable P → Judged
judged_of mic now program bytes table = record_read mic now program bytes table (head_told heads.call REPLY bytes)

-- ---- what is known of a judged call

-- its head has a spelling
abbrev pub HasSpelling : Call → Type 0
HasSpelling call = heads.call.Fits call.head

-- the context under which it is answered is there
abbrev pub IsThere : {P : Type 0} → ContextTable P → Call → Type 0
IsThere table call = IfSome call.under (λ under. IsSome (context_of under.number table.entries))

-- a denial and a failure have a spelling, and a failure isn't SUCCESS
abbrev pub IsFault : Stat → Type 0
IsFault fault = (fault ≢ Success) × heads.stat.Fits fault

abbrev pub IsSayable : What → Type 0
IsSayable (whats.Denied why) = heads.denial.Fits why
IsSayable (whats.Failed fault) = IsFault fault
IsSayable _ = Unit {0}

-- It was admitted, and is answered under its context.
pub record IsAdmitted (call : Call) : Type 0 where
  pub under : Under
  pub under_is : call.under ≡ Some under
  pub verdict_is : call.verdict ≡ Some (admission under.number under.seq [])

-- Its context isn't a child, so it may have one.
pub record MayHaveChild {P : Type 0} (table : ContextTable P) (call : Call) : Type 0 where
  pub admitted : IsAdmitted call
  pub root : parent_of admitted.under.number table.entries ≡ None

abbrev pub IsReady : {P : Type 0} → ContextTable P → Call → What → Type 0
IsReady table call (whats.Create name privilege) = MayHaveChild table call
IsReady table call whats.Destroy = IsAdmitted call
IsReady table call (whats.Compound args) = IsAdmitted call
IsReady table call _ = Unit {0}

-- Its head has a spelling; the context under which it is answered is there, and is the live one that its credential
-- names; and it can be answered by what it is.
pub record IsSound {P : Type 0} (now : ℕ) (table : ContextTable P) (call : Call) : Type 0 where
  pub fits : HasSpelling call
  pub there : IsThere table call
  pub named : IfSome call.under (λ under. IsNamed now (cred_of call.head) table under.number)
  pub said : IsSayable call.what
  pub ready : IsReady table call call.what

abbrev pub IsSoundWhere : {P : Type 0} → ℕ → ContextTable P → Judged → Type 0
IsSoundWhere now table (judged.Call call) = IsSound now table call
IsSoundWhere now table _ = Unit {0}
