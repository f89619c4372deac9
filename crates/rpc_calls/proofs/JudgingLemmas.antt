-- What is known of a judged call.
use Rattle.std.specs.Prelude.{◌≡◌, ℕ, ◌==◌, ◌||◌, Bool, true, false, if◌then◌else◌, List, [], ◌∷◌, Option, None, Some, IfSome, IsSome, refl}
use Rattle.std.proofs.Common.{subst}
use Rattle.std.proofs.lemmas.Bool.{eqb-true}
use Rattle.wire_xdr.specs.All.{value_of}
use Rattle.rpc_msg.specs.Heads as heads
use Rattle.rpc_msg.specs.declared.call.CallHead.{CallHead}
use Rattle.rpc_msg.specs.declared.gss_cred.GssCred.{GssCred}
use Rattle.rpc_msg.specs.declared.numbers.TheConstants.{AUTH_BADCRED, AUTH_NONE, AUTH_SYS, AUTH_TOOWEAK}
use Rattle.rpc_msg.specs.declared.reply.Denial.{Denial}
use Rattle.rpc_msg.specs.declared.reply.Denial.TheVariants.{Auth}
use Rattle.rpc_msg.specs.declared.reply.Stat.{Stat}
use Rattle.rpc_msg.specs.declared.reply.Stat.TheVariants.{ProcUnavail}
use Rattle.gss_ctx.specs.Forms.{init_token, create}
use Rattle.gss_ctx.specs.Seals.{cred_of}
use Rattle.gss_ctx.specs.Table.{ContextTable, context_of}
use Rattle.gss_ctx.specs.Admission.{IsGranted, IsNamed, number_of}
use Rattle.gss_ctx.specs.declared.admit.Admit.{Admit}
use Rattle.gss_ctx.specs.declared.admit.Admit.TheVariants.{Admitted, BadBody}
use Rattle.gss_ctx.specs.declared.admit.Verdict.{Verdict}
use Rattle.gss_ctx.specs.declared.create.Create.{Create}
use Rattle.rpc_calls.specs.declared.call.Call.{Call}
use Rattle.rpc_calls.specs.declared.call.Program.{Program}
use Rattle.rpc_calls.specs.declared.call.What.{What}
use Rattle.rpc_calls.specs.declared.call.What.TheVariants as whats
use Rattle.rpc_calls.specs.Judging.{program_fault, call_fault, unless_fault, with_none, init_with, create_with, data_call, context_call, paired, by_answer, under_of, by_verdict, without_context, is_init, init_call, plain_call, flavor_call, other_call, IsSayable, IsAdmitted, MayHaveChild, IsReady, IsSound}

-- ---- what is asked of a call that is carried out, through its tests

ready_if : {P : Type 0} (table : ContextTable P) (call : Call) (b : Bool) (x y : What) → (b ≡ true → IsReady table call x) → IsReady table call y → IsReady table call (if b then x else y)
ready_if table call true x y h k = h refl
ready_if table call false x y h k = k

ready_fault : {P : Type 0} (table : ContextTable P) (call : Call) (fault : Option Stat) (what : What) → IsReady table call what → IsReady table call (unless_fault fault what)
ready_fault table call None what h = h
ready_fault table call (Some fault) what h = tt

ready_none : {P : Type 0} (table : ContextTable P) (call : Call) (args : List ℕ) (what : What) → IsReady table call what → IsReady table call (with_none args what)
ready_none table call [] what h = h
ready_none table call (byte ∷ bytes) what h = tt

ready_token : {P : Type 0} (table : ContextTable P) (call : Call) (token : Option (List ℕ)) → IsReady table call (init_with token)
ready_token table call None = tt
ready_token table call (Some token) = tt

ready_create : {P : Type 0} (table : ContextTable P) (call : Call) (asked : Option Create) → MayHaveChild table call → IsReady table call (create_with asked)
ready_create table call None h = tt
ready_create table call (Some asked) h = h

ready_context : {P : Type 0} (table : ContextTable P) (call : Call) (gss_proc : ℕ) (args : List ℕ) → IsAdmitted call → (gss_proc ≡ 5 → MayHaveChild table call) → IsReady table call (context_call gss_proc args)
ready_context table call gss_proc args h may =
    ready_if table call (gss_proc == 5) (create_with (value_of create args)) _ (λ is. ready_create table call (value_of create args) (may (eqb-true gss_proc 5 is)))
    (ready_if table call (gss_proc == 3) (with_none args whats.Destroy) (whats.Failed ProcUnavail) (λ is. ready_none table call args whats.Destroy h) tt)

ready_data : {P : Type 0} (table : ContextTable P) (call : Call) (proc : ℕ) (args : List ℕ) → IsAdmitted call → IsReady table call (data_call proc args)
ready_data table call proc args h =
    ready_if table call (proc == 0) (with_none args whats.Null) (whats.Compound args) (λ is. ready_none table call args whats.Null tt) h

ready_paired : {P : Type 0} (table : ContextTable P) (call : Call) (gss_proc proc : ℕ) (args : List ℕ) → IsAdmitted call → (gss_proc ≡ 5 → MayHaveChild table call) → IsReady table call (paired gss_proc proc args)
ready_paired table call gss_proc proc args h may =
    ready_if table call (gss_proc == 0) (data_call proc args) _ (λ is. ready_data table call proc args h)
    (ready_if table call (proc == 0) (context_call gss_proc args) (whats.Failed ProcUnavail) (λ is. ready_context table call gss_proc args h may) tt)

-- ---- a call of an established context

admitted_is : (program : Program) (head : CallHead) (gss_proc number seq : ℕ) (args : List ℕ) (seen : Option (ℕ × ℕ)) → seen ≡ Some (number, seq)
    → IsAdmitted (by_verdict program head gss_proc (record { answer = Admitted number seq args; seen = seen }))
admitted_is program head gss_proc number seq args seen is = record { under = record { number = number; seq = seq }; under_is = refl; verdict_is = rw is refl }

ready_answer : {P : Type 0} (table : ContextTable P) (program : Program) (head : CallHead) (cred : GssCred) (answer : Admit) (seen : Option (ℕ × ℕ))
    → IsGranted (Some cred) table.entries seen answer
    → IsReady table (by_verdict program head cred.gss_proc (record { answer = answer; seen = seen })) (by_answer program head cred.gss_proc answer)
unfolding admitted_is
ready_answer table program head cred (Admitted number seq args) seen granted =
    let told : Call = by_verdict program head cred.gss_proc (record { answer = Admitted number seq args; seen = seen }) in
    let is : IsAdmitted told = admitted_is program head cred.gss_proc number seq args seen granted.0 in
    ready_fault table told (call_fault program head) (paired cred.gss_proc head.proc args)
    (ready_paired table told cred.gss_proc head.proc args is (λ creates. record { admitted = is; root = granted.1 creates }))
ready_answer table program head cred _ seen granted = tt

under_is : (Q : ℕ → Type 0) (answer : Admit) → IfSome (number_of answer) Q → IfSome (under_of answer) (λ under. Q under.number)
under_is Q (Admitted number seq args) h = h
under_is Q (BadBody number seq) h = h
under_is Q _ h = tt

pub verdict_sound : {P : Type 0} (now : ℕ) (table : ContextTable P) (program : Program) (head : CallHead) (cred : GssCred) (verdict : Verdict)
    → heads.call.Fits head → cred_of head ≡ Some cred
    → IfSome (number_of verdict.answer) (λ number. IsSome (context_of number table.entries))
    → IfSome (number_of verdict.answer) (IsNamed now (cred_of head) table)
    → IsGranted (cred_of head) table.entries verdict.seen verdict.answer
    → IsSayable (by_answer program head cred.gss_proc verdict.answer)
    → IsSound now table (by_verdict program head cred.gss_proc verdict)
verdict_sound now table program head cred verdict fits is there named granted said = record {
  fits = fits;
  there = under_is (λ number. IsSome (context_of number table.entries)) verdict.answer there;
  named = under_is (IsNamed now (cred_of head) table) verdict.answer named;
  said = said;
  ready = ready_answer table program head cred verdict.answer verdict.seen (subst (λ (c : Option GssCred). IsGranted c table.entries verdict.seen verdict.answer) is granted);
}

-- ---- a call without one

alone_sound : {P : Type 0} (now : ℕ) (table : ContextTable P) (head : CallHead) (what : What) → heads.call.Fits head → IsSayable what
    → IsReady table (without_context head what) what → IsSound now table (without_context head what)
alone_sound now table head what fits said ready = record { fits = fits; there = tt; named = tt; said = said; ready = ready }

pub denied_sound : {P : Type 0} (now : ℕ) (table : ContextTable P) (head : CallHead) (why : Denial) → heads.call.Fits head → heads.denial.Fits why
    → IsSound now table (without_context head (whats.Denied why))
denied_sound now table head why fits said = alone_sound now table head (whats.Denied why) fits said tt

pub init_sound : {P : Type 0} (now : ℕ) (table : ContextTable P) (program : Program) (head : CallHead) (cred : GssCred) (body : List ℕ) → heads.call.Fits head
    → IsSayable (init_call program head cred body) → IsSound now table (without_context head (init_call program head cred body))
init_sound now table program head cred body fits said =
    let told : Call = without_context head (init_call program head cred body) in
    alone_sound now table head (init_call program head cred body) fits said
    (ready_if table told (is_init head cred) (unless_fault (program_fault program head) (init_with (value_of init_token body))) (whats.Denied (Auth AUTH_BADCRED))
    (λ is. ready_fault table told (program_fault program head) (init_with (value_of init_token body)) (ready_token table told (value_of init_token body))) tt)

pub other_sound : {P : Type 0} (now : ℕ) (table : ContextTable P) (program : Program) (head : CallHead) (body : List ℕ) → heads.call.Fits head
    → IsSayable (other_call program head body) → IsSound now table (without_context head (other_call program head body))
other_sound now table program head body fits said =
    let told : Call = without_context head (other_call program head body) in
    alone_sound now table head (other_call program head body) fits said
    (ready_fault table told (call_fault program head) (flavor_call head body)
    (ready_if table told ((head.cred.flavor == AUTH_NONE) || (head.cred.flavor == AUTH_SYS)) (plain_call head body) (whats.Denied (Auth AUTH_BADCRED))
    (λ is. ready_if table told (head.proc == 0) (with_none body whats.Null) (whats.Denied (Auth AUTH_TOOWEAK)) (λ null. ready_none table told body whats.Null tt) tt) tt))
