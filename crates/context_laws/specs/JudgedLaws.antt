-- What the spelling says of a call, and what the call is judged to be: a call that says INIT is answered under no context, one
-- that says CREATE makes a child or fails, and one that is answered under a context has that there.
use Rattle.std.proofs.Common.{◌≡◌, ℕ, Bool, true, false, List, [], ◌∷◌, drop, Option, Some, None, Result, Ok, Err, refl, sym, ◌∙◌, ap, subst, arith}
use Rattle.std.specs.Prelude.{◌==◌, if◌then◌else◌, find, IsSome, option_map}
use Rattle.std.specs.List.{AllByRecursion}
use Rattle.std.proofs.lemmas.Bool.{eqb-true, eq-eqb, false≢true}
use Rattle.wire_xdr.specs.All.{value_of}
use Rattle.wire_xdr.specs.Cursor.{Cursor, IsBytes}
use Rattle.wire_xdr.specs.Form.{Form}
use Rattle.nfs_base.specs.declared.seal.End.{End}
use Rattle.rpc_msg.specs.Heads as heads
use Rattle.rpc_msg.specs.Messages.{head_told, kind_of, behind, unless_other, first}
use Rattle.rpc_msg.specs.declared.call.CallHead.{CallHead}
use Rattle.rpc_msg.specs.declared.gss_cred.GssCred.{GssCred}
use Rattle.rpc_msg.specs.declared.messages.RpcFault.{RpcFault}
use Rattle.rpc_msg.specs.declared.messages.RpcFault.TheVariants.{BadXdr, OtherKind}
use Rattle.rpc_msg.specs.declared.numbers.TheConstants.{RPC_VERSION, RPCSEC_GSS, RPCSEC_GSS_INIT}
use Rattle.rpc_msg.specs.declared.reply.Denial.TheVariants.{Mismatch}
use Rattle.rpc_msg.specs.declared.reply.ReplyHead.{ReplyHead}
use Rattle.rpc_msg.specs.declared.reply.Stat.{Stat}
use Rattle.rpc_msg.specs.declared.reply.Stat.TheVariants.{ProcUnavail}
use Rattle.gss_ctx.specs.Admission.{Row, first_failing, is_served, number_rows, service_rows, body_answer, unless_denied, past_number, on_entry, on_cred, unseen, verdict_of}
use Rattle.gss_ctx.specs.Forms.{create}
use Rattle.gss_ctx.specs.Seals.{Mic, cred_of, unsealed}
use Rattle.gss_ctx.specs.Table.{ContextTable, context_of, entry_of, is_named, live_entry}
use Rattle.gss_ctx.specs.declared.admit.Admit.{Admit}
use Rattle.gss_ctx.specs.declared.admit.Admit.TheVariants as admits
use Rattle.gss_ctx.specs.declared.context.Entry.{Entry}
use Rattle.gss_ctx.specs.declared.create.Create.{Create}
use Rattle.gss_ctx.specs.declared.numbers.TheConstants.{RPCSEC_GSS_CREATE}
use Rattle.gss_mech.specs.declared.mechanism.TheConstants.{INITIATOR}
use Rattle.rpc_calls.specs.Judging.{by_answer, by_verdict, call_fault, call_judged, context_call, create_with, gss_call, init_call, judged_of, other_call, paired, record_read, reply_read, under_of, unless_fault, without_context}
use Rattle.rpc_calls.specs.declared.call.Call.{Call}
use Rattle.rpc_calls.specs.declared.call.Judged.TheVariants as judged
use Rattle.rpc_calls.specs.declared.call.Program.{Program}
use Rattle.rpc_calls.specs.declared.call.Under.{Under}
use Rattle.rpc_calls.specs.declared.call.What.{What}
use Rattle.rpc_calls.specs.declared.call.What.TheVariants as whats
use Rattle.wire_spelling.specs.Calls.{asks_for, begun_by, call_in, call_read, creates, is_create}

-- ---- a record that is judged to be a call is read as one

pub record IsReadAs {P : Type 0} (mic : Mic) (now : ℕ) (program : Program) (bytes : List ℕ) (table : ContextTable P) (call : Call) : Type 0 where
  pub head : CallHead
  pub body : List ℕ
  pub read : call_in bytes ≡ Some (record { head = head; body = body })
  pub is : call ≡ call_judged mic now program head body table
  pub fits : IsBytes bytes → heads.call.Fits head

behind_fits : {A : Type 0} (form : Form A) (bytes : List ℕ) (told : Result (A × Cursor) ℕ) (read : A × ℕ) → form.read (first bytes) ≡ told → behind told ≡ Ok read → IsBytes bytes → form.Fits read.0
behind_fits {A} form bytes (Ok x) read is h fits =
    let same : (x.0, x.1.at) ≡ read = cc in
    subst form.Fits (ap (λ (r : A × ℕ). r.0) same) (form.lawful.takes (first bytes) x.0 x.1 fits is).1
behind_fits form bytes (Err at) read is h fits = absurd cc

unless_fits : {A : Type 0} (form : Form A) (other : ℕ) (bytes : List ℕ) (kind : Option ℕ) (read : A × ℕ) → unless_other other kind (behind (form.read (first bytes))) ≡ Ok read → IsBytes bytes → form.Fits read.0
unless_fits form other bytes None read h fits = behind_fits form bytes (form.read (first bytes)) read refl h fits
unless_fits form other bytes (Some kind) read h fits = by_kind form bytes (kind == other) kind read h fits
  where
    by_kind : {A : Type 0} (form : Form A) (bytes : List ℕ) (b : Bool) (kind : ℕ) (read : A × ℕ) → (if b then Err (OtherKind kind) else behind (form.read (first bytes))) ≡ Ok read → IsBytes bytes → form.Fits read.0
    by_kind form bytes true kind read h fits = absurd cc
    by_kind form bytes false kind read h fits = behind_fits form bytes (form.read (first bytes)) read refl h fits

pub read_fits : {A : Type 0} (form : Form A) (other : ℕ) (bytes : List ℕ) (read : A × ℕ) → head_told form other bytes ≡ Ok read → IsBytes bytes → form.Fits read.0
read_fits form other bytes read h fits = unless_fits form other bytes (kind_of bytes) read h fits

no_call : (told : Result (ReplyHead × ℕ) RpcFault) (call : Call) → reply_read told ≡ judged.Call call → ⊥
no_call (Ok read) call h = absurd cc
no_call (Err fault) call h = absurd cc

read_as : {P : Type 0} (mic : Mic) (now : ℕ) (program : Program) (bytes : List ℕ) (table : ContextTable P) (call : Call) (told : Result (CallHead × ℕ) RpcFault)
    → head_told heads.call 1 bytes ≡ told → record_read mic now program bytes table told ≡ judged.Call call → IsReadAs mic now program bytes table call
read_as mic now program bytes table call (Ok read) told h = record {
  head = read.0;
  body = drop read.1 bytes;
  read = ap (call_read bytes) told;
  is = cc;
  fits = λ all. read_fits heads.call 1 bytes read told all;
}
read_as mic now program bytes table call (Err (OtherKind found)) told h = absurd (no_call (head_told heads.reply 0 bytes) call h)
read_as mic now program bytes table call (Err (BadXdr at)) told h = absurd cc

pub judged_read : {P : Type 0} (mic : Mic) (now : ℕ) (program : Program) (bytes : List ℕ) (table : ContextTable P) (call : Call)
    → judged_of mic now program bytes table ≡ judged.Call call → IsReadAs mic now program bytes table call
judged_read mic now program bytes table call h = read_as mic now program bytes table call (head_told heads.call 1 bytes) refl h

-- ---- INIT is answered under no context

under_if : (b : Bool) (x y : Call) → (b ≡ true → x.under ≡ None) → (b ≡ false → y.under ≡ None) → (if b then x else y).under ≡ None
under_if true x y first other = first refl
under_if false x y first other = other refl

init_alone : {P : Type 0} (mic : Mic) (now : ℕ) (program : Program) (head : CallHead) (body : List ℕ) (table : ContextTable P) (cred : Option GssCred)
    → asks_for RPCSEC_GSS_INIT cred ≡ true → (gss_call mic now program head body table cred).under ≡ None
init_alone mic now program head body table None asks = refl
init_alone mic now program head body table (Some cred) asks =
    under_if (cred.gss_proc == RPCSEC_GSS_INIT) (without_context head (init_call program head cred body))
    (by_verdict program head cred.gss_proc (verdict_of mic now head body table)) (λ is. refl) (λ not. absurd cc)

init_under : {P : Type 0} (mic : Mic) (now : ℕ) (program : Program) (head : CallHead) (body : List ℕ) (table : ContextTable P)
    → asks_for RPCSEC_GSS_INIT (cred_of head) ≡ true → (call_judged mic now program head body table).under ≡ None
unfolding call_judged
init_under mic now program head body table asks =
    under_if (head.rpcvers == RPC_VERSION)
    (if head.cred.flavor == RPCSEC_GSS then gss_call mic now program head body table (cred_of head) else without_context head (other_call program head body))
    (without_context head (whats.Denied (Mismatch RPC_VERSION RPC_VERSION)))
    (λ is. under_if (head.cred.flavor == RPCSEC_GSS) (gss_call mic now program head body table (cred_of head)) (without_context head (other_call program head body))
    (λ gss. init_alone mic now program head body table (cred_of head) asks) (λ other. refl))
    (λ other. refl)

test_holds : {A : Type 0} (b : Bool) (x : Option A) (y : A) → (if b then x else None) ≡ Some y → b ≡ true
test_holds true x y h = refl
test_holds false x y h = absurd cc

pub begun_under : {P : Type 0} (mic : Mic) (now : ℕ) (program : Program) (bytes : List ℕ) (table : ContextTable P) (call : Call)
    (accepts : List ℕ → Option (List ℕ)) (whose : List ℕ → Option End) (by : End)
    → IsReadAs mic now program bytes table call → begun_by accepts whose bytes ≡ Some by → call.under ≡ None
begun_under mic now program bytes table call accepts whose by r begun =
    let here = rw r.read at begun in
    let asks : asks_for RPCSEC_GSS_INIT (cred_of r.head) ≡ true = test_holds (asks_for RPCSEC_GSS_INIT (cred_of r.head)) _ by here in
    ap (λ (c : Call). c.under) r.is ∙ init_under mic now program r.head r.body table asks

-- ---- CREATE makes a child, or is refused

abbrev pub IsOfCreate : What → Type 0
IsOfCreate (whats.Dropped why) = Unit {0}
IsOfCreate (whats.Denied why) = Unit {0}
IsOfCreate (whats.Failed fault) = Unit {0}
IsOfCreate (whats.Create name privilege) = Unit {0}
IsOfCreate _ = ⊥

what_if : (b : Bool) (x y : What) → (b ≡ true → IsOfCreate x) → (b ≡ false → IsOfCreate y) → IsOfCreate (if b then x else y)
what_if true x y first other = first refl
what_if false x y first other = other refl

create_told : (asked : Option Create) → IsOfCreate (create_with asked)
create_told None = tt
create_told (Some asked) = tt

unless_created : (fault : Option Stat) (what : What) → IsOfCreate what → IsOfCreate (unless_fault fault what)
unless_created None what h = h
unless_created (Some fault) what h = tt

create_paired : (proc : ℕ) (args : List ℕ) → IsOfCreate (paired 5 proc args)
create_paired proc args =
    what_if (proc == 0) (context_call 5 args) (whats.Failed ProcUnavail) (λ null. create_told (value_of create args)) (λ other. tt)

create_answered : (program : Program) (head : CallHead) (answer : Admit) → IsOfCreate (by_answer program head 5 answer)
create_answered program head (admits.Admitted number seq args) = unless_created (call_fault program head) (paired 5 head.proc args) (create_paired head.proc args)
create_answered program head (admits.Dropped why) = tt
create_answered program head (admits.Denied why) = tt
create_answered program head (admits.BadBody number seq) = tt

call_if : (b : Bool) (x y : Call) → (b ≡ true → IsOfCreate x.what) → (b ≡ false → IsOfCreate y.what) → IsOfCreate (if b then x else y).what
call_if true x y first other = first refl
call_if false x y first other = other refl

create_gss : {P : Type 0} (mic : Mic) (now : ℕ) (program : Program) (head : CallHead) (body : List ℕ) (table : ContextTable P) (cred : Option GssCred)
    → asks_for RPCSEC_GSS_CREATE cred ≡ true → IsOfCreate (gss_call mic now program head body table cred).what
create_gss mic now program head body table None asks = tt
create_gss mic now program head body table (Some cred) asks =
    let five : cred.gss_proc ≡ 5 = eqb-true cred.gss_proc 5 asks in
    call_if (cred.gss_proc == RPCSEC_GSS_INIT) (without_context head (init_call program head cred body))
    (by_verdict program head cred.gss_proc (verdict_of mic now head body table))
    (λ is. let one : cred.gss_proc ≡ 1 = eqb-true cred.gss_proc 1 is in absurd (omega arith))
    (λ other.
    subst (λ (k : ℕ). IsOfCreate (by_answer program head k (verdict_of mic now head body table).answer)) (sym five)
    (create_answered program head (verdict_of mic now head body table).answer))

no_cred : (head : CallHead) → (head.cred.flavor == RPCSEC_GSS) ≡ false → asks_for RPCSEC_GSS_CREATE (cred_of head) ≡ true → ⊥
no_cred head other asks = let wrong = rw other at asks in absurd cc

create_judged : {P : Type 0} (mic : Mic) (now : ℕ) (program : Program) (head : CallHead) (body : List ℕ) (table : ContextTable P)
    → asks_for RPCSEC_GSS_CREATE (cred_of head) ≡ true → IsOfCreate (call_judged mic now program head body table).what
unfolding call_judged
create_judged mic now program head body table asks =
    call_if (head.rpcvers == RPC_VERSION)
    (if head.cred.flavor == RPCSEC_GSS then gss_call mic now program head body table (cred_of head) else without_context head (other_call program head body))
    (without_context head (whats.Denied (Mismatch RPC_VERSION RPC_VERSION)))
    (λ is. call_if (head.cred.flavor == RPCSEC_GSS) (gss_call mic now program head body table (cred_of head)) (without_context head (other_call program head body))
    (λ gss. create_gss mic now program head body table (cred_of head) asks) (λ other. absurd (no_cred head other asks)))
    (λ other. tt)

pub create_is_of : {P : Type 0} (mic : Mic) (now : ℕ) (program : Program) (bytes : List ℕ) (table : ContextTable P) (call : Call)
    → IsReadAs mic now program bytes table call → is_create bytes ≡ true → IsOfCreate call.what
create_is_of mic now program bytes table call r created =
    let asks : asks_for RPCSEC_GSS_CREATE (cred_of r.head) ≡ true = sym (ap creates r.read) ∙ created in
    subst (λ (c : Call). IsOfCreate c.what) (sym r.is) (create_judged mic now program r.head r.body table asks)

-- ---- the context under which a call is answered is there

context_if : {P : Type 0} (b : Bool) (e : Entry P) (other : Option (Entry P)) → (b ≡ false → IsSome (option_map (λ x. x.context) other))
    → IsSome (option_map (λ x. x.context) (if b then Some e else other))
context_if true e other rest = refl
context_if false e other rest = rest refl

found_if : {P : Type 0} (test : Entry P → Bool) (b : Bool) (e : Entry P) (entries : List (Entry P)) (entry : Entry P)
    → (find test entries ≡ Some entry → IsSome (context_of entry.number entries))
    → (if b then Some e else find test entries) ≡ Some entry → IsSome (context_of entry.number (e ∷ entries))
found_if {P} test true e entries entry rest here =
    let same : e ≡ entry = cc in
    let is : (e.number == entry.number) ≡ true = eq-eqb e.number entry.number (ap (λ (x : Entry P). x.number) same) in
    context_if (e.number == entry.number) e (entry_of entry.number entries) (λ not. absurd (false≢true (sym not ∙ is)))
found_if test false e entries entry rest there = context_if (e.number == entry.number) e (entry_of entry.number entries) (λ not. rest there)

found_there : {P : Type 0} (test : Entry P → Bool) (entries : List (Entry P)) (entry : Entry P) → find test entries ≡ Some entry → IsSome (context_of entry.number entries)
found_there test [] entry found = absurd cc
found_there test (e ∷ entries) entry found =
    found_if test (test e) e entries entry (λ there. found_there test entries entry there) found

-- an answer that names a context names this one
abbrev IsOf : (number : ℕ) → Admit → Type 0
IsOf number answer = (under : Under) → under_of answer ≡ Some under → under.number ≡ number

abbrev AreUnderNone : List Row → Type 0
AreUnderNone rows = AllByRecursion (λ row. under_of row.1 ≡ None) rows

none_if : (b : Bool) (own : Admit) (others : Option Admit) (answer : Admit) → under_of own ≡ None → (others ≡ Some answer → under_of answer ≡ None)
    → (if b then others else Some own) ≡ Some answer → under_of answer ≡ None
none_if true own others answer none rest h = rest h
none_if false own others answer none rest h = let same : own ≡ answer = cc in sym (ap under_of same) ∙ none

none_under : (rows : List Row) (answer : Admit) → AreUnderNone rows → first_failing rows ≡ Some answer → under_of answer ≡ None
none_under [] answer all h = absurd cc
none_under (row ∷ rows) answer all h = none_if row.0 row.1 (first_failing rows) answer all.0 (λ rest. none_under rows answer all.1 rest) h

under_none : (answer : Admit) (number : ℕ) → under_of answer ≡ None → IsOf number answer
under_none answer number none under is = absurd cc

body_of : (number seq : ℕ) (args : Option (List ℕ)) → IsOf number (body_answer number seq args)
body_of number seq None under is = let same : record { number = number; seq = seq } ≡ under = cc in sym (ap (λ (u : Under). u.number) same)
body_of number seq (Some args) under is = let same : record { number = number; seq = seq } ≡ under = cc in sym (ap (λ (u : Under). u.number) same)

seen_of : {P : Type 0} (cred : GssCred) (entry : Entry P) (rows : List Row) (denied : Option Admit) (answer : Admit) → first_failing rows ≡ denied → AreUnderNone rows
    → IsOf entry.number answer → IsOf entry.number (unless_denied denied answer)
seen_of cred entry rows None answer is all of = of
seen_of cred entry rows (Some denial) answer is all of = under_none denial entry.number (none_under rows denial all is)

number_of : {P : Type 0} (mic : Mic) (cred : GssCred) (body : List ℕ) (entry : Entry P) (rows : List Row) (failing : Option Admit) → first_failing rows ≡ failing → AreUnderNone rows
    → IsOf entry.number (past_number mic cred body entry failing).answer
number_of mic cred body entry rows (Some answer) is all = under_none answer entry.number (none_under rows answer all is)
number_of mic cred body entry rows None is all =
    seen_of cred entry (service_rows cred entry) (first_failing (service_rows cred entry))
    (body_answer entry.number cred.seq_num (unsealed (mic entry.context.key INITIATOR) cred.seq_num body)) refl (refl, (refl, tt))
    (body_of entry.number cred.seq_num (unsealed (mic entry.context.key INITIATOR) cred.seq_num body))

entry_there : {P : Type 0} (mic : Mic) (head : CallHead) (body : List ℕ) (cred : GssCred) (now boot : ℕ) (entries : List (Entry P)) (found : Option (Entry P))
    → live_entry boot now cred.handle entries ≡ found → (under : Under) → under_of (on_entry mic head body cred found).answer ≡ Some under
    → IsSome (context_of under.number entries)
entry_there mic head body cred now boot entries None is under h = absurd cc
entry_there mic head body cred now boot entries (Some entry) is under h =
    let same = number_of mic cred body entry (number_rows mic head cred entry) (first_failing (number_rows mic head cred entry)) refl (refl, (refl, (refl, (refl, tt)))) under h in
    subst (λ (n : ℕ). IsSome (context_of n entries)) (sym same) (found_there (is_named boot now cred.handle) entries entry is)

cred_there : {P : Type 0} (mic : Mic) (now : ℕ) (head : CallHead) (body : List ℕ) (table : ContextTable P) (cred : Option GssCred) (under : Under)
    → under_of (on_cred mic now head body table cred).answer ≡ Some under → IsSome (context_of under.number table.entries)
cred_there mic now head body table None under h = absurd cc
cred_there {P} mic now head body table (Some cred) under h = by_served (is_served cred) h
  where
    by_served : (b : Bool) → under_of (if b then on_entry mic head body cred (live_entry table.boot now cred.handle table.entries) else unseen (admits.Denied 1)).answer ≡ Some under
        → IsSome (context_of under.number table.entries)
    by_served true h = entry_there mic head body cred now table.boot table.entries (live_entry table.boot now cred.handle table.entries) refl under h
    by_served false h = absurd cc

verdict_there : {P : Type 0} (mic : Mic) (now : ℕ) (head : CallHead) (body : List ℕ) (table : ContextTable P) (under : Under)
    → under_of (verdict_of mic now head body table).answer ≡ Some under → IsSome (context_of under.number table.entries)
unfolding verdict_of
verdict_there mic now head body table under h = cred_there mic now head body table (cred_of head) under h

-- what is so of a call without a context, and of one by its verdict
module _ {P : Type 0} (mic : Mic) (now : ℕ) (program : Program) (head : CallHead) (body : List ℕ) (table : ContextTable P) where
  abbrev IsUnder : Call → Type 0
  IsUnder call = (under : Under) → call.under ≡ Some under → IsSome (context_of under.number table.entries)

  alone_there : (what : What) → IsUnder (without_context head what)
  alone_there what under h = absurd cc

  there_if : (b : Bool) (x y : Call) → IsUnder x → IsUnder y → IsUnder (if b then x else y)
  there_if true x y first other = first
  there_if false x y first other = other

  gss_there : (cred : Option GssCred) → IsUnder (gss_call mic now program head body table cred)
  gss_there None under h = absurd cc
  gss_there (Some cred) under h =
      there_if (cred.gss_proc == RPCSEC_GSS_INIT) (without_context head (init_call program head cred body))
      (by_verdict program head cred.gss_proc (verdict_of mic now head body table)) (alone_there (init_call program head cred body))
      (λ under h. verdict_there mic now head body table under h) under h

  call_there : IsUnder (call_judged mic now program head body table)
  unfolding call_judged
  call_there =
      there_if (head.rpcvers == RPC_VERSION)
      (if head.cred.flavor == RPCSEC_GSS then gss_call mic now program head body table (cred_of head) else without_context head (other_call program head body))
      (without_context head (whats.Denied (Mismatch RPC_VERSION RPC_VERSION)))
      (there_if (head.cred.flavor == RPCSEC_GSS) (gss_call mic now program head body table (cred_of head)) (without_context head (other_call program head body))
      (gss_there (cred_of head)) (alone_there (other_call program head body)))
      (alone_there (whats.Denied (Mismatch RPC_VERSION RPC_VERSION)))

pub judged_there : {P : Type 0} (mic : Mic) (now : ℕ) (program : Program) (bytes : List ℕ) (table : ContextTable P) (call : Call) (under : Under)
    → IsReadAs mic now program bytes table call → call.under ≡ Some under → IsSome (context_of under.number table.entries)
judged_there mic now program bytes table call under r is =
    call_there mic now program r.head r.body table under (sym (ap (λ (c : Call). c.under) r.is) ∙ is)

-- ---- the call's own head

head_if : (b : Bool) (x y : Call) (head : CallHead) → x.head ≡ head → y.head ≡ head → (if b then x else y).head ≡ head
head_if true x y head first other = first
head_if false x y head first other = other

gss_head : {P : Type 0} (mic : Mic) (now : ℕ) (program : Program) (head : CallHead) (body : List ℕ) (table : ContextTable P) (cred : Option GssCred)
    → (gss_call mic now program head body table cred).head ≡ head
gss_head mic now program head body table None = refl
gss_head mic now program head body table (Some cred) =
    head_if (cred.gss_proc == RPCSEC_GSS_INIT) (without_context head (init_call program head cred body))
    (by_verdict program head cred.gss_proc (verdict_of mic now head body table)) head refl refl

call_head : {P : Type 0} (mic : Mic) (now : ℕ) (program : Program) (head : CallHead) (body : List ℕ) (table : ContextTable P)
    → (call_judged mic now program head body table).head ≡ head
unfolding call_judged
call_head mic now program head body table =
    head_if (head.rpcvers == RPC_VERSION)
    (if head.cred.flavor == RPCSEC_GSS then gss_call mic now program head body table (cred_of head) else without_context head (other_call program head body))
    (without_context head (whats.Denied (Mismatch RPC_VERSION RPC_VERSION))) head
    (head_if (head.cred.flavor == RPCSEC_GSS) (gss_call mic now program head body table (cred_of head)) (without_context head (other_call program head body)) head
    (gss_head mic now program head body table (cred_of head)) refl)
    refl

pub judged_fits : {P : Type 0} (mic : Mic) (now : ℕ) (program : Program) (bytes : List ℕ) (table : ContextTable P) (call : Call)
    → IsReadAs mic now program bytes table call → IsBytes bytes → heads.call.Fits call.head
judged_fits mic now program bytes table call r all =
    subst heads.call.Fits (sym (ap (λ (c : Call). c.head) r.is ∙ call_head mic now program r.head r.body table)) (r.fits all)
