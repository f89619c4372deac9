-- A call that is judged has a head with a spelling, and can be answered by what it is.
use Rattle.std.proofs.Common.{◌≡◌, ℕ, ◌<◌, Bool, true, false, List, [], ◌∷◌, drop, Option, Some, None, Result, Ok, Err, refl, sym, ap, subst, lit<}
use Rattle.std.specs.Prelude.{◌==◌, ◌^◌, ◌||◌, nat_lt, if◌then◌else◌}
use Rattle.std.specs.List.{AllByRecursion}
use Rattle.gss_ctx.specs.Admission.{first_failing, number_rows, on_cred, on_entry, past_number, service_rows, unless_denied, verdict_of, Row, body_answer, is_served, unseen}
use Rattle.gss_ctx.specs.Forms.{create, init_token}
use Rattle.gss_ctx.specs.Seals.{Mic, cred_of}
use Rattle.gss_ctx.specs.Table.{ContextTable, live_entry}
use Rattle.gss_ctx.specs.declared.admit.Admit.{Admit}
use Rattle.gss_ctx.specs.declared.admit.Admit.TheVariants as admits
use Rattle.gss_ctx.specs.declared.context.Entry.{Entry}
use Rattle.gss_ctx.specs.declared.create.Create.{Create}
use Rattle.gss_ctx.specs.declared.numbers.TheConstants.{RPCSEC_GSS_CREATE}
use Rattle.rpc_calls.specs.Judging.{by_answer, by_verdict, call_fault, call_judged, context_call, create_with, data_call, flavor_call, gss_call, init_call, init_with, is_init, judged_of, or_fault, other_call, paired, plain_call, procedure_fault, program_fault, record_read, reply_read, unless_fault, with_none, without_context}
use Rattle.rpc_calls.specs.declared.call.Call.{Call}
use Rattle.rpc_calls.specs.declared.call.Judged.TheVariants as judged
use Rattle.rpc_calls.specs.declared.call.Program.{Program}
use Rattle.rpc_calls.specs.declared.call.What.{What}
use Rattle.rpc_calls.specs.declared.call.What.TheVariants as whats
use Rattle.rpc_msg.specs.Heads as heads
use Rattle.rpc_msg.specs.Messages.{behind, first, head_told, kind_of, unless_other}
use Rattle.rpc_msg.specs.declared.call.CallHead.{CallHead}
use Rattle.rpc_msg.specs.declared.gss_cred.GssCred.{GssCred}
use Rattle.rpc_msg.specs.declared.messages.RpcFault.{RpcFault}
use Rattle.rpc_msg.specs.declared.messages.RpcFault.TheVariants.{BadXdr, OtherKind}
use Rattle.rpc_msg.specs.declared.numbers.TheConstants.{AUTH_NONE, AUTH_SYS, CALL, REPLY, RPC_VERSION, RPCSEC_GSS, RPCSEC_GSS_DATA, RPCSEC_GSS_DESTROY, RPCSEC_GSS_INIT}
use Rattle.rpc_msg.specs.declared.reply.Denial.TheVariants.{Mismatch, Auth}
use Rattle.rpc_msg.specs.declared.reply.ReplyHead.{ReplyHead}
use Rattle.rpc_msg.specs.declared.reply.Stat.{Stat}
use Rattle.rpc_msg.specs.declared.reply.Stat.TheVariants.{ProgUnavail, ProgMismatch, ProcUnavail, Garbage}
use Rattle.nfs_base.specs.declared.programs.TheConstants.{PROC_COMPOUND, PROC_NULL}
use Rattle.wire_xdr.specs.All.{value_of}
use Rattle.wire_xdr.specs.Cursor.{Cursor, IsBytes}
use Rattle.wire_xdr.specs.Form.{Form}

-- ---- what denials and failures say has a spelling

pub auth_fits : (why : ℕ) → why < 2 ^ 32 → heads.denial.Fits (Auth why)
unfolding heads.denial
auth_fits why small = (lit< tt, small)

version_fits : heads.denial.Fits (Mismatch RPC_VERSION RPC_VERSION)
unfolding heads.denial
version_fits = (lit< tt, (lit< tt, lit< tt))

pub garbage_fits : heads.stat.Fits Garbage
unfolding heads.stat
garbage_fits = (lit< tt, tt)

unavailable_fits : heads.stat.Fits ProgUnavail
unfolding heads.stat
unavailable_fits = (lit< tt, tt)

no_procedure_fits : heads.stat.Fits ProcUnavail
unfolding heads.stat
no_procedure_fits = (lit< tt, tt)

mismatch_fits : (low : ℕ) → low < 2 ^ 32 → heads.stat.Fits (ProgMismatch low low)
unfolding heads.stat
mismatch_fits low small = (lit< tt, (small, small))

abbrev pub IsSaid : What → Type 0
IsSaid (whats.Denied why) = heads.denial.Fits why
IsSaid (whats.Failed fault) = heads.stat.Fits fault
IsSaid _ = Unit {0}

said_if : (b : Bool) (x y : What) → IsSaid x → IsSaid y → IsSaid (if b then x else y)
said_if true x y here there = here
said_if false x y here there = there

-- ---- faults

abbrev AreFit : Option Stat → Type 0
AreFit None = Unit {0}
AreFit (Some fault) = heads.stat.Fits fault

fit_if : (b : Bool) (x y : Option Stat) → AreFit x → AreFit y → AreFit (if b then x else y)
fit_if true x y here there = here
fit_if false x y here there = there

fit_or : (x y : Option Stat) → AreFit x → AreFit y → AreFit (or_fault x y)
fit_or None y here there = there
fit_or (Some fault) y here there = here

program_fits : (program : Program) (head : CallHead) → program.version < 2 ^ 32 → AreFit (program_fault program head)
program_fits program head small =
    fit_if (head.prog == program.number) (if head.vers == program.version then None else Some (ProgMismatch program.version program.version)) (Some ProgUnavail)
    (fit_if (head.vers == program.version) None (Some (ProgMismatch program.version program.version)) tt (mismatch_fits program.version small)) unavailable_fits

call_fits : (program : Program) (head : CallHead) → program.version < 2 ^ 32 → AreFit (call_fault program head)
call_fits program head small =
    fit_or (program_fault program head) (procedure_fault head) (program_fits program head small) (fit_if (nat_lt PROC_COMPOUND head.proc) (Some ProcUnavail) None no_procedure_fits tt)

said_unless : (o : Option Stat) (what : What) → AreFit o → IsSaid what → IsSaid (unless_fault o what)
said_unless None what fit said = said
said_unless (Some fault) what fit said = fit

-- ---- arguments

none_said : (bytes : List ℕ) (what : What) → IsSaid what → IsSaid (with_none bytes what)
none_said [] what said = said
none_said (byte ∷ bytes) what said = garbage_fits

init_said : (o : Option (List ℕ)) → IsSaid (init_with o)
init_said None = garbage_fits
init_said (Some token) = tt

create_said : (o : Option Create) → IsSaid (create_with o)
create_said None = garbage_fits
create_said (Some asked) = tt

data_said : (proc : ℕ) (args : List ℕ) → IsSaid (data_call proc args)
data_said proc args = said_if (proc == PROC_NULL) (with_none args whats.Null) (whats.Compound args) (none_said args whats.Null tt) tt

context_said : (gss_proc : ℕ) (args : List ℕ) → IsSaid (context_call gss_proc args)
context_said gss_proc args =
    said_if (gss_proc == RPCSEC_GSS_CREATE) (create_with (value_of create args)) (if gss_proc == RPCSEC_GSS_DESTROY then with_none args whats.Destroy else whats.Failed ProcUnavail)
    (create_said (value_of create args))
    (said_if (gss_proc == RPCSEC_GSS_DESTROY) (with_none args whats.Destroy) (whats.Failed ProcUnavail) (none_said args whats.Destroy tt) no_procedure_fits)

paired_said : (gss_proc proc : ℕ) (args : List ℕ) → IsSaid (paired gss_proc proc args)
paired_said gss_proc proc args =
    said_if (gss_proc == RPCSEC_GSS_DATA) (data_call proc args) (if proc == PROC_NULL then context_call gss_proc args else whats.Failed ProcUnavail) (data_said proc args)
    (said_if (proc == PROC_NULL) (context_call gss_proc args) (whats.Failed ProcUnavail) (context_said gss_proc args) no_procedure_fits)

-- ---- by what its context says of it: a denial is a number of RFC 5531 or RFC 2203

abbrev IsSmall : Admit → Type 0
IsSmall (admits.Denied why) = why < 2 ^ 32
IsSmall _ = Unit {0}

abbrev AreSmall : Option Admit → Type 0
AreSmall None = Unit {0}
AreSmall (Some answer) = IsSmall answer

first_small : (rows : List Row) → AllByRecursion (λ (row : Row). IsSmall row.1) rows → AreSmall (first_failing rows)
first_small [] all = tt
first_small (row ∷ rows) all = small_if row.0 (first_failing rows) (Some row.1) (first_small rows all.1) all.0
  where
    small_if : (b : Bool) (x y : Option Admit) → AreSmall x → AreSmall y → AreSmall (if b then x else y)
    small_if true x y here there = here
    small_if false x y here there = there

body_small : (number seq : ℕ) (o : Option (List ℕ)) → IsSmall (body_answer number seq o)
body_small number seq None = tt
body_small number seq (Some args) = tt

unless_small : (o : Option Admit) (answer : Admit) → AreSmall o → IsSmall answer → IsSmall (unless_denied o answer)
unless_small None answer fit small = small
unless_small (Some denial) answer fit small = fit

past_small : {P : Type 0} (mic : Mic) (cred : GssCred) (body : List ℕ) (entry : Entry P) (o : Option Admit) → AreSmall o → IsSmall (past_number mic cred body entry o).answer
past_small mic cred body entry (Some answer) small = small
past_small mic cred body entry None small =
    unless_small (first_failing (service_rows cred entry)) (body_answer entry.number cred.seq_num _) (first_small (service_rows cred entry) (lit< tt, (lit< tt, tt)))
    (body_small entry.number cred.seq_num _)

entry_small : {P : Type 0} (mic : Mic) (head : CallHead) (body : List ℕ) (cred : GssCred) (o : Option (Entry P)) → IsSmall (on_entry mic head body cred o).answer
entry_small mic head body cred None = lit< tt
entry_small mic head body cred (Some entry) =
    past_small mic cred body entry (first_failing (number_rows mic head cred entry)) (first_small (number_rows mic head cred entry) (lit< tt, (lit< tt, (tt, (tt, tt)))))

cred_small : {P : Type 0} (mic : Mic) (now : ℕ) (head : CallHead) (body : List ℕ) (table : ContextTable P) (o : Option GssCred) → IsSmall (on_cred mic now head body table o).answer
cred_small mic now head body table None = lit< tt
cred_small {P} mic now head body table (Some cred) = by (is_served cred)
  where
    by : (b : Bool) → IsSmall (if b then on_entry mic head body cred (live_entry table.boot now cred.handle table.entries) else unseen (admits.Denied 1)).answer
    by true = entry_small mic head body cred (live_entry table.boot now cred.handle table.entries)
    by false = lit< tt

verdict_small : {P : Type 0} (mic : Mic) (now : ℕ) (head : CallHead) (body : List ℕ) (table : ContextTable P) → IsSmall (verdict_of mic now head body table).answer
unfolding verdict_of
verdict_small mic now head body table = cred_small mic now head body table (cred_of head)

answer_said : (program : Program) (head : CallHead) (gss_proc : ℕ) (answer : Admit) → program.version < 2 ^ 32 → IsSmall answer → IsSaid (by_answer program head gss_proc answer)
answer_said program head gss_proc (admits.Admitted number seq args) version small =
    said_unless (call_fault program head) (paired gss_proc head.proc args) (call_fits program head version) (paired_said gss_proc head.proc args)
answer_said program head gss_proc (admits.Dropped why) version small = tt
answer_said program head gss_proc (admits.Denied why) version small = auth_fits why small
answer_said program head gss_proc (admits.BadBody number seq) version small = garbage_fits

-- ---- a call

pub record Says (head : CallHead) (call : Call) : Type 0 where
  pub head_is : call.head ≡ head
  pub said : IsSaid call.what

says_if : (b : Bool) (x y : Call) (head : CallHead) → Says head x → Says head y → Says head (if b then x else y)
says_if true x y head here there = here
says_if false x y head here there = there

plain_said : (head : CallHead) (body : List ℕ) → IsSaid (plain_call head body)
plain_said head body = said_if (head.proc == PROC_NULL) (with_none body whats.Null) (whats.Denied (Auth _)) (none_said body whats.Null tt) (auth_fits _ (lit< tt))

other_said : (program : Program) (head : CallHead) (body : List ℕ) → program.version < 2 ^ 32 → IsSaid (other_call program head body)
other_said program head body version =
    said_unless (call_fault program head) (flavor_call head body) (call_fits program head version)
    (said_if ((head.cred.flavor == AUTH_NONE) || (head.cred.flavor == AUTH_SYS)) (plain_call head body) (whats.Denied (Auth _)) (plain_said head body) (auth_fits _ (lit< tt)))

begin_said : (program : Program) (head : CallHead) (cred : GssCred) (body : List ℕ) → program.version < 2 ^ 32 → IsSaid (init_call program head cred body)
begin_said program head cred body version =
    said_if (is_init head cred) (unless_fault (program_fault program head) (init_with (value_of init_token body))) (whats.Denied (Auth _))
    (said_unless (program_fault program head) (init_with (value_of init_token body)) (program_fits program head version) (init_said (value_of init_token body)))
    (auth_fits _ (lit< tt))

gss_says : {P : Type 0} (mic : Mic) (now : ℕ) (program : Program) (head : CallHead) (body : List ℕ) (table : ContextTable P) (o : Option GssCred) → program.version < 2 ^ 32
    → Says head (gss_call mic now program head body table o)
gss_says mic now program head body table None version = record { head_is = refl; said = auth_fits _ (lit< tt) }
gss_says mic now program head body table (Some cred) version =
    says_if (cred.gss_proc == RPCSEC_GSS_INIT) (without_context head (init_call program head cred body))
    (by_verdict program head cred.gss_proc (verdict_of mic now head body table)) head
    (record { head_is = refl; said = begin_said program head cred body version })
    (record {
      head_is = refl;
      said = answer_said program head cred.gss_proc (verdict_of mic now head body table).answer version (verdict_small mic now head body table);
    })

call_says : {P : Type 0} (mic : Mic) (now : ℕ) (program : Program) (head : CallHead) (body : List ℕ) (table : ContextTable P) → program.version < 2 ^ 32
    → Says head (call_judged mic now program head body table)
unfolding call_judged
call_says mic now program head body table version =
    says_if (head.rpcvers == RPC_VERSION)
    (if head.cred.flavor == RPCSEC_GSS then gss_call mic now program head body table (cred_of head) else without_context head (other_call program head body))
    (without_context head (whats.Denied (Mismatch RPC_VERSION RPC_VERSION))) head
    (says_if (head.cred.flavor == RPCSEC_GSS) (gss_call mic now program head body table (cred_of head)) (without_context head (other_call program head body)) head
    (gss_says mic now program head body table (cred_of head) version) (record { head_is = refl; said = other_said program head body version }))
    (record { head_is = refl; said = version_fits })

-- ---- a record that is read

behind_fits : {A : Type 0} (form : Form A) (bytes : List ℕ) (told : Result (A × Cursor) ℕ) (read : A × ℕ) → form.read (first bytes) ≡ told → behind told ≡ Ok read → IsBytes bytes
    → form.Fits read.0
behind_fits {A} form bytes (Ok x) read is h fits =
    let same : (x.0, x.1.at) ≡ read = cc in
    subst form.Fits (ap (λ (r : A × ℕ). r.0) same) (form.lawful.takes (first bytes) x.0 x.1 fits is).1
behind_fits form bytes (Err at) read is h fits = absurd cc

unless_fits : {A : Type 0} (form : Form A) (other : ℕ) (bytes : List ℕ) (kind : Option ℕ) (read : A × ℕ) → unless_other other kind (behind (form.read (first bytes))) ≡ Ok read → IsBytes bytes
    → form.Fits read.0
unless_fits form other bytes None read h fits = behind_fits form bytes (form.read (first bytes)) read refl h fits
unless_fits form other bytes (Some kind) read h fits = by (kind == other) h
  where
    by : (b : Bool) → (if b then Err (OtherKind kind) else behind (form.read (first bytes))) ≡ Ok read → form.Fits read.0
    by true h = absurd cc
    by false h = behind_fits form bytes (form.read (first bytes)) read refl h fits

-- what is known of a judged call
pub record IsSpoken (call : Call) : Type 0 where
  pub fits : heads.call.Fits call.head
  pub said : IsSaid call.what

no_reply : {A : Type 0} (told : Result (ReplyHead × ℕ) RpcFault) (call : Call) → reply_read told ≡ judged.Call call → A
no_reply (Ok read) call h = absurd cc
no_reply (Err fault) call h = absurd cc

read_says : {P : Type 0} (mic : Mic) (now : ℕ) (program : Program) (bytes : List ℕ) (table : ContextTable P) (call : Call) (told : Result (CallHead × ℕ) RpcFault)
    → program.version < 2 ^ 32 → IsBytes bytes → head_told heads.call REPLY bytes ≡ told → record_read mic now program bytes table told ≡ judged.Call call → IsSpoken call
read_says mic now program bytes table call (Ok read) version all told h =
    let made = call_judged mic now program read.0 (drop read.1 bytes) table in
    let same : made ≡ call = cc in
    let says = call_says mic now program read.0 (drop read.1 bytes) table version in
    let fits = unless_fits heads.call REPLY bytes (kind_of bytes) read told all in
    subst IsSpoken same (record { fits = subst heads.call.Fits (sym says.head_is) fits; said = says.said })
read_says mic now program bytes table call (Err (OtherKind found)) version all told h = no_reply (head_told heads.reply CALL bytes) call h
read_says mic now program bytes table call (Err (BadXdr at)) version all told h = absurd cc

pub judged_says : {P : Type 0} (mic : Mic) (now : ℕ) (program : Program) (bytes : List ℕ) (table : ContextTable P) (call : Call) → program.version < 2 ^ 32 → IsBytes bytes
    → judged_of mic now program bytes table ≡ judged.Call call → IsSpoken call
judged_says mic now program bytes table call version all h = read_says mic now program bytes table call (head_told heads.call REPLY bytes) version all refl h
