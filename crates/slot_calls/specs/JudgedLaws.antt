-- A call that names a slot is a COMPOUND to a server, or is answered without a seal; and a COMPOUND that is admitted is seen as
-- one by a wire.
use Rattle.std.proofs.Common.{◌≡◌, inl, inr, ℕ, ◌≤◌, Bool, true, false, List, [], ◌∷◌, Option, Some, None, Result, Ok, Err, refl, sym, ap, subst, ◌∙◌, arith}
use Rattle.std.specs.Prelude.{◌==◌, ◌||◌, nat_lt, drop, if◌then◌else◌, option_map}
use Rattle.std.proofs.lemmas.Bool.{and_from, and_parts, eqb-true, eqb-false, eq-eqb, ltb-false}
use Rattle.gss_ctx.specs.Admission.{verdict_of}
use Rattle.gss_ctx.specs.Forms.{create, init_token}
use Rattle.gss_ctx.specs.Seals.{Mic, cred_of}
use Rattle.gss_ctx.specs.Table.{AreDistinct, ContextTable, context_of}
use Rattle.gss_ctx.specs.declared.admit.Admit.{Admit}
use Rattle.gss_ctx.specs.declared.admit.Admit.TheVariants as admits
use Rattle.gss_ctx.specs.declared.create.Create.{Create}
use Rattle.gss_ctx.specs.declared.numbers.TheConstants.{RPCSEC_GSS_CREATE}
use Rattle.nfs_base.specs.declared.programs.TheConstants.{NFS_PROGRAM, PROC_COMPOUND, PROC_NULL}
use Rattle.nfs_compound.specs.Compounds.{compound_of}
use Rattle.rpc_calls.specs.Answers.{accepted_seal, admitted_seal}
use Rattle.rpc_calls.specs.Judging.{under_of, without_args, admitted, by_answer, by_verdict, call_fault, call_judged, context_call, create_with, data_call, flavor_call, gss_call, init_call, init_with, is_init, judged_of, or_fault, other_call, paired, plain_call, procedure_fault, program_fault, record_read, reply_read, unless_fault, with_none, without_context}
use Rattle.rpc_calls.specs.declared.call.Call.{Call}
use Rattle.rpc_calls.specs.declared.call.Judged.TheVariants as judged
use Rattle.rpc_calls.specs.declared.call.Program.{Program}
use Rattle.rpc_calls.specs.declared.call.TheConstants.Program as programs
use Rattle.rpc_calls.specs.declared.call.What.{What}
use Rattle.rpc_calls.specs.declared.call.What.TheVariants as whats
use Rattle.rpc_msg.specs.GssCred.{gss_cred}
use Rattle.rpc_msg.specs.Heads as heads
use Rattle.rpc_msg.specs.Messages.{behind, first, head_told, kind_of, unless_other}
use Rattle.rpc_msg.specs.declared.call.CallHead.{CallHead}
use Rattle.rpc_msg.specs.declared.gss_cred.GssCred.{GssCred}
use Rattle.rpc_msg.specs.declared.messages.RpcFault.{RpcFault}
use Rattle.rpc_msg.specs.declared.messages.RpcFault.TheVariants.{BadXdr, OtherKind}
use Rattle.rpc_msg.specs.declared.numbers.TheConstants.{AUTH_BADCRED, AUTH_NONE, AUTH_TOOWEAK, AUTH_SYS, CALL, REPLY, RPC_VERSION, RPCSEC_GSS, RPCSEC_GSS_DATA, RPCSEC_GSS_DESTROY, RPCSEC_GSS_INIT}
use Rattle.rpc_msg.specs.declared.reply.Denial.TheVariants.{Auth, Mismatch}
use Rattle.rpc_msg.specs.declared.reply.ReplyHead.{ReplyHead}
use Rattle.rpc_msg.specs.declared.reply.Stat.{Stat}
use Rattle.rpc_msg.specs.declared.reply.Stat.TheVariants.{ProcUnavail, ProgMismatch, ProgUnavail}
use Rattle.wire_xdr.specs.All.{value_of}
use Rattle.wire_xdr.specs.Cursor.{Cursor, IsBytes}
use Rattle.slot_calls.specs.AdmittedLaws.{live_there, verdict_admits}
use Rattle.wire_model.specs.Spelling.{SlotName}
use Rattle.wire_spelling.specs.Calls.{asks_for, call_in, call_read}
use Rattle.wire_spelling.specs.ReadLaws.{unsealed_carried}
use Rattle.wire_spelling.specs.Slots.{asks_compound, carried_in, ops_in, slot_asked, slot_in, slot_of}
use Rattle.slot_calls.specs.Asked.{IsAsked, IsOpen}

abbrev Is : What → List ℕ → Type 0
Is what args = what ≡ whats.Compound args

-- ---- by the procedures of a call that a context admitted

none_never : (bytes args : List ℕ) (what : What) → (Is what args → ⊥) → Is (with_none bytes what) args → ⊥
none_never [] args what never h = never h
none_never (byte ∷ bytes) args what never h = absurd cc

create_never : (asked : Option Create) (args : List ℕ) → Is (create_with asked) args → ⊥
create_never None args h = absurd cc
create_never (Some asked) args h = absurd cc

context_never : (creates ends : Bool) (given args : List ℕ)
    → Is (if creates then create_with (value_of create given) else (if ends then with_none given whats.Destroy else whats.Failed ProcUnavail)) args → ⊥
context_never true destroy given args h = create_never (value_of create given) args h
context_never false true given args h = none_never given args whats.Destroy (λ e. absurd cc) h
context_never false false given args h = absurd cc

record IsPaired (gss_proc proc : ℕ) (given args : List ℕ) : Type 0 where
  data_is : gss_proc ≡ RPCSEC_GSS_DATA
  not_null : (proc == PROC_NULL) ≡ false
  same : given ≡ args

data_is_paired : (null : Bool) (gss_proc proc : ℕ) (given args : List ℕ) → gss_proc ≡ RPCSEC_GSS_DATA → (proc == PROC_NULL) ≡ null
    → Is (if null then with_none given whats.Null else whats.Compound given) args → IsPaired gss_proc proc given args
data_is_paired true gss_proc proc given args data_is null h = absurd (none_never given args whats.Null (λ e. absurd cc) h)
data_is_paired false gss_proc proc given args data_is null h = record { data_is = data_is; not_null = null; same = cc }

other_is_paired : (null : Bool) (gss_proc proc : ℕ) (given args : List ℕ)
    → Is (if null then context_call gss_proc given else whats.Failed ProcUnavail) args → IsPaired gss_proc proc given args
other_is_paired true gss_proc proc given args h = absurd (context_never (gss_proc == RPCSEC_GSS_CREATE) (gss_proc == RPCSEC_GSS_DESTROY) given args h)
other_is_paired false gss_proc proc given args h = absurd cc

is_paired : (is_data : Bool) (gss_proc proc : ℕ) (given args : List ℕ) → (gss_proc == RPCSEC_GSS_DATA) ≡ is_data
    → Is (if is_data then data_call proc given else (if proc == PROC_NULL then context_call gss_proc given else whats.Failed ProcUnavail)) args
    → IsPaired gss_proc proc given args
is_paired true gss_proc proc given args e h = data_is_paired (proc == PROC_NULL) gss_proc proc given args (eqb-true gss_proc RPCSEC_GSS_DATA e) refl h
is_paired false gss_proc proc given args e h = other_is_paired (proc == PROC_NULL) gss_proc proc given args h

-- ---- the program and the procedure are served

no_fault : (fault : Option Stat) (what : What) (args : List ℕ) → Is (unless_fault fault what) args → (fault ≡ None) × Is what args
no_fault None what args h = (refl, h)
no_fault (Some fault) what args h = absurd cc

both_none : (first second : Option Stat) → or_fault first second ≡ None → (first ≡ None) × (second ≡ None)
both_none None second h = (refl, h)
both_none (Some fault) second h = absurd cc

program_is : (same_program same_version : Bool) (program : Program) (head : CallHead) → (head.prog == program.number) ≡ same_program
    → (if same_program then (if same_version then None else Some (ProgMismatch program.version program.version)) else Some ProgUnavail) ≡ None → head.prog ≡ program.number
program_is true same_version program head e h = eqb-true head.prog program.number e
program_is false same_version program head e h = absurd cc

procedure_is : (past : Bool) (head : CallHead) → nat_lt PROC_COMPOUND head.proc ≡ past → (if past then Some ProcUnavail else None) ≡ None → head.proc ≤ PROC_COMPOUND
procedure_is true head e h = absurd cc
procedure_is false head e h = ltb-false PROC_COMPOUND head.proc e

-- a COMPOUND among the calls that a context admitted
record IsServed (program : Program) (head : CallHead) (gss_proc : ℕ) (given args : List ℕ) : Type 0 where
  prog_is : head.prog ≡ program.number
  proc_is : head.proc ≡ PROC_COMPOUND
  data_is : gss_proc ≡ RPCSEC_GSS_DATA
  same : given ≡ args

is_served : (program : Program) (head : CallHead) (gss_proc : ℕ) (given args : List ℕ) → Is (admitted program head gss_proc given) args
    → IsServed program head gss_proc given args
is_served program head gss_proc given args h =
    let served = no_fault (call_fault program head) (paired gss_proc head.proc given) args h in
    let faults = both_none (program_fault program head) (procedure_fault head) served.0 in
    let pair = is_paired (gss_proc == RPCSEC_GSS_DATA) gss_proc head.proc given args refl served.1 in
    let most = procedure_is (nat_lt PROC_COMPOUND head.proc) head refl faults.1 in
    record {
      prog_is = program_is (head.prog == program.number) (head.vers == program.version) program head refl faults.0;
      proc_is = proc_from head.proc most (eqb-false head.proc PROC_NULL pair.not_null);
      data_is = pair.data_is;
      same = pair.same;
    }
  where
    proc_from : (proc : ℕ) → proc ≤ PROC_COMPOUND → (proc ≡ PROC_NULL → ⊥) → proc ≡ PROC_COMPOUND
    proc_from proc most some = omega (arith, most, some)

-- ---- a call, by its credential

-- a COMPOUND that a context admitted
pub record IsCompoundCall {P : Type 0} (mic : Mic) (now : ℕ) (program : Program) (head : CallHead) (body : List ℕ) (table : ContextTable P) (call : Call) (args : List ℕ) : Type 0 where
  pub cred : GssCred
  pub cred_is : cred_of head ≡ Some cred
  pub number : ℕ
  pub seq : ℕ
  pub answer_is : (verdict_of mic now head body table).answer ≡ admits.Admitted number seq args
  pub call_is : call ≡ by_verdict program head cred.gss_proc (verdict_of mic now head body table)
  pub prog_is : head.prog ≡ program.number
  pub proc_is : head.proc ≡ PROC_COMPOUND
  pub data_is : cred.gss_proc ≡ RPCSEC_GSS_DATA

module _ {P : Type 0} (mic : Mic) (now : ℕ) (program : Program) (head : CallHead) (body : List ℕ) (table : ContextTable P) (args : List ℕ) where
  abbrev IsHere : Call → Type 0
  IsHere call = IsCompoundCall mic now program head body table call args

  answer_is_compound : (cred : GssCred) → cred_of head ≡ Some cred → (answer : Admit) → (verdict_of mic now head body table).answer ≡ answer
      → Is (by_answer program head cred.gss_proc answer) args → IsHere (by_verdict program head cred.gss_proc (verdict_of mic now head body table))
  answer_is_compound cred is (admits.Admitted number seq given) e h =
      let served = is_served program head cred.gss_proc given args h in
      record {
        cred = cred;
        cred_is = is;
        number = number;
        seq = seq;
        answer_is = e ∙ ap (λ (xs : List ℕ). admits.Admitted number seq xs) served.same;
        call_is = refl;
        prog_is = served.prog_is;
        proc_is = served.proc_is;
        data_is = served.data_is;
      }
  answer_is_compound cred is (admits.Dropped why) e h = absurd cc
  answer_is_compound cred is (admits.Denied why) e h = absurd cc
  answer_is_compound cred is (admits.BadBody number seq) e h = absurd cc

  init_never : (token : Option (List ℕ)) → Is (init_with token) args → ⊥
  init_never None h = absurd cc
  init_never (Some token) h = absurd cc

  begins_never : (init : Bool) (fault : Option Stat) (token : Option (List ℕ))
      → Is (if init then unless_fault fault (init_with token) else whats.Denied (Auth AUTH_BADCRED)) args → ⊥
  begins_never true fault token h = init_never token (no_fault fault (init_with token) args h).1
  begins_never false fault token h = absurd cc

  established : (init : Bool) (cred : GssCred) → cred_of head ≡ Some cred
      → Is (if init then without_context head (init_call program head cred body) else by_verdict program head cred.gss_proc (verdict_of mic now head body table)).what args
      → IsHere (if init then without_context head (init_call program head cred body) else by_verdict program head cred.gss_proc (verdict_of mic now head body table))
  established true cred is h = absurd (begins_never (is_init head cred) (program_fault program head) (value_of init_token body) h)
  established false cred is h = answer_is_compound cred is (verdict_of mic now head body table).answer refl h

  by_cred : (cred : Option GssCred) → cred_of head ≡ cred → Is (gss_call mic now program head body table cred).what args
      → IsHere (gss_call mic now program head body table cred)
  by_cred None is h = absurd cc
  by_cred (Some cred) is h = established (cred.gss_proc == RPCSEC_GSS_INIT) cred is h

  plain_never : (null : Bool) → Is (if null then with_none body whats.Null else whats.Denied (Auth AUTH_TOOWEAK)) args → ⊥
  plain_never true h = none_never body args whats.Null (λ e. absurd cc) h
  plain_never false h = absurd cc

  flavor_never : (plain : Bool) → Is (if plain then plain_call head body else whats.Denied (Auth AUTH_BADCRED)) args → ⊥
  flavor_never true h = plain_never (head.proc == PROC_NULL) h
  flavor_never false h = absurd cc

  other_never : Is (other_call program head body) args → ⊥
  other_never h =
      flavor_never ((head.cred.flavor == AUTH_NONE) || (head.cred.flavor == AUTH_SYS)) (no_fault (call_fault program head) (flavor_call head body) args h).1

  by_flavor : (gss : Bool)
      → Is (if gss then gss_call mic now program head body table (cred_of head) else without_context head (other_call program head body)).what args
      → IsHere (if gss then gss_call mic now program head body table (cred_of head) else without_context head (other_call program head body))
  by_flavor true h = by_cred (cred_of head) refl h
  by_flavor false h = absurd (other_never h)

  by_version : (right : Bool)
      → Is (if right
      then (if head.cred.flavor == RPCSEC_GSS then gss_call mic now program head body table (cred_of head) else without_context head (other_call program head body))
      else without_context head (whats.Denied (Mismatch RPC_VERSION RPC_VERSION))).what args
      → IsHere (if right
      then (if head.cred.flavor == RPCSEC_GSS then gss_call mic now program head body table (cred_of head) else without_context head (other_call program head body))
      else without_context head (whats.Denied (Mismatch RPC_VERSION RPC_VERSION)))
  by_version true h = by_flavor (head.cred.flavor == RPCSEC_GSS) h
  by_version false h = absurd cc

  pub compound_judged : (call : Call) → call_judged mic now program head body table ≡ call → Is call.what args → IsHere call
  unfolding call_judged
  compound_judged call is h = subst IsHere is (by_version (head.rpcvers == RPC_VERSION) (subst (λ (c : Call). Is c.what args) (sym is) h))

-- ---- a record

abbrev pub heads_call : (bytes : List ℕ) → Result (CallHead × ℕ) RpcFault
heads_call bytes = head_told heads.call REPLY bytes

-- the head that was read of a call
pub record IsRead {P : Type 0} (mic : Mic) (now : ℕ) (program : Program) (bytes : List ℕ) (table : ContextTable P) (call : Call) : Type 0 where
  pub head : CallHead
  pub at : ℕ
  pub told : heads_call bytes ≡ Ok (head, at)
  pub call_is : call_judged mic now program head (drop at bytes) table ≡ call

module _ {P : Type 0} (mic : Mic) (now : ℕ) (program : Program) (bytes : List ℕ) (table : ContextTable P) (call : Call) where
  reply_never : (told : Result (ReplyHead × ℕ) RpcFault) → reply_read told ≡ judged.Call call → ⊥
  reply_never (Ok read) h = absurd cc
  reply_never (Err fault) h = absurd cc

  pub call_is_read : (told : Result (CallHead × ℕ) RpcFault) → heads_call bytes ≡ told → record_read mic now program bytes table told ≡ judged.Call call
      → IsRead mic now program bytes table call
  call_is_read (Ok read) is h = record { head = read.0; at = read.1; told = is; call_is = cc }
  call_is_read (Err (OtherKind found)) is h = absurd (reply_never (head_told heads.reply CALL bytes) h)
  call_is_read (Err (BadXdr at)) is h = absurd cc

  -- what a wire sees of it
  pub call_seen : (r : IsRead mic now program bytes table call) → call_in bytes ≡ Some (record { head = r.head; body = drop r.at bytes })
  call_seen r = ap (call_read bytes) r.told

-- a COMPOUND of NFS that a context admitted is the one that a wire sees
pub compound_asked : {P : Type 0} (mic : Mic) (now : ℕ) (bytes : List ℕ) (table : ContextTable P) (call : Call) (args : List ℕ) → AreDistinct table.entries
    → judged_of mic now programs.NFS bytes table ≡ judged.Call call → call.what ≡ whats.Compound args → IsAsked table bytes call args
compound_asked mic now bytes table call args distinct judged is =
    let r = call_is_read mic now programs.NFS bytes table call (heads_call bytes) refl judged in
    let body = drop r.at bytes in
    let c = compound_judged mic now programs.NFS r.head body table args call r.call_is is in
    let a = verdict_admits mic now r.head body table c.number c.seq args c.cred c.cred_is c.answer_is in
    let seen = call_seen mic now programs.NFS bytes table call r in
    let carried = unsealed_carried _ c.cred.seq_num body args a.carries in
    let asks_data : asks_for RPCSEC_GSS_DATA (cred_of r.head) ≡ true =
    ap (asks_for RPCSEC_GSS_DATA) c.cred_is ∙ eq-eqb c.cred.gss_proc RPCSEC_GSS_DATA c.data_is in
    let asks : asks_compound (record { head = r.head; body = body }) ≡ true =
    and_from _ _ (and_from _ _ (eq-eqb r.head.prog NFS_PROGRAM c.prog_is) (eq-eqb r.head.proc PROC_COMPOUND c.proc_is)) asks_data in
    record {
      number = c.number;
      seq = c.seq;
      under_is = ap (λ (x : Call). x.under) c.call_is ∙ ap under_of c.answer_is;
      accepted = ap (accepted_seal table) c.call_is ∙ ap (λ (answer : Admit). admitted_seal table (without_args answer)) c.answer_is;
      context = a.entry.context;
      there =
          subst (λ n. context_of n table.entries ≡ Some a.entry.context) a.number_is
          (ap (option_map (λ e. e.context)) (live_there table.boot now c.cred.handle table.entries a.entry distinct a.live));
      ops_are = ap ops_in seen ∙ carried;
      slot_is =
          ap slot_in seen
          ∙ ap (λ (b : Bool). if b then slot_asked (compound_of (carried_in body)) else None) asks
          ∙ ap (λ (xs : List ℕ). slot_asked (compound_of xs)) carried;
    }

-- ---- a call that names a slot

asked_cred : (head : CallHead) (cred : Option GssCred) → cred_of head ≡ cred → asks_for RPCSEC_GSS_DATA cred ≡ true
    → (found : GssCred) × (cred_of head ≡ Some found) × (found.gss_proc ≡ RPCSEC_GSS_DATA)
asked_cred head None is h = absurd cc
asked_cred head (Some found) is h = (found, is, eqb-true found.gss_proc RPCSEC_GSS_DATA h)

-- only RPCSEC_GSS has such a credential
gss_flavor : (gss : Bool) (value : Option GssCred) (found : GssCred) → (if gss then value else None) ≡ Some found → gss ≡ true
gss_flavor true value found h = refl
gss_flavor false value found h = absurd cc

named_paired : (given : List ℕ) (gss_proc proc : ℕ) → gss_proc ≡ RPCSEC_GSS_DATA → proc ≡ PROC_COMPOUND → paired gss_proc proc given ≡ whats.Compound given
named_paired given gss_proc proc asks_data compound =
    ap (λ n. paired n proc given) asks_data ∙ ap (λ n. paired RPCSEC_GSS_DATA n given) compound

named_served : (fault : Option Stat) (what : What) (given : List ℕ) → what ≡ whats.Compound given → IsOpen (unless_fault fault what)
named_served None what given is = inr (given, is)
named_served (Some fault) what given is = inl tt

named_answer : (program : Program) (head : CallHead) (gss_proc : ℕ) → gss_proc ≡ RPCSEC_GSS_DATA → head.proc ≡ PROC_COMPOUND → (answer : Admit)
    → IsOpen (by_answer program head gss_proc answer)
named_answer program head gss_proc asks_data compound (admits.Admitted number seq given) =
    named_served (call_fault program head) (paired gss_proc head.proc given) given (named_paired given gss_proc head.proc asks_data compound)
named_answer program head gss_proc asks_data compound (admits.Dropped why) = inl tt
named_answer program head gss_proc asks_data compound (admits.Denied why) = inl tt
named_answer program head gss_proc asks_data compound (admits.BadBody number seq) = inl tt

module _ {P : Type 0} (mic : Mic) (now : ℕ) (program : Program) (head : CallHead) (body : List ℕ) (table : ContextTable P) where
  named_cred : (cred : GssCred) → cred.gss_proc ≡ RPCSEC_GSS_DATA → head.proc ≡ PROC_COMPOUND
      → IsOpen (gss_call mic now program head body table (Some cred)).what
  named_cred cred asks_data compound =
      let other : (cred.gss_proc == RPCSEC_GSS_INIT) ≡ false = ap (λ n. n == RPCSEC_GSS_INIT) asks_data in
      subst (λ (b : Bool). IsOpen (if b then without_context head (init_call program head cred body) else by_verdict program head cred.gss_proc (verdict_of mic now head body table)).what)
      (sym other) (named_answer program head cred.gss_proc asks_data compound (verdict_of mic now head body table).answer)

  named_version : (right : Bool) (cred : GssCred) → cred_of head ≡ Some cred → cred.gss_proc ≡ RPCSEC_GSS_DATA → head.proc ≡ PROC_COMPOUND
      → IsOpen (if right
      then (if head.cred.flavor == RPCSEC_GSS then gss_call mic now program head body table (cred_of head) else without_context head (other_call program head body))
      else without_context head (whats.Denied (Mismatch RPC_VERSION RPC_VERSION))).what
  named_version true cred is asks_data compound =
      let flavor : (head.cred.flavor == RPCSEC_GSS) ≡ true = gss_flavor (head.cred.flavor == RPCSEC_GSS) (value_of gss_cred head.cred.body) cred is in
      subst (λ (b : Bool). IsOpen (if b then gss_call mic now program head body table (cred_of head) else without_context head (other_call program head body)).what) (sym flavor)
      (subst (λ c. IsOpen (gss_call mic now program head body table c).what) (sym is) (named_cred cred asks_data compound))
  named_version false cred is asks_data compound = inl tt

  named_call : (cred : GssCred) → cred_of head ≡ Some cred → cred.gss_proc ≡ RPCSEC_GSS_DATA → head.proc ≡ PROC_COMPOUND
      → IsOpen (call_judged mic now program head body table).what
  unfolding call_judged
  named_call cred is asks_data compound = named_version (head.rpcvers == RPC_VERSION) cred is asks_data compound

asks_where : (asks : Bool) (slot : Option SlotName) (name : SlotName) → (if asks then slot else None) ≡ Some name → asks ≡ true
asks_where true slot name h = refl
asks_where false slot name h = absurd cc

-- a call that names a slot is a COMPOUND, or nothing that is sealed answers it
pub named_opens : {P : Type 0} (mic : Mic) (now : ℕ) (bytes : List ℕ) (table : ContextTable P) (call : Call) (name : SlotName)
    → judged_of mic now programs.NFS bytes table ≡ judged.Call call → slot_of bytes ≡ Some name → IsOpen call.what
named_opens mic now bytes table call name judged named =
    let r = call_is_read mic now programs.NFS bytes table call (heads_call bytes) refl judged in
    let body = drop r.at bytes in
    let asked = sym (ap slot_in (call_seen mic now programs.NFS bytes table call r)) ∙ named in
    let asks = asks_where (asks_compound (record { head = r.head; body = body })) (slot_asked (compound_of (carried_in body))) name asked in
    let parts = and_parts _ _ asks in
    let cred = asked_cred r.head (cred_of r.head) refl parts.1 in
    subst (λ (c : Call). IsOpen c.what) r.call_is
    (named_call mic now programs.NFS r.head body table cred.0 cred.1 cred.2 (eqb-true r.head.proc PROC_COMPOUND (and_parts _ _ parts.0).1))

-- ---- the head of a call has a spelling

gss_head : {P : Type 0} (mic : Mic) (now : ℕ) (program : Program) (head : CallHead) (body : List ℕ) (table : ContextTable P) (cred : Option GssCred)
    → (gss_call mic now program head body table cred).head ≡ head
gss_head mic now program head body table None = refl
gss_head mic now program head body table (Some cred) =
    elim (cred.gss_proc == RPCSEC_GSS_INIT) as (λ b. (if b then without_context head (init_call program head cred body) else by_verdict program head cred.gss_proc (verdict_of mic now head body table)).head ≡ head) [
      | true ↦ refl
      | false ↦ refl
    ]

flavor_head : {P : Type 0} (mic : Mic) (now : ℕ) (program : Program) (head : CallHead) (body : List ℕ) (table : ContextTable P) (gss right : Bool)
    → (if right then (if gss then gss_call mic now program head body table (cred_of head) else without_context head (other_call program head body))
    else without_context head (whats.Denied (Mismatch RPC_VERSION RPC_VERSION))).head ≡ head
flavor_head mic now program head body table true true = gss_head mic now program head body table (cred_of head)
flavor_head mic now program head body table false true = refl
flavor_head mic now program head body table gss false = refl

judged_head : {P : Type 0} (mic : Mic) (now : ℕ) (program : Program) (head : CallHead) (body : List ℕ) (table : ContextTable P)
    → (call_judged mic now program head body table).head ≡ head
unfolding call_judged
judged_head mic now program head body table = flavor_head mic now program head body table (head.cred.flavor == RPCSEC_GSS) (head.rpcvers == RPC_VERSION)

behind_ok : (told : Result (CallHead × Cursor) ℕ) (head : CallHead) (at : ℕ) → behind told ≡ Ok (head, at) → (c : Cursor) × (told ≡ Ok (head, c))
behind_ok (Ok read) head at h = (read.1, let same : read.0 ≡ head = head_is read head at h in ap (λ (x : CallHead). Ok (x, read.1)) same)
  where
    head_is : (read : CallHead × Cursor) (head : CallHead) (at : ℕ) → ◌≡◌ {A = Result (CallHead × ℕ) RpcFault} (Ok (read.0, read.1.at)) (Ok (head, at)) → read.0 ≡ head
    head_is read head at h = let both : (read.0, read.1.at) ≡ (head, at) = cc in ap (λ (p : CallHead × ℕ). p.0) both
behind_ok (Err place) head at h = absurd cc

other_ok : (other : ℕ) (kind : Option ℕ) (told : Result (CallHead × ℕ) RpcFault) (read : CallHead × ℕ) → unless_other other kind told ≡ Ok read → told ≡ Ok read
other_ok other None told read h = h
other_ok other (Some kind) told read h = by (kind == other) h
  where
    by : (b : Bool) → (if b then Err (OtherKind kind) else told) ≡ Ok read → told ≡ Ok read
    by true h = absurd cc
    by false h = h

pub call_fits : {P : Type 0} (mic : Mic) (now : ℕ) (bytes : List ℕ) (table : ContextTable P) (call : Call) → IsBytes bytes
    → judged_of mic now programs.NFS bytes table ≡ judged.Call call → heads.call.Fits call.head
call_fits mic now bytes table call fits judged =
    let r = call_is_read mic now programs.NFS bytes table call (heads_call bytes) refl judged in
    let read = behind_ok (heads.call.read (first bytes)) r.head r.at (other_ok REPLY (kind_of bytes) _ (r.head, r.at) r.told) in
    let same : call.head ≡ r.head = ap (λ (c : Call). c.head) (sym r.call_is) ∙ judged_head mic now programs.NFS r.head (drop r.at bytes) table in
    subst heads.call.Fits (sym same) (heads.call.lawful.takes (first bytes) r.head read.0 fits read.1).1
