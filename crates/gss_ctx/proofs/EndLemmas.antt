-- The two ends of a context take what each other seals.
use Rattle.std.specs.Prelude.{◌≡◌, ℕ, ◌+◌, ◌<◌, ◌^◌, ◌==◌, ◌||◌, ◌&&◌, Bool, true, false, not, nat_lt, nat_le, if◌then◌else◌, List, ◌++◌, length, Option, None, Some, Result, Ok, refl}
use Rattle.std.proofs.Common.{sym, ◌∙◌, ap, subst, arith, zero-add, lit<, inl, inr}
use Rattle.std.proofs.Math.Seq.{drop-append_seam}
use Rattle.std.proofs.lemmas.Bool.{lt-ltb, eqb-true, eq-eqb, or_cases, and_parts}
use Rattle.wire_xdr.specs.Words.{word_bytes}
use Rattle.wire_xdr.specs.AllLaws.{spelled_value}
use Rattle.rpc_msg.specs.Heads.{auth, call, reply, stat}
use Rattle.rpc_msg.specs.GssCred.{gss_cred}
use Rattle.rpc_msg.specs.Messages.{head_told, kind_of, behind, unless_other, first}
use Rattle.rpc_msg.specs.declared.call.CallHead.{CallHead}
use Rattle.rpc_msg.specs.declared.gss_cred.GssCred.{GssCred}
use Rattle.rpc_msg.specs.declared.messages.RpcFault.{RpcFault}
use Rattle.rpc_msg.specs.declared.reply.ReplyHead.{ReplyHead}
use Rattle.rpc_msg.specs.declared.reply.ReplyHead.TheVariants as heads
use Rattle.rpc_msg.specs.declared.reply.Stat.{Stat}
use Rattle.rpc_msg.specs.declared.reply.Stat.TheVariants.{Success}
use Rattle.gss_ctx.specs.declared.context.Entry.{Entry}
use Rattle.gss_ctx.specs.declared.admit.Admit.{Admit}
use Rattle.gss_ctx.specs.declared.admit.Admit.TheVariants.{Admitted, Dropped, Denied}
use Rattle.gss_ctx.specs.declared.admit.Why.TheVariants.{Repeat, Old}
use Rattle.gss_ctx.specs.declared.admit.Verdict.{Verdict}
use Rattle.gss_ctx.specs.declared.caller.Checked.TheVariants as checked
use Rattle.gss_ctx.specs.Window.{is_below, has}
use Rattle.gss_ctx.specs.Table.{ContextTable, live_entry}
use Rattle.gss_ctx.specs.Seals.{Mic, cred_of, header_of, is_code, code_auth, sealed_body, unsealed, reply_code, reply_front, sealed_reply}
use Rattle.gss_ctx.specs.Admission.{first_failing, is_served, may_create, number_rows, service_rows, seen_answer, body_answer, unless_denied, past_number, on_entry, on_cred, unseen, verdict_of}
use Rattle.gss_ctx.specs.Calls.{Side, call_cred, verified, sealed_of}
use Rattle.gss_ctx.specs.Ends.{IsOpenTo, next_head, sent_head, verdict_read, verdict_on, admission}
use Rattle.gss_ctx.specs.Replies.{checked_of, of_read, of_head, of_stat, result_of}
use Rattle.gss_ctx.proofs.SealLemmas.{same_bytes, carried_by}
use Rattle.gss_ctx.proofs.CredLemmas.{short_cred}

-- ---- the credential of a call that is served

equals : (n m : ℕ) → m < 2 ^ 32 → (n == m) ≡ true → n < 2 ^ 32
equals n m lt h = subst (λ k. k < 2 ^ 32) (sym (eqb-true n m h)) lt

one_of_two : (n a b : ℕ) → a < 2 ^ 32 → b < 2 ^ 32 → ((n == a) || (n == b)) ≡ true → n < 2 ^ 32
one_of_two n a b x y h =
    elim (or_cases (n == a) (n == b) h) [
      | inl is ↦ equals n a x is
      | inr is ↦ equals n b y is
    ]

one_of_three : (n a b c : ℕ) → a < 2 ^ 32 → b < 2 ^ 32 → c < 2 ^ 32 → ((n == a) || (n == b) || (n == c)) ≡ true → n < 2 ^ 32
one_of_three n a b c x y z h =
    elim (or_cases ((n == a) || (n == b)) (n == c) h) [
      | inl is ↦ one_of_two n a b x y is
      | inr is ↦ equals n c z is
    ]

served_fits : (cred : GssCred) → cred.seq_num < 2 ^ 31 → cred.service ≡ 2 → length cred.handle ≡ 8 → is_served cred ≡ true → gss_cred.Fits cred
unfolding gss_cred
served_fits cred small service len h =
    let version : Bool = (cred.version == 1) || (cred.version == 3) in
    let procedure : Bool = (cred.gss_proc == 0) || (cred.gss_proc == 3) || (cred.gss_proc == 5) in
    let all = and_parts (version && procedure && nat_le 1 cred.service) (nat_le cred.service 3) h in
    let front = and_parts (version && procedure) (nat_le 1 cred.service) all.0 in
    let both = and_parts version procedure front.0 in
    (one_of_two cred.version 1 3 (lit< tt) (lit< tt) both.0, (one_of_three cred.gss_proc 0 3 5 (lit< tt) (lit< tt) (lit< tt) both.1, (omega arith, (omega arith, omega arith))))

sent_cred : (mic : Mic) (side : Side) (head : CallHead) (asked : GssCred) → gss_cred.Fits (call_cred side.handle side.next asked) → cred_of (sent_head mic side head asked) ≡ Some (call_cred side.handle side.next asked)
sent_cred mic side head asked fits = spelled_value gss_cred (call_cred side.handle side.next asked) fits

-- ---- the head of a call, as it is read

sent_fits : (mic : Mic) (side : Side) (head : CallHead) (asked : GssCred) → ((bytes : List ℕ) → length (mic side.key 0 bytes) ≡ 32) → length side.handle ≡ 8 → call.Fits head → call.Fits (sent_head mic side head asked)
unfolding call auth
sent_fits mic side head asked sized len fits =
    let short = short_cred (call_cred side.handle side.next asked) (omega arith) in
    let code = sized (header_of 0 (next_head side head asked)) in
    (fits.0, (fits.1.0, (fits.1.1.0, ((lit< tt, short), (lit< tt, omega arith)))))

call_kind : (head : CallHead) (body : List ℕ) → kind_of (call.spell head ++ body) ≡ Some 0
unfolding call word_bytes
call_kind head body = refl

call_read : (head : CallHead) (body : List ℕ) → call.Fits head → head_told call 1 (call.spell head ++ body) ≡ Ok (head, length (call.spell head))
call_read head body fits =
    ap (λ (k : Option ℕ). unless_other 1 k (behind (call.read (first (call.spell head ++ body))))) (call_kind head body)
    ∙ ap behind (call.lawful.again 0 head body fits)
    ∙ ap (λ (n : ℕ). Ok (head, n)) (zero-add (length (call.spell head)))

-- ---- the rows of the table

header_same : (mic : Mic) (key : List ℕ) (kind : ℕ) (head : CallHead) → header_of kind (verified mic key head) ≡ header_of kind head
unfolding header_of
header_same mic key kind head = refl

own_code : (code : List ℕ) → is_code (code_auth code) code ≡ true
own_code code = same_bytes code

none_fails : (a b c d : Bool) → a ≡ true → b ≡ true → c ≡ false → d ≡ false
    → (if a then (if b then (if not c then (if not d then None else Some (Dropped Repeat)) else Some (Dropped Old)) else Some (Denied 13)) else Some (Denied 14)) ≡ None
none_fails a b c d p q r s = rw (p, q, r, s) refl

or_none : (a b : Bool) → (a || b) ≡ false → (a ≡ false) × (b ≡ false)
or_none true b h = absurd cc
or_none false b h = (refl, h)

rows_pass : {P : Type 0} (mic : Mic) (now : ℕ) (table : ContextTable P) (side : Side) (head : CallHead) (asked : GssCred) (entry : Entry P) → IsOpenTo now table side asked entry
    → first_failing (number_rows mic (sent_head mic side head asked) (call_cred side.handle side.next asked) entry) ≡ None
rows_pass mic now table side head asked entry is =
    let sent = sent_head mic side head asked in
    let code : is_code sent.verf (mic entry.context.key 0 (header_of 0 sent)) ≡ true =
    subst (λ (k : List ℕ). is_code sent.verf (mic k 0 (header_of 0 sent)) ≡ true) (sym is.key)
    (subst (λ (h : List ℕ). is_code sent.verf (mic side.key 0 h) ≡ true) (sym (header_same mic side.key 0 (next_head side head asked))) (own_code (mic side.key 0 (header_of 0 (next_head side head asked))))) in
    let shut = or_none (is_below entry.window side.next) (has entry.window side.next) is.unseen in
    none_fails (nat_lt side.next (2 ^ 31)) (is_code sent.verf (mic entry.context.key 0 (header_of 0 sent))) (is_below entry.window side.next) (has entry.window side.next)
    (lt-ltb side.next (2 ^ 31) is.left) code shut.0 shut.1

services_pass : {P : Type 0} (side : Side) (asked : GssCred) (entry : Entry P) → may_create (call_cred side.handle side.next asked) entry ≡ true → first_failing (service_rows (call_cred side.handle side.next asked) entry) ≡ None
services_pass side asked entry creates = ap (λ (b : Bool). if b then None else Some (Denied 1)) creates

pub sealed_is_admitted : {P : Type 0} (mic : Mic) (now : ℕ) (table : ContextTable P) (side : Side) (head : CallHead) (asked : GssCred) (args : List ℕ) (entry : Entry P)
    → ((key : List ℕ) (side : ℕ) (bytes : List ℕ) → length (mic key side bytes) ≡ 32) → IsOpenTo now table side asked entry → call.Fits head → length args + 4 < 4294967296
    → verdict_on mic now (sealed_of mic side (next_head side head asked) args).bytes table ≡ Ok (admission entry.number side.next args)
unfolding verdict_of
sealed_is_admitted {P} mic now table side head asked args entry sized is fits small =
    let cred = call_cred side.handle side.next asked in
    let sent = sent_head mic side head asked in
    let body = sealed_body (mic side.key 0) side.next args in
    let message = call.spell sent ++ body in
    let cred_is = sent_cred mic side head asked (served_fits cred is.left refl is.handle is.served) in
    let carried : unsealed (mic entry.context.key 0) side.next body ≡ Some args =
    subst (λ (k : List ℕ). unsealed (mic k 0) side.next body ≡ Some args) (sym is.key) (carried_by (mic side.key 0) side.next body args (sized side.key 0) small refl) in
    let answer : seen_answer mic cred body entry ≡ Admitted entry.number side.next args =
    ap (λ (d : Option Admit). unless_denied d (body_answer entry.number side.next (unsealed (mic entry.context.key 0) side.next body))) (services_pass side asked entry is.creates)
    ∙ ap (λ (o : Option (List ℕ)). body_answer entry.number side.next o) carried in
    let verdict : verdict_of mic now sent body table ≡ admission entry.number side.next args =
    ap (λ (o : Option GssCred). on_cred mic now sent body table o) cred_is
    ∙ ap (λ (b : Bool). if b then on_entry mic sent body cred (live_entry table.boot now side.handle table.entries) else unseen (Denied 1)) is.served
    ∙ ap (λ (o : Option (Entry P)). on_entry mic sent body cred o) is.found
    ∙ ap (λ (o : Option Admit). past_number mic cred body entry o) (rows_pass mic now table side head asked entry is)
    ∙ ap (λ (a : Admit). record { answer = a; seen = Some (entry.number, side.next) }) answer in
    ap (λ (r : Result (CallHead × ℕ) RpcFault). verdict_read mic now message table r) (call_read sent body (sent_fits mic side head asked (sized side.key 0) is.handle fits))
    ∙ ap (λ (b : List ℕ). Ok (verdict_of mic now sent b table)) (drop-append_seam (call.spell sent) body)
    ∙ ap (λ (v : Verdict). Ok v) verdict

-- ---- the reply

reply_kind : (head : ReplyHead) (body : List ℕ) → kind_of (reply.spell head ++ body) ≡ Some 1
unfolding reply word_bytes
reply_kind head body = refl

reply_read : (head : ReplyHead) (body : List ℕ) → reply.Fits head → head_told reply 0 (reply.spell head ++ body) ≡ Ok (head, length (reply.spell head))
reply_read head body fits =
    ap (λ (k : Option ℕ). unless_other 0 k (behind (reply.read (first (reply.spell head ++ body))))) (reply_kind head body)
    ∙ ap behind (reply.lawful.again 0 head body fits)
    ∙ ap (λ (n : ℕ). Ok (head, n)) (zero-add (length (reply.spell head)))

pub front_fits : (xid : ℕ) (code : List ℕ) (what : Stat) → xid < 2 ^ 32 → length code ≡ 32 → stat.Fits what → reply.Fits (heads.Accepted xid (code_auth code) what)
unfolding reply auth
front_fits xid code what small len fits = (small, (lit< tt, (lit< tt, ((lit< tt, omega arith), fits))))

result_fits : (xid : ℕ) (code : List ℕ) → xid < 2 ^ 32 → length code ≡ 32 → reply.Fits (heads.Accepted xid (code_auth code) Success)
unfolding stat
result_fits xid code small len = front_fits xid code Success small len (lit< tt, tt)

code_same : (mic : Mic) (key : List ℕ) (head : CallHead) (seq : ℕ) → reply_code mic key (verified mic key head) seq ≡ reply_code mic key head seq
unfolding reply_code header_of
code_same mic key head seq = refl

pub code_sized : (mic : Mic) (key : List ℕ) (head : CallHead) (seq : ℕ) → ((key : List ℕ) (side : ℕ) (bytes : List ℕ) → length (mic key side bytes) ≡ 32) → length (reply_code mic key head seq) ≡ 32
unfolding reply_code
code_sized mic key head seq sized = sized key 1 _

pub xid_of : (head : CallHead) → call.Fits head → head.xid < 2 ^ 32
unfolding call
xid_of head fits = fits.0

pub sealed_is_result : (mic : Mic) (side : Side) (head : CallHead) (asked : GssCred) (args result : List ℕ)
    → ((key : List ℕ) (side : ℕ) (bytes : List ℕ) → length (mic key side bytes) ≡ 32) → call.Fits head → length result + 4 < 4294967296
    → checked_of mic side.key (sealed_of mic side (next_head side head asked) args).awaited (sealed_reply mic side.key (sent_head mic side head asked) side.next result) ≡ checked.Result result
unfolding checked_of sealed_reply reply_front reply
sealed_is_result mic side head asked args result sized fits small =
    let sent = sent_head mic side head asked in
    let code = reply_code mic side.key sent side.next in
    let awaited = (sealed_of mic side (next_head side head asked) args).awaited in
    let body = sealed_body (mic side.key 1) side.next result in
    let answer = heads.Accepted head.xid (code_auth code) Success in
    let message = reply.spell answer ++ body in
    let fits_reply = result_fits head.xid code (xid_of head fits) (code_sized mic side.key sent side.next sized) in
    let right : is_code (code_auth code) awaited.code ≡ true = subst (λ (k : List ℕ). is_code (code_auth code) k ≡ true) (code_same mic side.key (next_head side head asked) side.next) (own_code code) in
    ap (λ (r : Result (ReplyHead × ℕ) RpcFault). of_read mic side.key awaited message r) (reply_read answer body fits_reply)
    ∙ ap (λ (b : List ℕ). of_head mic side.key awaited b answer) (drop-append_seam (reply.spell answer) body)
    ∙ ap (λ (b : Bool). if b then of_stat mic side.key awaited body (code_auth code) Success else checked.Unmatched) (eq-eqb head.xid head.xid refl)
    ∙ ap (λ (b : Bool). if b then result_of (unsealed (mic side.key 1) side.next body) else checked.Unmatched) right
    ∙ ap (λ (o : Option (List ℕ)). result_of o) (carried_by (mic side.key 1) side.next body result (sized side.key 1) small refl)
