-- What an acceptor answers to a call of an established context: the first test that fails, in the table's
-- order (RFC 2203 section 5.3.3, RFC 7861 section 2).
use Rattle.std.specs.Prelude.{◌≡◌, ℕ, ◌^◌, ◌==◌, ◌||◌, ◌&&◌, Bool, not, nat_lt, nat_le, if◌then◌else◌, List, [], ◌∷◌, map, is_none, Option, Some, None, IfSome}
use Rattle.rpc_msg.specs.declared.call.CallHead.{CallHead}
use Rattle.rpc_msg.specs.declared.gss_cred.GssCred.{GssCred}
use Rattle.gss_ctx.specs.declared.context.Entry.{Entry}
use Rattle.gss_ctx.specs.declared.admit.Admit.{Admit}
use Rattle.gss_ctx.specs.declared.admit.Admit.TheVariants.{Admitted, Dropped, Denied, BadBody}
use Rattle.gss_ctx.specs.declared.admit.Why.TheVariants.{Repeat, Old}
use Rattle.gss_ctx.specs.declared.admit.Verdict.{Verdict}
use Rattle.gss_ctx.specs.Window.{is_below, has}
use Rattle.gss_ctx.specs.Table.{ContextTable, entry_of, live_entry, noted_on, used_on}
use Rattle.gss_ctx.specs.Seals.{Mic, cred_of, header_of, is_code, unsealed}
use Rattle.rpc_msg.specs.declared.numbers.TheConstants.{CALL, AUTH_BADCRED, AUTH_TOOWEAK, RPCSEC_GSS_CREDPROBLEM, RPCSEC_GSS_CTXPROBLEM, RPCSEC_GSS_DATA, RPCSEC_GSS_DESTROY, RPC_GSS_SVC_NONE, RPC_GSS_SVC_PRIVACY}
use Rattle.gss_mech.specs.declared.mechanism.TheConstants.{INITIATOR}
use Rattle.gss_ctx.specs.declared.numbers.TheConstants.{RPCSEC_GSS_CREATE, RPCSEC_GSS_VERSION_1, RPCSEC_GSS_VERSION_3}

-- a row of the table: what has to hold, and the answer where it doesn't
abbrev pub Row : Type 0
Row = Bool × Admit

abbrev pub first_failing : List Row → Option Admit
first_failing [] = None
first_failing (row ∷ rows) = if row.0 then first_failing rows else Some row.1

-- version 1 or 3; DATA, DESTROY or CREATE; no protection, integrity or privacy
abbrev pub is_served : GssCred → Bool
is_served cred =
    ((cred.version == RPCSEC_GSS_VERSION_1) || (cred.version == RPCSEC_GSS_VERSION_3))
    && ((cred.gss_proc == RPCSEC_GSS_DATA) || (cred.gss_proc == RPCSEC_GSS_DESTROY) || (cred.gss_proc == RPCSEC_GSS_CREATE))
    && nat_le RPC_GSS_SVC_NONE cred.service && nat_le cred.service RPC_GSS_SVC_PRIVACY

-- CREATE is of version 3, and not under a child
abbrev pub may_create : {P : Type 0} → GssCred → Entry P → Bool
may_create cred entry = not (cred.gss_proc == RPCSEC_GSS_CREATE) || ((cred.version == RPCSEC_GSS_VERSION_3) && is_none entry.context.parent)

-- the rows before the number is seen, and those after
abbrev pub number_rows : {P : Type 0} → Mic → CallHead → GssCred → Entry P → List Row
number_rows mic head cred entry =
    (nat_lt cred.seq_num (2 ^ 31), Denied RPCSEC_GSS_CTXPROBLEM)
    ∷ (is_code head.verf (mic entry.context.key INITIATOR (header_of CALL head)), Denied RPCSEC_GSS_CREDPROBLEM)
    ∷ (not (is_below entry.window cred.seq_num), Dropped Old)
    ∷ (not (has entry.window cred.seq_num), Dropped Repeat) ∷ []

abbrev pub service_rows : {P : Type 0} → GssCred → Entry P → List Row
service_rows cred entry =
    (not (cred.service == RPC_GSS_SVC_NONE), Denied AUTH_TOOWEAK)
    ∷ (not (cred.service == RPC_GSS_SVC_PRIVACY) && may_create cred entry, Denied AUTH_BADCRED) ∷ []

-- the answer, and the context and number that are seen with it
abbrev pub unseen : Admit → Verdict
unseen answer = record { answer = answer; seen = None }

abbrev pub body_answer : ℕ → ℕ → Option (List ℕ) → Admit
body_answer number seq None = BadBody number seq
body_answer number seq (Some args) = Admitted number seq args

abbrev pub unless_denied : Option Admit → Admit → Admit
unless_denied None answer = answer
unless_denied (Some denial) answer = denial

-- what is answered once the number is seen
abbrev pub seen_answer : {P : Type 0} → Mic → GssCred → List ℕ → Entry P → Admit
seen_answer mic cred body entry =
    unless_denied (first_failing (service_rows cred entry)) (body_answer entry.number cred.seq_num (unsealed (mic entry.context.key INITIATOR) cred.seq_num body))

abbrev pub past_number : {P : Type 0} → Mic → GssCred → List ℕ → Entry P → Option Admit → Verdict
past_number mic cred body entry (Some answer) = unseen answer
past_number mic cred body entry None = record { answer = seen_answer mic cred body entry; seen = Some (entry.number, cred.seq_num) }

abbrev pub on_entry : {P : Type 0} → Mic → CallHead → List ℕ → GssCred → Option (Entry P) → Verdict
on_entry mic head body cred None = unseen (Denied RPCSEC_GSS_CREDPROBLEM)
on_entry mic head body cred (Some entry) = past_number mic cred body entry (first_failing (number_rows mic head cred entry))

abbrev pub on_cred : {P : Type 0} → Mic → ℕ → CallHead → List ℕ → ContextTable P → Option GssCred → Verdict
on_cred mic now head body table None = unseen (Denied AUTH_BADCRED)
on_cred mic now head body table (Some cred) =
    if is_served cred
    then on_entry mic head body cred (live_entry table.boot now cred.handle table.entries)
    else unseen (Denied AUTH_BADCRED)

-- the answer to a call with this head and this body
unfoldable pub verdict_of : {P : Type 0} → Mic → ℕ → CallHead → List ℕ → ContextTable P → Verdict
verdict_of mic now head body table = on_cred mic now head body table (cred_of head)

-- the context under which it is answered: that of an admission, or of a body that isn't right
abbrev pub number_of : Admit → Option ℕ
number_of (Admitted number seq args) = Some number
number_of (BadBody number seq) = Some number
number_of _ = None

-- a number is that of the live context that a credential names
abbrev pub IsNamed : {P : Type 0} → ℕ → Option GssCred → ContextTable P → ℕ → Type 0
IsNamed now None table number = ⊥
IsNamed {P} now (Some cred) table number = (entry : Entry P) × (live_entry table.boot now cred.handle table.entries ≡ Some entry) × (entry_of number table.entries ≡ Some entry)

-- What it leaves: the number is seen, and where the call is admitted its context and the parent are used.
abbrev pub with_seen : {P : Type 0} → Option (ℕ × ℕ) → List (Entry P) → List (Entry P)
with_seen None entries = entries
with_seen (Some seen) entries = map (noted_on seen.0 seen.1) entries

abbrev pub parent_in : {P : Type 0} → Option (Entry P) → Option ℕ
parent_in None = None
parent_in (Some e) = e.context.parent

abbrev pub parent_of : {P : Type 0} → ℕ → List (Entry P) → Option ℕ
parent_of number entries = parent_in (entry_of number entries)

abbrev pub with_use : {P : Type 0} → ℕ → Admit → List (Entry P) → List (Entry P)
with_use now (Admitted number seq args) entries = map (used_on number (parent_of number entries) now) entries
with_use now _ entries = entries

abbrev pub after_verdict : {P : Type 0} → ℕ → Verdict → ContextTable P → ContextTable P
after_verdict now verdict table = record table { entries = with_use now verdict.answer (with_seen verdict.seen table.entries) }

-- an admission sees its number, and CREATE is admitted under a context that isn't a child
abbrev pub IsGranted : {P : Type 0} → Option GssCred → List (Entry P) → Option (ℕ × ℕ) → Admit → Type 0
IsGranted cred entries seen (Admitted number seq args) =
    (seen ≡ Some (number, seq)) × IfSome cred (λ c. c.gss_proc ≡ RPCSEC_GSS_CREATE → parent_of number entries ≡ None)
IsGranted cred entries seen _ = Unit {0}
