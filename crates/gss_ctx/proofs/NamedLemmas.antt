-- An answer under a context is under the live one that the call's handle names.
use Rattle.std.specs.Prelude.{◌≡◌, ℕ, Bool, true, false, if◌then◌else◌, List, Option, None, Some, IfSome, IsSome, refl}
use Rattle.rpc_msg.specs.declared.call.CallHead.{CallHead}
use Rattle.rpc_msg.specs.declared.gss_cred.GssCred.{GssCred}
use Rattle.gss_ctx.specs.declared.context.Entry.{Entry}
use Rattle.gss_ctx.specs.declared.admit.Admit.{Admit}
use Rattle.gss_ctx.specs.declared.admit.Admit.TheVariants.{Denied}
use Rattle.gss_ctx.specs.declared.admit.Verdict.{Verdict}
use Rattle.gss_ctx.specs.Table.{ContextTable, AreDistinct, live_entry, context_of}
use Rattle.gss_ctx.specs.Seals.{Mic, cred_of}
use Rattle.gss_ctx.specs.Admission.{first_failing, is_served, number_rows, unseen, body_answer, unless_denied, past_number, on_entry, on_cred, verdict_of, number_of, IsNamed}
use Rattle.gss_ctx.proofs.OnceLemmas.{AdmitsNone, rows_none, service_none}
use Rattle.gss_ctx.proofs.KeptLemmas.{found_by_number}

named_answer : (Q : ℕ → Type 0) (number seq : ℕ) (denial : Option Admit) (args : Option (List ℕ)) → AdmitsNone denial → Q number
    → IfSome (number_of (unless_denied denial (body_answer number seq args))) Q
named_answer Q number seq None None none h = h
named_answer Q number seq None (Some args) none h = h
named_answer Q number seq (Some denial) args none h = rw none.1 tt

named_past : {P : Type 0} (Q : ℕ → Type 0) (mic : Mic) (cred : GssCred) (body : List ℕ) (entry : Entry P) (fault : Option Admit) → AdmitsNone fault → Q entry.number
    → IfSome (number_of (past_number mic cred body entry fault).answer) Q
named_past Q mic cred body entry (Some answer) none h = rw none.1 tt
named_past Q mic cred body entry None none h = named_answer Q entry.number cred.seq_num _ _ (service_none cred entry) h

named_entry : {P : Type 0} (mic : Mic) (now : ℕ) (head : CallHead) (body : List ℕ) (table : ContextTable P) (cred : GssCred) → AreDistinct table.entries
    → (found : Option (Entry P)) → live_entry table.boot now cred.handle table.entries ≡ found
    → IfSome (number_of (on_entry mic head body cred found).answer) (IsNamed now (Some cred) table)
named_entry mic now head body table cred distinct None is = tt
named_entry mic now head body table cred distinct (Some entry) is =
    named_past (IsNamed now (Some cred) table) mic cred body entry (first_failing (number_rows mic head cred entry)) (rows_none mic head cred entry)
    (entry, is, found_by_number _ table.entries entry distinct is)

named_served : (Q : ℕ → Type 0) (b : Bool) (verdict : Verdict) → IfSome (number_of verdict.answer) Q → IfSome (number_of (if b then verdict else unseen (Denied 1)).answer) Q
named_served Q true verdict h = h
named_served Q false verdict h = tt

named_cred : {P : Type 0} (mic : Mic) (now : ℕ) (head : CallHead) (body : List ℕ) (table : ContextTable P) → AreDistinct table.entries → (cred : Option GssCred)
    → IfSome (number_of (on_cred mic now head body table cred).answer) (IsNamed now cred table)
named_cred mic now head body table distinct None = tt
named_cred mic now head body table distinct (Some cred) =
    named_served (IsNamed now (Some cred) table) (is_served cred) (on_entry mic head body cred (live_entry table.boot now cred.handle table.entries))
    (named_entry mic now head body table cred distinct (live_entry table.boot now cred.handle table.entries) refl)

pub verdict_named : {P : Type 0} (mic : Mic) (now : ℕ) (head : CallHead) (body : List ℕ) (table : ContextTable P) → AreDistinct table.entries
    → IfSome (number_of (verdict_of mic now head body table).answer) (IsNamed now (cred_of head) table)
unfolding verdict_of
verdict_named mic now head body table distinct = named_cred mic now head body table distinct (cred_of head)

there_by : {P : Type 0} (now : ℕ) (table : ContextTable P) (cred : Option GssCred) (number : ℕ) → IsNamed now cred table number → IsSome (context_of number table.entries)
there_by now table None number h = absurd h
there_by now table (Some cred) number h = rw h.2 refl

there_if : {P : Type 0} (now : ℕ) (table : ContextTable P) (cred : Option GssCred) (number : Option ℕ) → IfSome number (IsNamed now cred table)
    → IfSome number (λ n. IsSome (context_of n table.entries))
there_if now table cred None h = tt
there_if now table cred (Some number) h = there_by now table cred number h

pub verdict_there : {P : Type 0} (mic : Mic) (now : ℕ) (head : CallHead) (body : List ℕ) (table : ContextTable P) → AreDistinct table.entries
    → IfSome (number_of (verdict_of mic now head body table).answer) (λ n. IsSome (context_of n table.entries))
verdict_there mic now head body table distinct = there_if now table (cred_of head) _ (verdict_named mic now head body table distinct)
