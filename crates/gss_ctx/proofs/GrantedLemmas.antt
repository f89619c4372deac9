-- An admission sees its number, and CREATE is admitted under a context that isn't a child.
use Rattle.std.specs.Prelude.{◌≡◌, ℕ, ◌==◌, ◌||◌, ◌&&◌, Bool, true, false, not, if◌then◌else◌, List, is_none, Option, None, Some, refl}
use Rattle.std.proofs.Common.{sym, ◌∙◌}
use Rattle.std.proofs.lemmas.Bool.{and_parts}
use Rattle.rpc_msg.specs.declared.call.CallHead.{CallHead}
use Rattle.rpc_msg.specs.declared.gss_cred.GssCred.{GssCred}
use Rattle.gss_ctx.specs.declared.context.Entry.{Entry}
use Rattle.gss_ctx.specs.declared.admit.Admit.{Admit}
use Rattle.gss_ctx.specs.declared.admit.Admit.TheVariants.{Admitted, Denied}
use Rattle.gss_ctx.specs.declared.admit.Verdict.{Verdict}
use Rattle.gss_ctx.specs.Table.{ContextTable, AreDistinct, entry_of, live_entry}
use Rattle.gss_ctx.specs.Seals.{Mic, cred_of}
use Rattle.gss_ctx.specs.Admission.{first_failing, is_served, may_create, number_rows, service_rows, unseen, body_answer, unless_denied, past_number, on_entry, on_cred, verdict_of, parent_in, parent_of, IsGranted}
use Rattle.gss_ctx.specs.Once.{admitted_by}
use Rattle.gss_ctx.proofs.OnceLemmas.{AdmitsNone, rows_none, service_none}
use Rattle.gss_ctx.proofs.KeptLemmas.{found_by_number}

-- ---- what may create isn't a child

passes : (a b : Bool) → (if a then (if b then None else Some (Denied 1)) else Some (Denied 5)) ≡ None → b ≡ true
passes true true h = refl
passes true false h = let wrong : ⊥ = cc in absurd wrong
passes false b h = let wrong : ⊥ = cc in absurd wrong

parent_none : (p : ℕ) (b : Bool) (o : Option ℕ) → p ≡ 5 → (not (p == 5) || (b && is_none o)) ≡ true → o ≡ None
parent_none p b None is h = refl
parent_none p true (Some n) is h = let wrong : false ≡ true = rw is at h in let no : ⊥ = cc in absurd no
parent_none p false (Some n) is h = let wrong : false ≡ true = rw is at h in let no : ⊥ = cc in absurd no

may_parent : {P : Type 0} (cred : GssCred) (entry : Entry P) → first_failing (service_rows cred entry) ≡ None → cred.gss_proc ≡ 5 → entry.context.parent ≡ None
may_parent cred entry none is =
    parent_none cred.gss_proc (cred.version == 3) entry.context.parent is
    (and_parts (not (cred.service == 3)) (may_create cred entry) (passes (not (cred.service == 1)) (not (cred.service == 3) && may_create cred entry) none)).1

-- ---- along the rows

granted_none : {P : Type 0} (cred : Option GssCred) (entries : List (Entry P)) (seen : Option (ℕ × ℕ)) (answer : Admit) → admitted_by answer ≡ None → IsGranted cred entries seen answer
granted_none cred entries seen (Admitted number seq args) h = let wrong : ⊥ = cc in absurd wrong
granted_none cred entries seen _ h = tt

granted_answer : {P : Type 0} (cred : GssCred) (entry : Entry P) (entries : List (Entry P)) (denial : Option Admit) (args : Option (List ℕ)) → AdmitsNone denial
    → (denial ≡ None → cred.gss_proc ≡ 5 → parent_of entry.number entries ≡ None)
    → IsGranted (Some cred) entries (Some (entry.number, cred.seq_num)) (unless_denied denial (body_answer entry.number cred.seq_num args))
granted_answer cred entry entries None None none h = tt
granted_answer cred entry entries None (Some args) none h = (refl, h refl)
granted_answer cred entry entries (Some denial) args none h = granted_none (Some cred) entries _ denial none.0

granted_past : {P : Type 0} (mic : Mic) (cred : GssCred) (body : List ℕ) (entry : Entry P) (entries : List (Entry P)) (fault : Option Admit) → AdmitsNone fault
    → entry_of entry.number entries ≡ Some entry
    → IsGranted (Some cred) entries (past_number mic cred body entry fault).seen (past_number mic cred body entry fault).answer
granted_past mic cred body entry entries (Some answer) none found = granted_none (Some cred) entries None answer none.0
granted_past mic cred body entry entries None none found =
    granted_answer cred entry entries (first_failing (service_rows cred entry)) _ (service_none cred entry)
    (λ passed is. rw found (may_parent cred entry passed is))

granted_entry : {P : Type 0} (mic : Mic) (now : ℕ) (head : CallHead) (body : List ℕ) (table : ContextTable P) (cred : GssCred) → AreDistinct table.entries
    → (found : Option (Entry P)) → live_entry table.boot now cred.handle table.entries ≡ found
    → IsGranted (Some cred) table.entries (on_entry mic head body cred found).seen (on_entry mic head body cred found).answer
granted_entry mic now head body table cred distinct None is = tt
granted_entry mic now head body table cred distinct (Some entry) is =
    granted_past mic cred body entry table.entries (first_failing (number_rows mic head cred entry)) (rows_none mic head cred entry)
    (found_by_number _ table.entries entry distinct is)

granted_served : {P : Type 0} (cred : Option GssCred) (entries : List (Entry P)) (b : Bool) (verdict : Verdict) → IsGranted cred entries verdict.seen verdict.answer
    → IsGranted cred entries (if b then verdict else unseen (Denied 1)).seen (if b then verdict else unseen (Denied 1)).answer
granted_served cred entries true verdict h = h
granted_served cred entries false verdict h = tt

granted_cred : {P : Type 0} (mic : Mic) (now : ℕ) (head : CallHead) (body : List ℕ) (table : ContextTable P) → AreDistinct table.entries → (cred : Option GssCred)
    → IsGranted cred table.entries (on_cred mic now head body table cred).seen (on_cred mic now head body table cred).answer
granted_cred mic now head body table distinct None = tt
granted_cred mic now head body table distinct (Some cred) =
    granted_served (Some cred) table.entries (is_served cred) (on_entry mic head body cred (live_entry table.boot now cred.handle table.entries))
    (granted_entry mic now head body table cred distinct (live_entry table.boot now cred.handle table.entries) refl)

pub verdict_granted : {P : Type 0} (mic : Mic) (now : ℕ) (head : CallHead) (body : List ℕ) (table : ContextTable P) → AreDistinct table.entries
    → IsGranted (cred_of head) table.entries (verdict_of mic now head body table).seen (verdict_of mic now head body table).answer
unfolding verdict_of
verdict_granted mic now head body table distinct = granted_cred mic now head body table distinct (cred_of head)
