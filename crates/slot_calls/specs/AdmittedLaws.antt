-- What is known of a call that a context admitted.
use Rattle.std.proofs.Common.{◌≡◌, ℕ, Bool, true, false, cond, List, [], ◌∷◌, Option, Some, None, refl, sym, ap, subst, ◌∙◌}
use Rattle.std.specs.Prelude.{◌==◌, ◌≢◌, find, if◌then◌else◌}
use Rattle.std.specs.List.{AllByRecursion}
use Rattle.std.proofs.lemmas.Bool.{eq-eqb, ne_eqb}
use Rattle.gss_ctx.specs.Admission.{Row, body_answer, first_failing, is_served, number_rows, on_cred, on_entry, past_number, service_rows, unless_denied, unseen, verdict_of}
use Rattle.gss_ctx.specs.Seals.{Mic, cred_of, unsealed}
use Rattle.gss_ctx.specs.Table.{AreDistinct, ContextTable, entry_of, is_named, live_entry}
use Rattle.gss_ctx.specs.declared.admit.Admit.{Admit}
use Rattle.gss_ctx.specs.declared.admit.Admit.TheVariants.{Admitted, Denied}
use Rattle.gss_ctx.specs.declared.context.Entry.{Entry}
use Rattle.gss_mech.specs.declared.mechanism.TheConstants.{INITIATOR}
use Rattle.rpc_msg.specs.declared.call.CallHead.{CallHead}
use Rattle.rpc_msg.specs.declared.gss_cred.GssCred.{GssCred}
use Rattle.rpc_msg.specs.declared.numbers.TheConstants.{AUTH_BADCRED}

-- ---- rows that fail

abbrev Admits : Option Admit → (number seq : ℕ) → (args : List ℕ) → Type 0
Admits told number seq args = told ≡ Some (Admitted number seq args)

-- each row's answer is another than an admission
abbrev NoneAdmits : List Row → Type 0
NoneAdmits [] = Unit {0}
NoneAdmits (row ∷ rows) = ((number seq : ℕ) (args : List ℕ) → row.1 ≡ Admitted number seq args → ⊥) × NoneAdmits rows

some_is : {A : Type 0} (a b : A) → Some a ≡ Some b → a ≡ b
some_is a b same = cc

-- so the first that fails admits nothing
failing_admits : (rows : List Row) → NoneAdmits rows → (number seq : ℕ) (args : List ℕ) → Admits (first_failing rows) number seq args → ⊥
failing_admits [] none number seq args h = absurd cc
failing_admits (row ∷ rows) none number seq args h = by row.0 h (failing_admits rows none.1 number seq args)
  where
    by : (b : Bool) → Admits (if b then first_failing rows else Some row.1) number seq args → (Admits (first_failing rows) number seq args → ⊥) → ⊥
    by true h later = later h
    by false h later = none.0 number seq args (some_is row.1 _ h)

denied_admits : (why number seq : ℕ) (args : List ℕ) → Denied why ≡ Admitted number seq args → ⊥
denied_admits why number seq args h = absurd cc

module _ {P : Type 0} (mic : Mic) (head : CallHead) (cred : GssCred) (entry : Entry P) where
  number_rows_admit : NoneAdmits (number_rows mic head cred entry)
  number_rows_admit = (λ n s given h. absurd cc, (λ n s given h. absurd cc, (λ n s given h. absurd cc, (λ n s given h. absurd cc, tt))))

  service_rows_admit : NoneAdmits (service_rows cred entry)
  service_rows_admit = (λ n s given h. absurd cc, (λ n s given h. absurd cc, tt))

-- ---- an admission

-- The context that the credential names admits the arguments that its body carries.
pub record IsAdmittedBy {P : Type 0} (mic : Mic) (now : ℕ) (body : List ℕ) (table : ContextTable P) (cred : GssCred) (number seq : ℕ) (args : List ℕ) : Type 0 where
  pub entry : Entry P
  pub live : live_entry table.boot now cred.handle table.entries ≡ Some entry
  pub number_is : entry.number ≡ number
  pub seq_is : cred.seq_num ≡ seq
  pub carries : unsealed (mic entry.context.key INITIATOR) cred.seq_num body ≡ Some args

record IsCarried (number seq : ℕ) (payload : Option (List ℕ)) (n s : ℕ) (args : List ℕ) : Type 0 where
  number_is : number ≡ n
  seq_is : seq ≡ s
  carries : payload ≡ Some args

body_admits : (number seq : ℕ) (payload : Option (List ℕ)) (n s : ℕ) (args : List ℕ) → body_answer number seq payload ≡ Admitted n s args
    → IsCarried number seq payload n s args
body_admits number seq None n s args h = absurd cc
body_admits number seq (Some found) n s args h = record { number_is = cc; seq_is = cc; carries = cc }

unless_admits : (rows : List Row) → NoneAdmits rows → (denial : Option Admit) → first_failing rows ≡ denial → (answer : Admit) (n s : ℕ) (args : List ℕ)
    → unless_denied denial answer ≡ Admitted n s args → answer ≡ Admitted n s args
unless_admits rows none None failing answer n s args h = h
unless_admits rows none (Some denial) failing answer n s args h = absurd (failing_admits rows none n s args (failing ∙ ap Some h))

module _ {P : Type 0} (mic : Mic) (now : ℕ) (head : CallHead) (body : List ℕ) (table : ContextTable P) (n s : ℕ) (args : List ℕ) where
  past_admits : (cred : GssCred) (entry : Entry P) (denial : Option Admit) → first_failing (number_rows mic head cred entry) ≡ denial
      → (past_number mic cred body entry denial).answer ≡ Admitted n s args
      → IsCarried entry.number cred.seq_num (unsealed (mic entry.context.key INITIATOR) cred.seq_num body) n s args
  past_admits cred entry None failing h =
      body_admits entry.number cred.seq_num _ n s args
      (unless_admits (service_rows cred entry) (service_rows_admit mic head cred entry) (first_failing (service_rows cred entry)) refl _ n s args h)
  past_admits cred entry (Some answer) failing h =
      absurd (failing_admits (number_rows mic head cred entry) (number_rows_admit mic head cred entry) n s args (failing ∙ ap Some h))

  entry_admits : (cred : GssCred) (found : Option (Entry P)) → live_entry table.boot now cred.handle table.entries ≡ found
      → (on_entry mic head body cred found).answer ≡ Admitted n s args → IsAdmittedBy mic now body table cred n s args
  entry_admits cred None live h = absurd cc
  entry_admits cred (Some entry) live h =
      let told = past_admits cred entry (first_failing (number_rows mic head cred entry)) refl h in
      record { entry = entry; live = live; number_is = told.number_is; seq_is = told.seq_is; carries = told.carries }

  served_admits : (served : Bool) (cred : GssCred)
      → (if served then on_entry mic head body cred (live_entry table.boot now cred.handle table.entries) else unseen (Denied AUTH_BADCRED)).answer ≡ Admitted n s args
      → IsAdmittedBy mic now body table cred n s args
  served_admits true cred h = entry_admits cred (live_entry table.boot now cred.handle table.entries) refl h
  served_admits false cred h = absurd cc

  pub verdict_admits : (cred : GssCred) → cred_of head ≡ Some cred → (verdict_of mic now head body table).answer ≡ Admitted n s args
      → IsAdmittedBy mic now body table cred n s args
  unfolding verdict_of
  verdict_admits cred is h =
      let here : (on_cred mic now head body table (Some cred)).answer ≡ Admitted n s args =
      ap (λ c. (on_cred mic now head body table c).answer) (sym is) ∙ h in
      served_admits (is_served cred) cred here

-- ---- its context is there

found_holds : {X : Type 0} (Q : X → Type 0) (test : X → Bool) (xs : List X) (x : X) → AllByRecursion Q xs → find test xs ≡ Some x → Q x
found_holds Q test [] x all h = absurd cc
found_holds {X} Q test (y ∷ ys) x all h = by (test y) h (found_holds Q test ys x all.1)
  where
    by : (b : Bool) → cond b (Some y) (find test ys) ≡ Some x → (find test ys ≡ Some x → Q x) → Q x
    by true h later = subst Q (some_is y x h) all.0
    by false h later = later h

pub live_there : {P : Type 0} (boot now : ℕ) (handle : List ℕ) (entries : List (Entry P)) (e : Entry P) → AreDistinct entries
    → live_entry boot now handle entries ≡ Some e → entry_of e.number entries ≡ Some e
live_there boot now handle [] e distinct h = absurd cc
live_there {P} boot now handle (x ∷ xs) e distinct h = by (is_named boot now handle x) h (live_there boot now handle xs e distinct.1)
  where
    by : (b : Bool) → cond b (Some x) (live_entry boot now handle xs) ≡ Some e → (live_entry boot now handle xs ≡ Some e → entry_of e.number xs ≡ Some e)
        → cond (x.number == e.number) (Some x) (entry_of e.number xs) ≡ Some e
    by true h later =
        let same : x ≡ e = some_is x e h in
        let here : (x.number == e.number) ≡ true = eq-eqb x.number e.number (ap (λ (y : Entry P). y.number) same) in
        ap (λ (b : Bool). cond b (Some x) (entry_of e.number xs)) here ∙ h
    by false h later =
        let other : e.number ≢ x.number = found_holds (λ y. y.number ≢ x.number) (is_named boot now handle) xs e distinct.0 h in
        let apart : (x.number == e.number) ≡ false = ne_eqb x.number e.number (λ y. other (sym y)) in
        ap (λ (b : Bool). cond b (Some x) (entry_of e.number xs)) apart ∙ later h
