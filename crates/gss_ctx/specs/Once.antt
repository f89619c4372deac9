-- No context admits a sequence number twice, whatever calls are made (RFC 2203 section 5.3.3.1).
use Rattle.std.specs.Prelude.{◌≡◌, ℕ, ◌||◌, Bool, true, List, [], ◌∷◌, Option, Some, None}
use Rattle.std.specs.List.{AllByRecursion}
use Rattle.rpc_msg.specs.declared.call.CallHead.{CallHead}
use Rattle.gss_ctx.specs.declared.context.Context.{Context}
use Rattle.gss_ctx.specs.declared.admit.Admit.{Admit}
use Rattle.gss_ctx.specs.declared.admit.Admit.TheVariants.{Admitted}
use Rattle.gss_ctx.specs.Window.{Seen, is_below, has}
use Rattle.gss_ctx.specs.Table.{ContextTable, with_new, destroyed}
use Rattle.gss_ctx.specs.Seals.{Mic}
use Rattle.gss_ctx.specs.Admission.{verdict_of, after_verdict}

-- A call that changes the contexts: one of `admit`; one that makes a context, by INIT, as a child or for
-- callbacks; or one that ends a context and its children. Other calls leave them as they are.
pub data Event (P : Type 0) : Type 0 where
  Admits : ℕ → CallHead → List ℕ → Event P
  Makes : ℕ → Context P → Event P
  Ends : ℕ → Event P

abbrev pub after : {P : Type 0} → Mic → Event P → ContextTable P → ContextTable P
after mic (Admits now head body) table = after_verdict now (verdict_of mic now head body table) table
after mic (Makes now context) table = with_new now context table
after mic (Ends number) table = destroyed number table

abbrev pub after_all : {P : Type 0} → Mic → List (Event P) → ContextTable P → ContextTable P
after_all mic [] table = table
after_all mic (event ∷ events) table = after_all mic events (after mic event table)

-- the context and the sequence number that a call admits
abbrev pub admitted_by : Admit → Option (ℕ × ℕ)
admitted_by (Admitted number seq args) = Some (number, seq)
admitted_by _ = None

abbrev pub admits : {P : Type 0} → Mic → Event P → ContextTable P → Option (ℕ × ℕ)
admits mic (Admits now head body) table = admitted_by (verdict_of mic now head body table).answer
admits mic _ table = None

-- a number that a context will not admit: it is below the window, or was seen
abbrev pub is_shut : ℕ → Seen → Bool
is_shut seq seen = is_below seen seq || has seen seq

-- where a context of that number is there, it will not admit that sequence number
abbrev pub IsShut : {P : Type 0} → ℕ → ℕ → ContextTable P → Type 0
IsShut number seq table = AllByRecursion (λ e. e.number ≡ number → is_shut seq e.window ≡ true) table.entries
