-- How a context is made: by INIT, as a child by CREATE, and for callbacks.
use Rattle.std.specs.Prelude.{◌≡◌, ℕ, ◌+◌, ◌≤◌, Bool, true, false, List, length, Option, Some, None, Result, Ok, Err}
use Rattle.wire_xdr.specs.Words.{word_bytes}
use Rattle.streams.specs.declared.draws.Drawn.{Drawn}
use Rattle.streams.specs.declared.draws.Drawn.TheVariants.{Got, Failed}
use Rattle.gss_mech.specs.declared.mechanism.Accepted.{Accepted}
use Rattle.gss_ctx.specs.declared.context.Context.{Context}
use Rattle.gss_ctx.specs.declared.context.Entry.{Entry}
use Rattle.gss_ctx.specs.declared.making.Inited.{Inited}
use Rattle.gss_ctx.specs.declared.making.Inited.TheVariants.{Made, Refused}
use Rattle.gss_ctx.specs.Table.{ContextTable, handle_of, is_full, with_new}
use Rattle.gss_ctx.specs.Seals.{Mic}
use Rattle.nfs_base.specs.declared.limits.TheConstants.{TOKEN_LIMIT, WINDOW_SIZE}
use Rattle.gss_mech.specs.declared.mechanism.TheConstants.{ACCEPTOR}
use Rattle.gss_ctx.specs.declared.numbers.TheConstants.{CHILD_KEY, CALLBACK_KEY}

-- the context of an accepted token
abbrev pub accepted_context : {P : Type 0} → ℕ → Accepted → Context P
accepted_context now taken = record { principal = taken.principal; parent = None; key = taken.key; carry = None; used = now }

-- what INIT answers with it: the verifier is the acceptor's code of the window under the new key
abbrev pub made_of : Mic → ℕ → ℕ → Accepted → Inited
made_of mic boot number taken = Made (handle_of boot number) WINDOW_SIZE taken.token (mic taken.key ACCEPTOR (word_bytes WINDOW_SIZE))

-- a child of a context with this principal, and with a key derived from its parent's
abbrev pub child_context : {P : Type 0} → (List ℕ → ℕ → List ℕ → List ℕ) → List ℕ → ℕ → List ℕ → Context P → P → ℕ → Context P
child_context derived handle parent principal of carry now =
    record { principal = principal; parent = Some parent; key = derived of.key CHILD_KEY handle; carry = Some carry; used = now }

-- a callback context
abbrev pub callback_context : {P : Type 0} → (List ℕ → ℕ → List ℕ → List ℕ) → List ℕ → List ℕ → List ℕ → ℕ → Context P
callback_context derived handle principal from now =
    record { principal = principal; parent = None; key = derived from CALLBACK_KEY handle; carry = None; used = now }

-- the token that goes back is short enough for the wire
abbrev pub HasShortToken : Inited → Type 0
HasShortToken (Made handle window token verifier) = length token ≤ TOKEN_LIMIT
HasShortToken (Refused minor) = Unit {0}

-- What INIT answers, and what it leaves: the token is tested first, with a nonce of zeros, then the table,
-- then the draw. That the token is refused with the drawn nonce doesn't come, by the law of mechanisms.
abbrev pub Makes : {P : Type 0} → Mic → ℕ → Option Accepted → ContextTable P → ContextTable P → Inited → Type 0
Makes mic now None old new answer = (answer ≡ Refused 3) × (new ≡ old)
Makes mic now (Some taken) old new answer = (answer ≡ made_of mic old.boot (old.made + 1) taken) × (new ≡ with_new now (accepted_context now taken) old)

abbrev pub InitsWith : {P : Type 0} → Mic → (List ℕ → Option Accepted) → ℕ → Drawn → ContextTable P → ContextTable P → Inited → Type 0
InitsWith mic accepted now Failed old new answer = (answer ≡ Refused 1) × (new ≡ old)
InitsWith mic accepted now (Got nonce) old new answer = Makes mic now (accepted nonce) old new answer

-- the draws stay as they are where none is made
abbrev pub InitsUnless : {P W : Type 0} → Mic → (List ℕ → Option Accepted) → (W → Drawn → W → Type 0) → ℕ → Bool → ContextTable P → ContextTable P → W → W → Inited → Type 0
InitsUnless mic accepted gives now true old new before after answer = (answer ≡ Refused 2) × (new ≡ old) × (after ≡ before)
InitsUnless mic accepted gives now false old new before after answer = (drawn : Drawn) × gives before drawn after × InitsWith mic accepted now drawn old new answer

abbrev pub Inits : {P W : Type 0} → Mic → (List ℕ → Option Accepted) → (W → Drawn → W → Type 0) → ℕ → Option Accepted → ContextTable P → ContextTable P → W → W → Inited → Type 0
Inits mic accepted gives now None old new before after answer = (answer ≡ Refused 3) × (new ≡ old) × (after ≡ before)
Inits mic accepted gives now (Some taken) old new before after answer = InitsUnless mic accepted gives now (is_full now old.entries) old new before after answer

-- what making a context for callbacks answers: None where the table is full
abbrev pub Adds : {P : Type 0} → Bool → ℕ → Context P → ContextTable P → ContextTable P → Option ℕ → Type 0
Adds true now context old new answer = (answer ≡ None) × (new ≡ old)
Adds false now context old new answer = (answer ≡ Some (old.made + 1)) × (new ≡ with_new now context old)

-- what making a child of a principal answers: its number, or the carry where the table is full
abbrev pub MakesChildOf : {P : Type 0} → (List ℕ → ℕ → List ℕ → List ℕ) → ℕ → ℕ → List ℕ → P → Bool → Option (Entry P) → ContextTable P → ContextTable P → Result ℕ P → Type 0
MakesChildOf derived now parent principal carry full None old new answer = ⊥
MakesChildOf derived now parent principal carry true (Some root) old new answer = (answer ≡ Err carry) × (new ≡ old)
MakesChildOf derived now parent principal carry false (Some root) old new answer =
    (answer ≡ Ok (old.made + 1)) × (new ≡ with_new now (child_context derived (handle_of old.boot (old.made + 1)) parent principal root.context carry now) old)

-- the same of its parent's principal
abbrev pub MakesChild : {P : Type 0} → (List ℕ → ℕ → List ℕ → List ℕ) → ℕ → ℕ → P → Bool → Option (Entry P) → ContextTable P → ContextTable P → Result ℕ P → Type 0
MakesChild derived now parent carry full None old new answer = ⊥
MakesChild derived now parent carry full (Some root) old new answer = MakesChildOf derived now parent root.context.principal carry full (Some root) old new answer
