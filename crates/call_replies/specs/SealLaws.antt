-- What is accepted as calls, and what they are answered by, is sealed under contexts of the end's own.
use Rattle.std.proofs.Common.{◌≡◌, ◌∙◌, ℕ, Bool, true, false, List, Option, Some, None, refl, sym, ap}
use Rattle.gss_ctx.specs.Making.{Inits, InitsUnless, InitsWith, Makes}
use Rattle.gss_ctx.specs.Seals.{Mic}
use Rattle.gss_ctx.specs.Table.{ContextTable}
use Rattle.gss_ctx.specs.declared.admit.Admit.{Admit}
use Rattle.gss_ctx.specs.declared.admit.Admit.TheVariants as admits
use Rattle.gss_ctx.specs.declared.admit.Verdict.{Verdict}
use Rattle.gss_ctx.specs.declared.making.Inited.{Inited}
use Rattle.gss_mech.specs.declared.mechanism.Accepted.{Accepted}
use Rattle.nfs_base.specs.declared.seal.End.{End}
use Rattle.nfs_base.specs.declared.seal.Seal.{Seal}
use Rattle.rpc_calls.specs.Answers.{accepted_seal, admitted_seal, seal_by, seal_in}
use Rattle.rpc_calls.specs.Making.{made_seal}
use Rattle.rpc_calls.specs.declared.call.Call.{Call}
use Rattle.streams.specs.declared.draws.Drawn.{Drawn}
use Rattle.streams.specs.declared.draws.Drawn.TheVariants.{Got, Failed}
use Rattle.call_replies.specs.Sealed.{IsSealedBy}

pub unsealed : (owner : End) → IsSealedBy owner None
unsealed owner seal is = absurd cc

sealed_so : (owner : End) (had : Seal) → had.owner ≡ owner → IsSealedBy owner (Some had)
sealed_so owner had by seal is =
    let same : had ≡ seal = cc in
    ap (λ (s : Seal). s.owner) (sym same) ∙ by

admitted_owner : {P : Type 0} (table : ContextTable P) (answer : Admit) → IsSealedBy table.owner (admitted_seal table answer)
admitted_owner table (admits.Admitted number seq args) = sealed_so table.owner (seal_in table number seq) refl
admitted_owner table (admits.Dropped why) = unsealed table.owner
admitted_owner table (admits.Denied why) = unsealed table.owner
admitted_owner table (admits.BadBody number seq) = unsealed table.owner

verdict_owner : {P : Type 0} (table : ContextTable P) (o : Option Verdict) → IsSealedBy table.owner (seal_by table o)
verdict_owner table None = unsealed table.owner
verdict_owner table (Some verdict) = admitted_owner table verdict.answer

pub accepted_owner : {P : Type 0} (table : ContextTable P) (call : Call) → IsSealedBy table.owner (accepted_seal table call)
accepted_owner table call = verdict_owner table call.verdict

-- what is sealed under one of its contexts is the table's
pub under_owner : {P : Type 0} (table : ContextTable P) (number seq : ℕ) → IsSealedBy table.owner (Some (seal_in table number seq))
under_owner table number seq = sealed_so table.owner (seal_in table number seq) refl

made_owner : {P : Type 0} (owner : End) (table : ContextTable P) (made : Option ℕ) → table.owner ≡ owner → IsSealedBy owner (made_seal table made)
made_owner owner table None is = unsealed owner
made_owner owner table (Some number) is = sealed_so owner (seal_in table number 0) is

-- ---- an INIT leaves the owner

abbrev SameOwner : {P : Type 0} → ContextTable P → ContextTable P → Type 0
SameOwner old new = new.owner ≡ old.owner

same_owner : {P : Type 0} (old new : ContextTable P) → new ≡ old → SameOwner old new
same_owner {P = P} old new same = ap (λ (t : ContextTable P). t.owner) same

makes_owner : {P : Type 0} (mic : Mic) (now : ℕ) (o : Option Accepted) (old new : ContextTable P) (answer : Inited) → Makes mic now o old new answer → SameOwner old new
makes_owner mic now None old new answer made = same_owner old new made.1
makes_owner {P = P} mic now (Some taken) old new answer made = ap (λ (t : ContextTable P). t.owner) made.1

with_owner : {P : Type 0} (mic : Mic) (accepted : List ℕ → Option Accepted) (now : ℕ) (drawn : Drawn) (old new : ContextTable P) (answer : Inited)
    → InitsWith mic accepted now drawn old new answer → SameOwner old new
with_owner mic accepted now Failed old new answer made = same_owner old new made.1
with_owner mic accepted now (Got nonce) old new answer made = makes_owner mic now (accepted nonce) old new answer made

unless_owner : {P W : Type 0} (mic : Mic) (accepted : List ℕ → Option Accepted) (gives : W → Drawn → W → Type 0) (now : ℕ) (full : Bool) (old new : ContextTable P) (v w : W)
    (answer : Inited) → InitsUnless mic accepted gives now full old new v w answer → SameOwner old new
unless_owner mic accepted gives now true old new v w answer made = same_owner old new made.1
unless_owner mic accepted gives now false old new v w answer made = with_owner mic accepted now made.0 old new answer made.2

pub inits_owner : {P W : Type 0} (mic : Mic) (accepted : List ℕ → Option Accepted) (gives : W → Drawn → W → Type 0) (now : ℕ) (first : Option Accepted) (old new : ContextTable P) (v w : W)
    (answer : Inited) → Inits mic accepted gives now first old new v w answer → SameOwner old new
inits_owner mic accepted gives now None old new v w answer made = same_owner old new made.1
inits_owner mic accepted gives now (Some taken) old new v w answer made = unless_owner mic accepted gives now _ old new v w answer made

pub inited_owner : {P W : Type 0} (mic : Mic) (accepted : List ℕ → Option Accepted) (gives : W → Drawn → W → Type 0) (now : ℕ) (first : Option Accepted) (old new : ContextTable P) (v w : W)
    (answer : Inited) (made : Option ℕ) → Inits mic accepted gives now first old new v w answer → IsSealedBy old.owner (made_seal new made)
inited_owner mic accepted gives now first old new v w answer made inits = made_owner old.owner new made (inits_owner mic accepted gives now first old new v w answer inits)
