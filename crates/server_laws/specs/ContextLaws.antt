-- The laws on contexts that a server owes in every step (`ServerLaws` has them of any machine).
use Rattle.std.specs.Prelude.{◌≡◌, ◌⊎◌, ℕ, ◌≤◌, true, List, Option, Some}
use Rattle.gss_mech.specs.declared.mechanism.Accepted.{Accepted}
use Rattle.nfs_base.specs.declared.seal.End.{End}
use Rattle.nfs_base.specs.declared.seal.Seal.{Seal}
use Rattle.streams.specs.declared.draws.Drawn.{Drawn}
use Rattle.wire_model.specs.ServerLaws.{IsMade}
use Rattle.wire_model.specs.Spelling.{Context}
use Rattle.wire_model.specs.Wire.{Sends}
use Rattle.wire_spelling.specs.Calls.{begun_by, is_create}
use Rattle.wire_spelling.specs.Replies.{context_in}
use Rattle.session_server.specs.Host.{Codes, HostState, Rules, Stepped}
use Rattle.server_laws.specs.Acts.{acts_of}
use Rattle.server_laws.specs.Good.{IsGood}
use Rattle.server_laws.specs.Steps.{IsStep}
use Rattle.server_laws.specs.View.{view}

-- a law in each step of a server with these rules and codes
abbrev pub InEachStep : {X C W : Type 0} → Rules X C → Codes → (List ℕ → List ℕ → Option Accepted) → (W → Drawn → W → Type 0)
    → (List ℕ → (now : ℕ) → HostState X C → Stepped X C → Type 0) → Type 0
InEachStep {X} {C} {W} rules codes accepted gives law =
    (conn : ℕ) (bytes : List ℕ) (now : ℕ) (s : HostState X C) (before after : W) (t : Stepped X C)
    → IsStep rules codes accepted gives conn bytes now s before after t → law bytes now s t

-- the opening is the same
abbrev pub KeepsBoot : {X C : Type 0} → List ℕ → ℕ → HostState X C → Stepped X C → Type 0
KeepsBoot bytes now s t = (view s).boot ≡ (view t.host).boot

-- the count of contexts doesn't fall
abbrev pub KeepsMade : {X C : Type 0} → List ℕ → ℕ → HostState X C → Stepped X C → Type 0
KeepsMade bytes now s t = (view s).made ≤ (view t.host).made

-- a context that is there was there, or is made now
abbrev pub KeepsRoots : {X C : Type 0} → List ℕ → ℕ → HostState X C → Stepped X C → Type 0
KeepsRoots bytes now s t =
    (number root : ℕ) → (view t.host).root number ≡ Some root → ((view s).root number ≡ Some root) ⊎ IsMade (view s) (view t.host) number root

-- contexts are as they should be
abbrev pub KeepsGood : {X C : Type 0} → List ℕ → ℕ → HostState X C → Stepped X C → Type 0
KeepsGood bytes now s t = IsGood t.host

-- an INIT that is answered under a seal makes its context, which is its own root (RFC 2203 section 5.2.2)
abbrev pub MakesRoot : {X C : Type 0} → Codes → List ℕ → ℕ → HostState X C → Stepped X C → Type 0
MakesRoot codes bytes now s t =
    (accepts : List ℕ → Option (List ℕ)) (whose : List ℕ → Option End) (by : End) (reply : List ℕ) (seal : Seal)
    → begun_by accepts whose bytes ≡ Some by → Sends (acts_of codes bytes now s t) reply (Some seal)
    → (seal.boot ≡ (view t.host).boot) × IsMade (view s) (view t.host) seal.number seal.number

-- a CREATE that is answered with a context makes it, under that of the answer's seal (RFC 7861 section 2.7)
abbrev pub MakesChild : {X C : Type 0} → Codes → List ℕ → ℕ → HostState X C → Stepped X C → Type 0
MakesChild codes bytes now s t =
    (reply : List ℕ) (seal : Seal) (child : Context)
    → is_create bytes ≡ true → Sends (acts_of codes bytes now s t) reply (Some seal) → context_in reply ≡ Some child
    → (child.boot ≡ (view t.host).boot) × (seal.boot ≡ (view t.host).boot) × IsMade (view s) (view t.host) child.number seal.number
