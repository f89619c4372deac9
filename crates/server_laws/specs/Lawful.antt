-- All that a server owes a wire in a step (`wire_model`'s `ServerLaws`).
use Rattle.std.specs.Prelude.{◌≡◌, ℕ, true, List, [], Option, Some, None}
use Rattle.nfs_base.specs.declared.seal.End.{End}
use Rattle.nfs_base.specs.declared.seal.Seal.{Seal}
use Rattle.wire_model.specs.ServerLaws.{ServerLaws}
use Rattle.wire_model.specs.Wire.{Acts, Sends}
use Rattle.wire_spelling.specs.Replies.{is_reply}
use Rattle.wire_spelling.specs.Spelling.{spelling}
use Rattle.session_server.specs.Host.{Codes, HostState, Stepped}
use Rattle.server_laws.specs.Acts.{acts_of}
use Rattle.server_laws.specs.Slots.{HasSlots}
use Rattle.server_laws.specs.View.{view}

-- A server of this owner, whose sessions are as they should be, obeys all of them, by whatever tokens are accepted and
-- whosever principals are.
abbrev pub ObeysLaws : {X C : Type 0} → Codes → List ℕ → ℕ → HostState X C → Stepped X C → Type 0
ObeysLaws codes bytes now s t =
    (owner : End) (accepts : List ℕ → Option (List ℕ)) (whose : List ℕ → Option End)
    → s.contexts.owner ≡ owner → HasSlots s
    → ServerLaws (spelling accepts whose) owner (view s) (view t.host) (acts_of codes bytes now s t)

-- the owner is the same
abbrev pub KeepsOwner : {X C : Type 0} → List ℕ → ℕ → HostState X C → Stepped X C → Type 0
KeepsOwner bytes now s t = t.host.contexts.owner ≡ s.contexts.owner

-- what it sends under a seal is sealed by its own
abbrev pub SealsOwn : {X C : Type 0} → Codes → List ℕ → ℕ → HostState X C → Stepped X C → Type 0
SealsOwn codes bytes now s t =
    (reply : List ℕ) (seal : Seal) → Sends (acts_of codes bytes now s t) reply (Some seal) → seal.owner ≡ s.contexts.owner

-- all that it sends are replies
abbrev pub SendsReplies : {X C : Type 0} → Codes → List ℕ → ℕ → HostState X C → Stepped X C → Type 0
SendsReplies codes bytes now s t =
    (reply : List ℕ) (seal : Option Seal) → Sends (acts_of codes bytes now s t) reply seal → is_reply reply ≡ true

-- no record is taken, and none is sent
abbrev pub no_acts : Acts
no_acts = record { took = None; accepted = None; executed = None; out = [] }
