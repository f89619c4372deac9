-- The laws of a server that speak of its slots, as `wire_model` has them, for a step.
use Rattle.std.specs.Prelude.{◌≡◌, ◌⊎◌, ℕ, ◌<◌, ◌≤◌, true, Option, Some, List}
use Rattle.nfs_base.specs.declared.seal.End.{End}
use Rattle.nfs_base.specs.declared.seal.Seal.{Seal}
use Rattle.wire_model.specs.ServerLaws.{Executes, IsAnswered, Keeps, last_of}
use Rattle.wire_model.specs.Spelling.{SlotName, Spelling}
use Rattle.wire_model.specs.Wire.{Acts, Sends, Server}
use Rattle.wire_spelling.specs.Spelling.{spelling}
use Rattle.session_server.specs.Host.{Codes, HostState, Stepped}
use Rattle.server_laws.specs.Acts.{acts_of}
use Rattle.server_laws.specs.Slots.{HasSlots}
use Rattle.server_laws.specs.View.{view}

-- A call of a slot is executed or answered as kept. What is kept was kept, or is that of the call executed now. What runs has
-- a number above the last one, and the last number never falls. RFC 8881 section 2.10.6.1.
pub record ObeysSlots (spell : Spelling) (owner : End) (v w : Server) (a : Acts) : Type 0 where
  pub slot : (call reply : List ℕ) (seal : Seal) (name : SlotName) → a.took ≡ Some call → spell.slot_of call ≡ Some name
      → Sends a reply (Some seal) → spell.is_reply reply ≡ true → IsAnswered spell owner v w a name seal reply
  pub kept : (name : SlotName) (root : ℕ) (results : List ℕ) → Keeps w name root results
      → ((v.boot ≡ w.boot) × Keeps v name root results) ⊎ Executes spell owner v w a name root results
  pub once : (name : SlotName) (root : ℕ) (results : List ℕ) → Executes spell owner v w a name root results
      → spell.has_run results ≡ true → (last_of v name < name.number) × (name.number ≤ last_of w name)
  pub last : (name : SlotName) → v.boot ≡ w.boot → last_of v name ≤ last_of w name

-- A server of this owner, whose sessions are as they should be, obeys them.
abbrev pub KeepsSlots : {X C : Type 0} → Codes → List ℕ → ℕ → HostState X C → Stepped X C → Type 0
KeepsSlots codes bytes now s t =
    (owner : End) (accepts : List ℕ → Option (List ℕ)) (whose : List ℕ → Option End)
    → s.contexts.owner ≡ owner → HasSlots s
    → ObeysSlots (spelling accepts whose) owner (view s) (view t.host) (acts_of codes bytes now s t)

-- and its sessions stay so
abbrev pub KeepsSessions : {X C : Type 0} → List ℕ → ℕ → HostState X C → Stepped X C → Type 0
KeepsSessions bytes now s t = HasSlots s → HasSlots t.host
