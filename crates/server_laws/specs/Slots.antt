-- What a server's slots need of its state, and what a step is to them.
use Rattle.std.specs.Prelude.{◌≡◌, ℕ, ◌+◌, ◌^◌, ◌<◌, ◌≤◌, List, [], map, not, Contains, Some, Ok, false}
use Rattle.context_laws.specs.View.{root_number}
use Rattle.gss_ctx.specs.Table.{AreDistinct}
use Rattle.gss_ctx.specs.declared.context.Context.{Context}
use Rattle.gss_mech.specs.Tokens.{IsSized}
use Rattle.nfs_base.specs.declared.seal.End.{End}
use Rattle.nfs_base.specs.declared.seal.Seal.{Seal}
use Rattle.nfs_compound.specs.Compounds.{compound_of}
use Rattle.nfs_compound.specs.declared.compound.Compound.{Compound}
use Rattle.outbox.specs.declared.outgoing.Outgoing.{Outgoing}
use Rattle.rpc_calls.specs.Judging.{judged_of}
use Rattle.rpc_calls.specs.declared.call.Call.{Call}
use Rattle.rpc_calls.specs.declared.call.Judged.TheVariants as judged
use Rattle.rpc_calls.specs.declared.call.TheConstants.Program as programs
use Rattle.server_volume.specs.Choices.{Choice}
use Rattle.compound_server.specs.Compounds.{on_compound}
use Rattle.compound_server.specs.State.{Given}
use Rattle.session_server.specs.Host.{Codes, HostState, Rules, Stepped}
use Rattle.session_server.specs.Lengths.{AreShort}
use Rattle.session_server.specs.Steps.{compounded, who_calls}
use Rattle.slot_calls.specs.Asked.{IsAsked}
use Rattle.slot_laws.specs.Sound.{AreBelow, IsSound}
use Rattle.slot_laws.specs.Turns.{is_retry}
use Rattle.wire_model.specs.Spelling.{SlotName}
use Rattle.wire_spelling.specs.Slots.{slot_of}
use Rattle.wire_xdr.specs.Cursor.{IsBytes}
use Rattle.server_laws.specs.Acts.{sent_of, tells}

-- What holds of a server's sessions between steps: they are sound and few, and no slot's number is above the count of steps.
pub record HasSlots {X C : Type 0} (s : HostState X C) : Type 0 where
  pub sound : IsSound s.state.sessions
  pub few : s.state.sessions.sessions_made ≤ s.steps
  pub below : AreBelow s.steps s.state.sessions

-- what a COMPOUND gives under a context that is there
abbrev pub given_under : {X C : Type 0} → Rules X C → Choice → (second conn number seq : ℕ) → Context C → Compound → HostState X C → Given X
given_under rules choice second conn number seq context compound s =
    on_compound rules.service rules.parting choice (who_calls second conn (record { number = number; seq = seq }) context) context.principal context.carry compound
    s.state

-- A record is a COMPOUND that a context admits, and the step carries it out.
pub record IsCompoundStep {X C : Type 0} (rules : Rules X C) (codes : Codes) (conn : ℕ) (bytes : List ℕ) (second : ℕ) (s : HostState X C) (t : Stepped X C) : Type 0 where
  pub call : Call
  pub args : List ℕ
  pub compound : Compound
  pub choice : Choice
  pub judged_is : judged_of codes.mic second programs.NFS bytes s.contexts ≡ judged.Call call
  pub asked : IsAsked s.contexts bytes call args
  pub read : compound_of args ≡ Ok compound
  pub step_is : t ≡ compounded rules codes second conn call compound s (given_under rules choice second conn asked.number asked.seq asked.context compound s)
  pub told_is : tells (judged_of codes.mic second programs.NFS bytes s.contexts) s.contexts s.state.sessions
      ≡ not (is_retry (root_number asked.context.parent asked.number) compound s.state.sessions)

-- a sealed reply to a call that names a slot
abbrev pub AnswersSlot : (bytes : List ℕ) → List Outgoing → Type 0
AnswersSlot bytes sent =
    (name : SlotName) × (slot_of bytes ≡ Some name) × ((reply : List ℕ) × ((seal : Seal) × Contains (map sent_of sent) (record { bytes = reply; seal = Some seal })))

-- No COMPOUND is carried out: sessions and files are as they were, no call is made on the volume, no results are told, and no
-- sealed reply answers a call that names a slot.
pub record IsOtherStep {X C : Type 0} (codes : Codes) (bytes : List ℕ) (second : ℕ) (s : HostState X C) (t : Stepped X C) : Type 0 where
  pub sessions : t.host.state.sessions ≡ s.state.sessions
  pub store : t.host.state.machine.store ≡ s.state.machine.store
  pub unused : t.out.used ≡ []
  pub steps : t.host.steps ≡ s.steps + 1
  pub none_told : tells (judged_of codes.mic second programs.NFS bytes s.contexts) s.contexts s.state.sessions ≡ false
  pub unanswered : AnswersSlot bytes t.out.sent → ⊥

-- What the laws of slots rest on in a step.
pub record IsFair {X C : Type 0} (owner : End) (codes : Codes) (bytes : List ℕ) (s : HostState X C) (t : Stepped X C) : Type 0 where
  pub slots : HasSlots s
  pub distinct : AreDistinct s.contexts.entries
  pub owner_is : s.contexts.owner ≡ owner
  pub same_boot : t.host.contexts.boot ≡ s.contexts.boot
  pub are_bytes : IsBytes bytes
  pub sized : IsSized codes.mic
  pub short : AreShort t.out.sent
  pub left : s.steps + 1 < 2 ^ 32
