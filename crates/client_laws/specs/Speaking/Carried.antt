-- What holds of a client between turns.
use Rattle.std.specs.Prelude.{ℕ, ◌≡◌, ◌≤◌, List, length, Option, Some, None}
use Rattle.caller_laws.specs.Good.{Identity}
use Rattle.caller_laws.specs.View.{caller_of}
use Rattle.client_copies.specs.Table.{Copies, copy_at}
use Rattle.client_copies.specs.declared.copy.ClientCopy.{ClientCopy}
use Rattle.client_copies.specs.declared.copy.First.{First}
use Rattle.client_core.specs.State.{ClientState}
use Rattle.client_core.specs.Telling.{mount_at}
use Rattle.client_laws.specs.CallerLaws.{PurposesFit, above_at, purpose_for}
use Rattle.client_laws.specs.Sound.{AreSound}
use Rattle.client_laws.specs.Speaking.Places.{IsPlacedClient}
use Rattle.client_laws.specs.WholeTurns.{IsSettled, Purposes}
use Rattle.client_laws.specs.WordLaws.{Knew}
use Rattle.mount.specs.State.{Mounted, pending_at}
use Rattle.mount.specs.declared.state.Aim.TheVariants as aims
use Rattle.mount.specs.declared.state.Pending.TheVariants.{Under}
use Rattle.nfs_base.specs.declared.seal.Seal.{Seal}
use Rattle.nfs_base.specs.declared.side.Side.{Side}
use Rattle.session_calls.specs.Calls.{slot_compound}
use Rattle.session_calls.specs.declared.slot_call.FileCall.TheVariants as asks
use Rattle.session_calls.specs.declared.slot_call.SlotCall.{SlotCall}
use Rattle.session_calls.specs.declared.slot_call.SlotCall.TheVariants as calls
use Rattle.session_calls.specs.declared.slot_call.SlotUse.{SlotUse}
use Rattle.session_client.specs.Pending.{Asking}
use Rattle.session_client.specs.declared.asked.Asked.{Asked}
use Rattle.session_client.specs.declared.asked.Asked.TheVariants.{Compound}
use Rattle.wire_model.specs.Wire.{Acts, Call, Caller, Purpose, Sends, Slotted}
use Rattle.wire_xdr.specs.Cursor.{IsBytes}

-- how a server's wire sees the client
abbrev pub seen : {M : Type 0} → ℕ → Purposes → Side → ClientState M → Caller
seen boot purposes side c = caller_of (above_at boot (purposes side) c) (mount_at side c)

-- a call in a slot is awaited under the root that is mounted (RFC 2203 section 5.2.2)
abbrev pub AreUnderRoot : Caller → Type 0
AreUnderRoot v =
    (place xid : ℕ) (seal : Seal) (call : Call) → v.awaits place ≡ Some (record { xid = xid; what = Slotted seal call }) → v.mount ≡ Some call.root

-- and its operations are bytes
abbrev pub AskBytes : Caller → Type 0
AskBytes v = (place xid : ℕ) (seal : Seal) (call : Call) → v.awaits place ≡ Some (record { xid = xid; what = Slotted seal call }) → IsBytes call.ops

-- what goes out is bytes
abbrev pub SendsBytes : Acts → Type 0
SendsBytes a = (bytes : List ℕ) (seal : Option Seal) → Sends a bytes seal → IsBytes bytes

-- a call asks by what the copy of its place knows
abbrev pub Recalls : Option ClientCopy → SlotCall → Type 0
Recalls copy (calls.Copy source_file source_id file id range source) =
    (known : First) × Knew (λ (x : ClientCopy). x.first) known copy × (known.file ≡ source_file)
Recalls copy (calls.OnFile file asks.Change) = (known : First) × Knew (λ (x : ClientCopy). x.first) known copy × (known.file ≡ file)
Recalls copy (calls.OnFile file (asks.Status id)) = Knew (λ (x : ClientCopy). x.id) id copy
Recalls copy _ = Unit {0}

-- what is awaited in a slot is for what it asks
pub record IsAskedFor (purpose : ℕ → Purpose) (t : Copies) (place : ℕ) (asked : Asked) : Type 0 where
  pub slot : SlotUse
  pub call : SlotCall
  pub asked_is : asked ≡ Compound (slot_compound slot call)
  pub purpose_is : purpose_for place call ≡ purpose place
  pub recalls : Recalls (copy_at place t) call

abbrev pub AreAskedFor : (ℕ → Purpose) → Copies → Mounted → Type 0
AreAskedFor purpose t m =
    (place context : ℕ) (asking : Asking) → pending_at m place ≡ Some (Under context aims.Slot asking) → IsAskedFor purpose t place asking.asked

pub record IsCarried {M : Type 0} (who : Identity) (boot : ℕ) (purposes : Purposes) (c : ClientState M) : Type 0 where
  pub settled : IsSettled who c
  pub placed : IsPlacedClient c
  pub few : length c.copies.copies ≤ 256
  pub none_first : copy_at 0 c.copies ≡ None
  pub sound : AreSound c.copies
  pub fits : (side : Side) → PurposesFit side (purposes side) c.copies
  pub asked : (side : Side) → AreAskedFor (purposes side) c.copies (mount_at side c)
  pub rooted : (side : Side) → AreUnderRoot (seen boot purposes side c)
  pub bytes : (side : Side) → AskBytes (seen boot purposes side c)
