-- What a client awaits at each place of its mounts: at place 0 the calls of its setup and of its writes and commits, at the place of
-- a copy's number the call whose answer the copy awaits. Nothing but an INIT is awaited where there is no root.
use Rattle.std.specs.Prelude.{ℕ, ◌≡◌, ◌⊎◌, true, false, List, length, Option, Some, None}
use Rattle.client_copies.specs.Copies.{side_of}
use Rattle.client_copies.specs.Table.{Copies, copy_at}
use Rattle.client_copies.specs.declared.copy.ClientCopy.{ClientCopy}
use Rattle.client_copies.specs.declared.copy.Query.{Query}
use Rattle.client_copies.specs.declared.copy.Stage.TheVariants as stages
use Rattle.client_copies.specs.declared.copy.Step.{Step}
use Rattle.client_core.specs.State.{ClientState}
use Rattle.client_site.specs.Sites.{open_in}
use Rattle.client_site.specs.declared.site.OpenFile.{OpenFile}
use Rattle.client_site.specs.declared.site.Site.{Site}
use Rattle.client_steps.specs.Answers.{query_of, stage_creates}
use Rattle.client_steps.specs.declared.desk.Desk.{Desk}
use Rattle.mount.specs.State.{pending_at, root_name}
use Rattle.mount.specs.declared.state.Aim.TheVariants as aims
use Rattle.mount.specs.declared.state.Pending.{Pending}
use Rattle.mount.specs.declared.state.Pending.TheVariants.{Init, Under}
use Rattle.mount.specs.declared.state.Aim.{Aim}
use Rattle.mount.specs.declared.state.Root.{Root}
use Rattle.mount.specs.declared.state.Standing.TheVariants.{Rooted}
use Rattle.mount.specs.declared.state.TheConstants.{PLACES}
use Rattle.nfs_base.specs.declared.side.Side.{Side}
use Rattle.nfs_base.specs.declared.side.Side.TheVariants.{Source, Dest}
use Rattle.session_calls.specs.Calls.{slot_compound}
use Rattle.session_calls.specs.declared.slot_call.SlotCall.{SlotCall}
use Rattle.session_calls.specs.declared.slot_call.SlotCall.TheVariants as calls
use Rattle.session_calls.specs.declared.slot_call.SlotUse.{SlotUse}
use Rattle.session_client.specs.Pending.{Asking}
use Rattle.session_client.specs.declared.asked.Asked.{Asked}
use Rattle.session_client.specs.declared.asked.Asked.TheVariants.{Compound}
use Rattle.session_client.specs.declared.setup.Setup.TheVariants as setups

-- ---- place 0

abbrev pub FitsFirst : Pending → Type 0
FitsFirst (Init init) = Unit {0}
FitsFirst (Under context aims.Setup asking) = Unit {0}
FitsFirst (Under context aims.Slot asking) = Unit {0}
FitsFirst (Under context (aims.Child child) asking) = ⊥
FitsFirst (Under context aims.End asking) = ⊥

-- ---- the place of a copy

-- the copy awaits the answer to this step's call, at the step's server
pub record Waits (side : Side) (c : ClientCopy) : Type 0 where
  pub step : Step
  pub asked : c.stage ≡ stages.Asked step
  pub here : side_of step ≡ side

-- COPY_NOTIFY asks for the file that is open there
pub record IsOpened (files : List OpenFile) (c : ClientCopy) (file : List ℕ) : Type 0 where
  pub opened : OpenFile
  pub opened_is : open_in c.spec.src_file files ≡ Some opened
  pub handle : opened.handle ≡ file

abbrev pub AsksOpen : List OpenFile → ClientCopy → SlotCall → Type 0
AsksOpen files c (calls.Notify file id destination) = IsOpened files c file
AsksOpen files c _ = Unit {0}

-- A call in the copy's slot: the copy awaits its answer, or has asked the destination how far it is. It is no CREATE.
pub record FitsSlot (side : Side) (files : List OpenFile) (c : ClientCopy) (asked : Asked) : Type 0 where
  pub waits : Waits side c ⊎ ((query : Query) × (query_of side c ≡ Some query))
  pub no_create : stage_creates side c.stage ≡ false
  pub slot : SlotUse
  pub call : SlotCall
  pub asked_is : asked ≡ Compound (slot_compound slot call)
  pub opened : AsksOpen files c call

abbrev pub FitsOwn : Side → List OpenFile → ClientCopy → Pending → Type 0
FitsOwn side files c (Init init) = ⊥
FitsOwn side files c (Under context aims.Setup asking) = ⊥
FitsOwn side files c (Under context aims.Slot asking) = FitsSlot side files c asking.asked
FitsOwn side files c (Under context (aims.Child child) asking) = (stage_creates side c.stage ≡ true) × Waits side c
FitsOwn side files c (Under context aims.End asking) = ⊥

pub record FitsCopy (side : Side) (files : List OpenFile) (copy : Option ClientCopy) (p : Pending) : Type 0 where
  pub own : ClientCopy
  pub own_is : copy ≡ Some own
  pub fits : FitsOwn side files own p

-- ---- a server's side of a client

pub record IsPlaced (side : Side) (s : Site) (t : Copies) : Type 0 where
  pub many : length s.mount.places ≡ PLACES
  pub up : (root : Root) → s.mount.standing ≡ Rooted root → root.setup ≡ setups.Down → ⊥
  pub down : root_name s.mount.standing ≡ None → (place context : ℕ) (aim : Aim) (asking : Asking)
      → pending_at s.mount place ≡ Some (Under context aim asking) → ⊥
  pub first : (p : Pending) → pending_at s.mount 0 ≡ Some p → FitsFirst p
  pub others : (j : ℕ) → (j ≡ 0 → ⊥) → (p : Pending) → pending_at s.mount j ≡ Some p → FitsCopy side s.files (copy_at j t) p

-- both sides, over a desk and of a client
pub record AllPlaced (d : Desk) : Type 0 where
  pub source : IsPlaced Source d.source d.copies
  pub dest : IsPlaced Dest d.dest d.copies

pub record IsPlacedClient {M : Type 0} (c : ClientState M) : Type 0 where
  pub source : IsPlaced Source c.source c.copies
  pub dest : IsPlaced Dest c.dest c.copies
