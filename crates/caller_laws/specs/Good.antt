-- What holds of a mount between steps.
use Rattle.std.specs.Prelude.{◌≡◌, ℕ, ◌<◌, ◌≤◌, false, List, length, Option, Some, None}
use Rattle.std.specs.List.{AllByRecursion}
use Rattle.nfs_base.specs.declared.limits.TheConstants.{TOKEN_LIMIT}
use Rattle.nfs_base.specs.declared.seal.End.{End}
use Rattle.nfs_compound.specs.Ops.{op_is_cut}
use Rattle.nfs_compound.specs.VolumeCalls.{volume_calls}
use Rattle.nfs_compound.specs.declared.compound.Compound.{Compound}
use Rattle.session_calls.specs.Calls.{IsSendable}
use Rattle.session_calls.specs.declared.compound.TheConstants.{LONGEST_CALL}
use Rattle.session_client.specs.Pending.{Asking, Beginning}
use Rattle.session_client.specs.declared.asked.Asked.{Asked}
use Rattle.session_client.specs.declared.asked.Asked.TheVariants as asks
use Rattle.session_client.specs.declared.setup.Setup.TheVariants as setups
use Rattle.mount.specs.Falling.{stays_for}
use Rattle.mount.specs.Places.{xid_awaited}
use Rattle.mount.specs.State.{Mounted, child_name, kept_in, pending_at, root_name}
use Rattle.mount.specs.declared.state.Aim.{Aim}
use Rattle.mount.specs.declared.state.Aim.TheVariants as aims
use Rattle.mount.specs.declared.state.Pending.{Pending}
use Rattle.mount.specs.declared.state.Pending.TheVariants.{Init, Under}
use Rattle.mount.specs.declared.state.Root.{Root}
use Rattle.mount.specs.declared.state.Standing.TheVariants.{Rooted}
use Rattle.mount.specs.declared.state.TheConstants.{PLACES}
use Rattle.wire_model.specs.Spelling.{SlotName}
use Rattle.wire_model.specs.Wire.{context_of}
use Rattle.wire_spelling.specs.Calls.{end_of}
use Rattle.wire_spelling.specs.Slots.{first_slot}
use Rattle.caller_laws.specs.View.{Face, face_of, handle_named}

-- Whose calls these are: what a mechanism makes of a token, whose a principal is, and the end that calls.
pub record Identity : Type 0 where
  pub accepts : List ℕ → Option (List ℕ)
  pub whose : List ℕ → Option End
  pub own : End

-- a token by which this end begins (RFC 2203 section 5.2.2)
pub record IsOwnToken (who : Identity) (token : List ℕ) : Type 0 where
  pub short : length token ≤ TOKEN_LIMIT
  pub own : end_of who.accepts who.whose (Some token) ≡ Some who.own

-- ---- what is asked

-- A compound that these ends send: it is whole, calls a volume once at most, and names the slot of its place.
pub record IsOurs (place : ℕ) (c : Compound) : Type 0 where
  pub sendable : IsSendable c
  pub counted : c.count ≡ length c.ops
  pub uncut : AllByRecursion (λ op. op_is_cut op ≡ false) c.ops
  pub simple : volume_calls c.ops ≤ 1
  pub slot : (name : SlotName) → first_slot c.ops ≡ Some name → name.slot ≡ place

abbrev pub IsAsked : ℕ → Asked → Type 0
IsAsked place (asks.Compound c) = IsOurs place c
IsAsked place (asks.Create args) = length args < LONGEST_CALL
IsAsked place asks.Destroy = Unit {0}

-- nothing but a CREATE is for a child
abbrev pub FitsAim : Aim → Asked → Type 0
FitsAim (aims.Child child) (asks.Create args) = Unit {0}
FitsAim (aims.Child child) _ = ⊥
FitsAim _ _ = Unit {0}

-- ---- what is awaited

-- a call by an xid that no later call has, and that named no context yet
pub record IsNumbered (m : Mounted) (xid : ℕ) : Type 0 where
  pub below : xid ≤ m.calls
  pub unnamed : face_of xid m.contexts ≡ None

-- an INIT is awaited only while there is no root
pub record IsFairInit (who : Identity) (m : Mounted) (init : Beginning) : Type 0 where
  pub numbered : IsNumbered m init.xid
  pub token : IsOwnToken who init.token
  pub down : root_name m.standing ≡ None

-- the context of a call is there, and the seal is one of it; but for calls in slots it is the root's
pub record IsFairCall (m : Mounted) (place context : ℕ) (aim : Aim) (call : Asking) : Type 0 where
  pub numbered : IsNumbered m call.awaited.xid
  pub face : Face
  pub there : face_of context m.contexts ≡ Some face
  pub owner : call.seal.owner ≡ m.server
  pub under : context_of call.seal ≡ handle_named face.handle
  pub asked : IsAsked place call.asked
  pub aim_fits : FitsAim aim call.asked
  pub rooted : stays_for aim ≡ false → root_name m.standing ≡ Some context

abbrev pub IsFair : Identity → Mounted → ℕ → Pending → Type 0
IsFair who m place (Init init) = IsFairInit who m init
IsFair who m place (Under context aim call) = IsFairCall m place context aim call

-- ---- what is held

pub record IsFace (m : Mounted) (name : ℕ) (f : Face) : Type 0 where
  pub handle : length f.handle ≡ 8
  pub owner : f.owner ≡ m.server
  pub below : name ≤ m.calls

-- a root is its own root
pub record IsRoot (m : Mounted) (name : ℕ) : Type 0 where
  pub face : Face
  pub there : face_of name m.contexts ≡ Some face
  pub own : face.handle ≡ face.root

-- what a root keeps: a number for each slot, and a setup that isn't down
pub record IsUp (root : Root) : Type 0 where
  pub numbers : length root.numbers ≡ PLACES
  pub set_up : root.setup ≡ setups.Down → ⊥

-- All of it: no two calls are awaited by one xid, nor two INITs; the root has its context; a child is under the root.
pub record IsGood (who : Identity) (m : Mounted) : Type 0 where
  pub places : length m.places ≡ PLACES
  pub held : (name : ℕ) (f : Face) → face_of name m.contexts ≡ Some f → IsFace m name f
  pub fair : (place : ℕ) (p : Pending) → pending_at m place ≡ Some p → IsFair who m place p
  pub distinct : (place other : ℕ) (p q : Pending) → pending_at m place ≡ Some p → pending_at m other ≡ Some q → xid_awaited p ≡ xid_awaited q → place ≡ other
  pub alone : (place other : ℕ) (a b : Beginning) → pending_at m place ≡ Some (Init a) → pending_at m other ≡ Some (Init b) → place ≡ other
  pub root : (name : ℕ) → root_name m.standing ≡ Some name → IsRoot m name
  pub up : (root : Root) → m.standing ≡ Rooted root → IsUp root
  pub children : (child name root : ℕ) (f g : Face) → child_name m child ≡ Some name → face_of name m.contexts ≡ Some f
      → root_name m.standing ≡ Some root → face_of root m.contexts ≡ Some g → f.root ≡ g.root
  pub kept : (init : Beginning) → kept_in m.standing ≡ Some init → IsOwnToken who init.token
