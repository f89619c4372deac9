-- A mount as a wire sees it: the contexts that the caller has, each with its root; the root that is mounted; the next number
-- of each slot; and what is awaited at each place.
use Rattle.std.specs.Prelude.{ℕ, ◌==◌, ◌&&◌, Bool, List, slice_index, Option, Some, None, option_map}
use Rattle.std.specs.List.{list_any}
use Rattle.gss_ctx.specs.Table.{boot_named, number_named}
use Rattle.nfs_base.specs.declared.seal.End.{End}
use Rattle.nfs_base.specs.declared.seal.Seal.{Seal}
use Rattle.nfs_compound.specs.Compounds.{compound_bytes}
use Rattle.session_client.specs.declared.asked.Asked.{Asked}
use Rattle.session_client.specs.declared.asked.Asked.TheVariants.{Compound, Create, Destroy}
use Rattle.mount.specs.State.{Mounted, context_of, pending_at}
use Rattle.mount.specs.declared.state.Aim.{Aim}
use Rattle.mount.specs.declared.state.Aim.TheVariants as aims
use Rattle.mount.specs.declared.state.Context as held
use Rattle.mount.specs.declared.state.Pending.{Pending}
use Rattle.mount.specs.declared.state.Pending.TheVariants.{Init, Under}
use Rattle.mount.specs.declared.state.Standing.{Standing}
use Rattle.mount.specs.declared.state.Standing.TheVariants.{Down, Rooted}
use Rattle.wire_model.specs.Spelling.{Context, SlotName}
use Rattle.wire_model.specs.Wire.{Awaited, Caller, Purpose, ForOther, What, Begins, Makes, Slotted, Other}
use Rattle.wire_spelling.specs.Slots.{first_slot}

-- What the machine above a mount adds to it: its opening's number, how many calls it has sent in that, what the call in the
-- slot of each place is for, and whether all that a purpose waits for has come about.
pub record Above : Type 0 where
  pub boot : ℕ
  pub calls : ℕ
  pub purpose : ℕ → Purpose
  pub ready : Purpose → Bool

-- ---- contexts

-- the context that a handle names
abbrev pub handle_named : List ℕ → Context
handle_named handle = record { boot = boot_named handle; number = number_named handle }

abbrev pub is_same : Context → Context → Bool
is_same a b = (a.boot == b.boot) && (a.number == b.number)

-- what a wire sees of a context that is held: whose it is, its handle, and that of its root
pub record Face : Type 0 where
  pub owner : End
  pub handle : List ℕ
  pub root : List ℕ

abbrev pub face : held.Context → Face
face c = record { owner = c.caller.owner; handle = c.caller.handle; root = c.root }

-- that of the context with a name
abbrev pub face_of : ℕ → List held.Context → Option Face
face_of name contexts = option_map face (context_of name contexts)

-- the context is there, under that root
abbrev pub is_held : Context → Context → held.Context → Bool
is_held context root c = is_same (handle_named c.caller.handle) context && is_same (handle_named c.root) root

abbrev pub has_in : List held.Context → Context → Context → Bool
has_in contexts context root = list_any (is_held context root) contexts

-- ---- the mount

abbrev pub root_seen : Option Face → Option Context
root_seen None = None
root_seen (Some f) = Some (handle_named f.root)

abbrev pub mount_in : Standing → List held.Context → Option Context
mount_in (Down kept) contexts = None
mount_in (Rooted root) contexts = root_seen (face_of root.name contexts)

abbrev pub next_in : Standing → ℕ → ℕ
next_in (Down kept) slot = 0
next_in (Rooted root) slot = slice_index root.numbers slot

-- ---- what is awaited

abbrev pub what_named : Seal → Context → List ℕ → Purpose → Option SlotName → What
what_named seal root ops purpose None = Other
what_named seal root ops purpose (Some name) = Slotted seal (record { root = root; slot = name.slot; number = name.number; ops = ops; purpose = purpose })

abbrev pub what_asked : Seal → Context → Purpose → Asked → What
what_asked seal root purpose (Compound c) = what_named seal root (compound_bytes c) purpose (first_slot c.ops)
what_asked seal root purpose (Create args) = Makes seal
what_asked seal root purpose Destroy = Other

abbrev pub what_under : Option Face → Seal → Purpose → Asked → What
what_under None seal purpose asked = Other
what_under (Some f) seal purpose asked = what_asked seal (handle_named f.root) purpose asked

-- a call that the machine above didn't ask for is for nothing of its own
abbrev pub purpose_of : Aim → Purpose → Purpose
purpose_of aims.Slot purpose = purpose
purpose_of _ purpose = ForOther

abbrev pub awaited_in : List held.Context → Purpose → Pending → Awaited
awaited_in contexts purpose (Init init) = record { xid = init.xid; what = Begins }
awaited_in contexts purpose (Under context aim call) =
    record { xid = call.awaited.xid; what = what_under (face_of context contexts) call.seal (purpose_of aim purpose) call.asked }

-- ---- all of it

abbrev pub caller_of : Above → Mounted → Caller
caller_of above m = record {
  boot = above.boot;
  calls = above.calls;
  has = has_in m.contexts;
  mount = mount_in m.standing m.contexts;
  next = next_in m.standing;
  awaits = λ place. option_map (awaited_in m.contexts (above.purpose place)) (pending_at m place);
  ready = above.ready;
}
