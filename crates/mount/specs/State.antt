-- A caller's mount of one server (RFC 8881 section 2.10, RFC 2203 section 5.2): how far the server is set up, the
-- contexts that the caller has there, and what is awaited at each of its places.
use Rattle.std.specs.Prelude.{ℕ, ◌==◌, ◌<◌, Bool, true, false, nat_lt, List, [], find, replicate, slice_index, slice_index_or, slice_set, Option, Some, None}
use Rattle.std.specs.List.{list_any}
use Rattle.nfs_base.specs.declared.seal.End.{End}
use Rattle.session_client.specs.Pending.{Beginning}
use Rattle.session_client.specs.declared.setup.Setup.{Setup}
use Rattle.session_client.specs.declared.setup.Setup.TheVariants as setups
use Rattle.mount.specs.declared.calling.Under.{Under}
use Rattle.mount.specs.declared.calling.Under.TheVariants as unders
use Rattle.mount.specs.declared.state.Aim.{Aim}
use Rattle.mount.specs.declared.state.Aim.TheVariants as aims
use Rattle.mount.specs.declared.state.Awaiting.{Awaiting}
use Rattle.mount.specs.declared.state.Context.{Context}
use Rattle.mount.specs.declared.state.Pending.{Pending}
use Rattle.mount.specs.declared.state.Pending.TheVariants as pendings
use Rattle.mount.specs.declared.state.Standing.{Standing}
use Rattle.mount.specs.declared.state.Standing.TheVariants.{Down, Rooted}
use Rattle.mount.specs.declared.state.TheConstants.{PLACES}

-- The server; whether its caller says RECLAIM_COMPLETE; the xid of the last call that was sent, 0 before the first; the
-- contexts that there are; whether a root is there, and how far the setup is; the name of each child's context by what it is for;
-- what is awaited at each place.
pub record Mounted : Type 0 where
  pub server : End
  pub reclaims : Bool
  pub calls : ℕ
  pub contexts : List Context
  pub standing : Standing
  pub children : List (Option ℕ)
  pub places : List (Option Awaiting)

abbrev pub no_children : List (Option ℕ)
no_children = replicate PLACES None

-- before the first call
abbrev pub fresh : End → Bool → Mounted
fresh server reclaims = record {
  server = server;
  reclaims = reclaims;
  calls = 0;
  contexts = [];
  standing = Down None;
  children = no_children;
  places = replicate PLACES None;
}

-- ---- how far it is

abbrev pub setup_in : Standing → Setup
setup_in (Down kept) = setups.Down
setup_in (Rooted root) = root.setup

-- an INIT that goes out anew with its token
abbrev pub kept_in : Standing → Option Beginning
kept_in (Down kept) = kept
kept_in (Rooted root) = None

-- the name of the root's context
abbrev pub root_name : Standing → Option ℕ
root_name (Down kept) = None
root_name (Rooted root) = Some root.name

-- ---- what is awaited

abbrev pub awaited_at : Mounted → ℕ → Option Awaiting
awaited_at m place = slice_index_or m.places place None

abbrev pub pending_in : Option Awaiting → Option Pending
pending_in None = None
pending_in (Some a) = Some a.pending

abbrev pub pending_at : Mounted → ℕ → Option Pending
pending_at m place = pending_in (awaited_at m place)

-- nothing is awaited at a place any more, or this
abbrev pub emptied : ℕ → Mounted → Mounted
emptied place m = record m { places = slice_set m.places place None }

abbrev pub awaiting_at : ℕ → Awaiting → Mounted → Mounted
awaiting_at place a m = record m { places = slice_set m.places place (Some a) }

-- a call of the setup
abbrev pub is_for_setup : Aim → Bool
is_for_setup aims.Setup = true
is_for_setup _ = false

abbrev pub sets_up : Pending → Bool
sets_up (pendings.Init init) = true
sets_up (pendings.Under context aim call) = is_for_setup aim

abbrev pub place_sets_up : Option Awaiting → Bool
place_sets_up None = false
place_sets_up (Some a) = sets_up a.pending

abbrev pub is_setting_up : Mounted → Bool
is_setting_up m = list_any place_sets_up m.places

-- ---- contexts

abbrev pub context_of : ℕ → List Context → Option Context
context_of name contexts = find (λ c. c.name == name) contexts

-- a context of the mount that is there now
abbrev pub is_name : Option ℕ → ℕ → Bool
is_name None name = false
is_name (Some n) name = n == name

abbrev pub is_present : Standing → Context → Bool
is_present standing c = is_name (root_name standing) c.mount

abbrev pub named : Option ℕ → List Context → Option Context
named None contexts = None
named (Some name) contexts = context_of name contexts

abbrev pub root_context : Mounted → Option Context
root_context m = named (root_name m.standing) m.contexts

-- the child that is for this
abbrev pub child_name : Mounted → ℕ → Option ℕ
child_name m child = slice_index_or m.children child None

-- a call may go out under the root's context, or that of a child
abbrev pub IsChild : Under → Type 0
IsChild unders.Root = Unit {0}
IsChild (unders.Child child) = child < PLACES

-- a slot's numbers haven't run out
abbrev pub HasNumbers : Standing → ℕ → Type 0
HasNumbers (Down kept) slot = Unit {0}
HasNumbers (Rooted root) slot = slice_index root.numbers slot < 4294967295

abbrev pub has_numbers : Standing → ℕ → Bool
has_numbers (Down kept) slot = true
has_numbers (Rooted root) slot = nat_lt (slice_index root.numbers slot) 4294967295
