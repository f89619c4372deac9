-- CB_OFFLOADs that came before their copies were known by their stateids (RFC 7862 section 16.1).
use Rattle.std.specs.Prelude.{◌++◌, nat_lt, not, Bool, true, false, if◌then◌else◌, List, [], ◌∷◌, filter, find, length, map, Option, option_map, option_to_list}
use Rattle.copy_ops.specs.declared.callback.OffloadEnd.{OffloadEnd}
use Rattle.copy_ops.specs.declared.callback.OffloadEnd.TheVariants as ends
use Rattle.nfs_base.specs.declared.state_id.StateId.{StateId}
use Rattle.nfs_base.specs.declared.written.Stability.{Stability}
use Rattle.nfs_base.specs.declared.written.Stability.TheVariants.{Unstable, DataSync, FileSync}
use Rattle.client_copies.specs.declared.event.Event.{Event}
use Rattle.client_copies.specs.declared.event.Event.TheVariants.{Offloaded}
use Rattle.client_copies.specs.declared.held.HeldOffload.{HeldOffload}
use Rattle.client_copies.specs.declared.held.TheConstants.{MOST_HELD}
use Rattle.client_copies.specs.Copies.{is_same_id}

-- one more is held, where there is room
abbrev pub has_room : List HeldOffload → Bool
has_room held = nat_lt (length held) MOST_HELD

abbrev pub with_held : Bool → HeldOffload → List HeldOffload → List HeldOffload
with_held true one held = held ++ one ∷ []
with_held false one held = held

-- it says that the copy is stable, or that it failed
abbrev pub is_sync : Stability → Bool
is_sync FileSync = true
is_sync DataSync = false
is_sync Unstable = false

abbrev pub decides : OffloadEnd → Bool
decides (ends.Done response) = is_sync response.committed
decides (ends.Failed status count) = true

abbrev pub is_for : StateId → HeldOffload → Bool
is_for id held = is_same_id held.id id

-- those that are for a stateid, in their order, and the others
abbrev pub held_for : StateId → List HeldOffload → List HeldOffload
held_for id held = filter (is_for id) held

abbrev pub held_for_others : StateId → List HeldOffload → List HeldOffload
held_for_others id held = filter (λ h. not (is_for id h)) held

-- the first that decides is what is told of all that are for a stateid
abbrev pub is_told_for : StateId → HeldOffload → Bool
is_told_for id held = if is_for id held then decides held.end else false

abbrev pub told_for : StateId → List HeldOffload → Option OffloadEnd
told_for id held = option_map (λ h. h.end) (find (is_told_for id) held)

-- ---- each of them as an event, and the one that is told

abbrev pub each_told : List HeldOffload → List Event
each_told held = map (λ h. Offloaded h.end) held

abbrev pub one_told : Option OffloadEnd → List Event
one_told end = option_to_list (option_map Offloaded end)
