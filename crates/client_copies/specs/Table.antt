-- The copies of a client by their numbers, and the CB_OFFLOADs that no copy's stateid names yet (RFC 7862 section 16.1).
use Rattle.std.specs.Prelude.{ℕ, List, [], ◌∷◌, ◌++◌, Bool, true, false, position, replicate, slice_index_or, slice_set, Option, Some, None}
use Rattle.copy_ops.specs.declared.callback.OffloadEnd.{OffloadEnd}
use Rattle.nfs_base.specs.declared.copy_spec.CopySpec.{CopySpec}
use Rattle.nfs_base.specs.declared.state_id.StateId.{StateId}
use Rattle.client_copies.specs.declared.copy.ClientCopy.{ClientCopy}
use Rattle.client_copies.specs.declared.event.Event.TheVariants as events
use Rattle.client_copies.specs.declared.event.Event.{Event}
use Rattle.client_copies.specs.declared.held.HeldOffload.{HeldOffload}
use Rattle.client_copies.specs.declared.table.Named.{Named}
use Rattle.client_copies.specs.declared.table.Named.TheVariants as named
use Rattle.client_copies.specs.declared.table.TheConstants.{MOST_COPIES}
use Rattle.client_copies.specs.declared.told.Said.{Said}
use Rattle.client_copies.specs.declared.told.Said.TheVariants.{Nothing, One, Two}
use Rattle.client_copies.specs.Copies.{begun, is_called}
use Rattle.client_copies.specs.Held.{has_room, held_for_others, told_for}
use Rattle.client_copies.specs.Steps.{after}

-- the copies, by their numbers, and what is held
pub record Copies : Type 0 where
  pub copies : List (Option ClientCopy)
  pub held : List HeldOffload

abbrev pub no_copies : Copies
no_copies = record { copies = replicate MOST_COPIES None; held = [] }

abbrev pub copy_at : ℕ → Copies → Option ClientCopy
copy_at number t = slice_index_or t.copies number None

abbrev pub with_copy : ℕ → Option ClientCopy → Copies → Copies
with_copy number copy t = record t { copies = slice_set t.copies number copy }

abbrev pub with_begun : ℕ → CopySpec → List ℕ → Copies → Copies
with_begun number spec secret t = with_copy number (Some (begun spec secret)) t

-- ---- something happens to one copy

abbrev pub said_of : Event → Option ClientCopy → Said
said_of event None = Nothing
said_of event (Some c) = (after event c).0

abbrev pub copy_after : Event → Option ClientCopy → Option ClientCopy
copy_after event None = None
copy_after event (Some c) = Some (after event c).1

abbrev pub told_at : ℕ → Event → Copies → Said × Copies
told_at number event t = (said_of event (copy_at number t), with_copy number (copy_after event (copy_at number t)) t)

-- ---- a CB_OFFLOAD: it is told the copy that its stateid names, or held where there is room

abbrev pub names : StateId → Option ClientCopy → Bool
names id None = false
names id (Some c) = is_called id c.id

abbrev pub named_by : StateId → Copies → Option ℕ
named_by id t = position (names id) t.copies

abbrev pub held_if : Bool → HeldOffload → Copies → Named × Copies
held_if true one t = (named.Held, record t { held = t.held ++ one ∷ [] })
held_if false one t = (named.Full, t)

abbrev pub offloaded_to : Option ℕ → StateId → OffloadEnd → Copies → Named × Copies
offloaded_to None id end t = held_if (has_room t.held) (record { id = id; end = end }) t
offloaded_to (Some number) id end t =
    (named.Copy number (told_at number (events.Offloaded end) t).0, (told_at number (events.Offloaded end) t).1)

abbrev pub offloaded_in : StateId → OffloadEnd → Copies → Named × Copies
offloaded_in id end t = offloaded_to (named_by id t) id end t

-- ---- COPY was answered OK: what was held for its stateid is told, and held no more

abbrev pub joined : Said → Said → Said
joined (One first) (One second) = Two first second
joined (One first) Nothing = One first
joined (One first) (Two second third) = Two first second
joined Nothing second = second
joined (Two first second) more = Two first second

abbrev pub released : StateId → Copies → Copies
released id t = record t { held = held_for_others id t.held }

abbrev pub told_held : ℕ → Option OffloadEnd → Said → Copies → Said × Copies
told_held number None said t = (said, t)
told_held number (Some end) said t =
    (joined said (told_at number (events.Offloaded end) t).0, (told_at number (events.Offloaded end) t).1)

abbrev pub accepted_by : ℕ → StateId → Said × Copies → Said × Copies
accepted_by number id o = told_held number (told_for id o.1.held) o.0 (released id o.1)

abbrev pub accepted_at : ℕ → StateId → ℕ → Copies → Said × Copies
accepted_at number id sent_at t = accepted_by number id (told_at number (events.Accepted id sent_at) t)
