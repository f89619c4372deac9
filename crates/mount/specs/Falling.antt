-- How a mount begins again: its contexts are gone, but for those under which a call in a slot still awaits its answer.
use Rattle.std.specs.Prelude.{ℕ, ◌==◌, ◌||◌, if◌then◌else◌, Bool, true, false, List, filter, map, slice_set, Option, Some, None}
use Rattle.std.specs.List.{list_any}
use Rattle.mount.specs.declared.state.Aim.{Aim}
use Rattle.mount.specs.declared.state.Aim.TheVariants as aims
use Rattle.mount.specs.declared.state.Awaiting.{Awaiting}
use Rattle.mount.specs.declared.state.Pending.{Pending}
use Rattle.mount.specs.declared.state.Pending.TheVariants.{Init, Under}
use Rattle.mount.specs.declared.state.Standing.{Standing}
use Rattle.mount.specs.declared.state.Standing.TheVariants.{Down}
use Rattle.mount.specs.State.{Mounted, no_children, root_name, is_name, awaited_at, emptied}

-- ---- a context stays while it is the root's or a child's, or a call under it awaits its answer

abbrev pub pends_under : Pending → ℕ → Bool
pends_under (Init init) name = false
pends_under (Under context aim call) name = context == name

abbrev pub awaits_under : ℕ → Option Awaiting → Bool
awaits_under name None = false
awaits_under name (Some a) = pends_under a.pending name

abbrev pub is_used : Option ℕ → List (Option ℕ) → List (Option Awaiting) → ℕ → Bool
is_used root children places name =
    is_name root name || list_any (λ child. is_name child name) children || list_any (awaits_under name) places

abbrev pub tidied : Mounted → Mounted
tidied m = record m { contexts = filter (λ c. is_used (root_name m.standing) m.children m.places c.name) m.contexts }

-- ---- a mount begins again

abbrev pub stays_for : Aim → Bool
stays_for aims.Slot = true
stays_for _ = false

abbrev pub stays_pending : Pending → Bool
stays_pending (Init init) = false
stays_pending (Under context aim call) = stays_for aim

abbrev pub staying : Option Awaiting → Option Awaiting
staying None = None
staying (Some a) = if stays_pending a.pending then Some a else None

abbrev pub fallen : Mounted → Mounted
fallen m = tidied (record m { standing = Down None; children = no_children; places = map staying m.places })

-- ---- what is awaited at a place is given up: an INIT is kept, to go out anew

abbrev pub standing_after : Standing → Pending → Standing
standing_after standing (Init init) = Down (Some init)
standing_after standing (Under context aim call) = standing

abbrev pub standing_without : Standing → Option Awaiting → Standing
standing_without standing None = standing
standing_without standing (Some a) = standing_after standing a.pending

abbrev pub given_up : ℕ → Mounted → Mounted
given_up place m = record (emptied place m) { standing = standing_without m.standing (awaited_at m place) }

-- a child isn't for anything any more
abbrev pub forgotten : ℕ → Mounted → Mounted
forgotten child m = record m { children = slice_set m.children child None }
