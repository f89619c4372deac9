-- A small step as it was made is a small step of the machines, or a stop of a server.
use Rattle.std.proofs.Common.{◌≡◌, ◌⊎◌, inl, inr, Bool, true, false, if◌then◌else◌, refl, sym, subst}
use Rattle.volume_stops.specs.declared.kept.Kept.{Kept}
use Rattle.wire_schedule.specs.declared.event.Event.{Event}
use Rattle.wire_machine.specs.declared.choice.Choice.{Choice}
use Rattle.wire_machine.specs.declared.choice.Choice.TheVariants.{Went, Failed, Stopped}
use Rattle.wire_machine.specs.Ends.{Machines}
use Rattle.wire_machine.specs.Steps.{IsCut, IsMade, IsSmall, choice_of}
use Rattle.wire_machine.specs.World.{Parts, World}

module _ {S T C W : Type 0} (m : Machines S T C W) where
  -- a stop of a server, and what was kept
  pub record Cut (choice : Choice) (event : Event) (before : World S T C W) (parts : Parts) (after : World S T C W) : Type 0 where
    pub kept : Kept
    pub is : choice ≡ Stopped kept
    pub cut : IsCut m event kept before parts after

  pub made_by : (choice : Choice) (event : Event) (before : World S T C W) (parts : Parts) (after : World S T C W) → IsMade m choice event before parts after
      → IsSmall m event before parts after ⊎ Cut choice event before parts after
  made_by Went event before parts after made = inl made
  made_by Failed event before parts after made = inl made
  made_by (Stopped kept) event before parts after made = inr (record { kept = kept; is = refl; cut = made })

  went_or_failed : (failed : Bool) (event : Event) (before : World S T C W) (parts : Parts) (after : World S T C W) → IsSmall m event before parts after
      → IsMade m (if failed then Failed else Went) event before parts after
  went_or_failed true event before parts after small = small
  went_or_failed false event before parts after small = small

  -- one without a stop, by what the disks did in it
  pub small_made : (choice : Choice) (event : Event) (before : World S T C W) (parts : Parts) (after : World S T C W) → choice ≡ choice_of parts
      → IsSmall m event before parts after → IsMade m choice event before parts after
  small_made choice event before parts after is small =
      subst (λ (c : Choice). IsMade m c event before parts after) (sym is) (went_or_failed _ event before parts after small)
