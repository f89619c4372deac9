-- A small step in which no server stops: its choice is by the calls that failed, and it is a small step whichever it is.
use Rattle.std.proofs.Common.{◌≡◌, ℕ, Bool, true, false, Option, None, refl}
use Rattle.std.specs.Prelude.{◌||◌, if◌then◌else◌}
use Rattle.nfs_base.specs.declared.side.Side.{Side}
use Rattle.wire_machine.specs.Ends.{Machines}
use Rattle.wire_machine.specs.Lines.{own_lines, told_by}
use Rattle.wire_machine.specs.Steps.{IsChoice, IsMade, IsSmall, Step, any_failed, choice_of, cut_by}
use Rattle.wire_machine.specs.World.{Parts, World}
use Rattle.wire_machine.specs.declared.choice.Choice.TheVariants.{Failed, Went}
use Rattle.wire_run.specs.Stage.{choice_by}
use Rattle.wire_schedule.specs.declared.event.Event.{Event}
use Rattle.wire_schedule.specs.declared.event.Event.TheVariants as kinds

-- ---- nobody stops in it

uncut_if : (failed : Bool) (side at : Side) → cut_by side at (if failed then Failed else Went) ≡ None
uncut_if true side at = refl
uncut_if false side at = refl

pub uncut : (parts : Parts) (side at : Side) → cut_by side at (choice_of parts) ≡ None
uncut parts side at = uncut_if (any_failed parts.source.out.used || any_failed parts.dest.out.used) side at

pub uncut_peek : (failed : Bool) (side at : Side) → cut_by side at (choice_by failed) ≡ None
uncut_peek true side at = refl
uncut_peek false side at = refl

module _ {S T C W : Type 0} (m : Machines S T C W) where
  -- ---- a peek is made, whether its own call failed or not

  pub made_peek : (failed : Bool) (event : Event) (before : World S T C W) (parts : Parts) (after : World S T C W)
      → IsSmall m event before parts after → IsMade m (choice_by failed) event before parts after
  made_peek true event before parts after small = small
  made_peek false event before parts after small = small

  -- ---- its choice is that of the servers' calls, but for a peek's

  chosen_if : (failed : Bool) (event : Event) (parts : Parts) → (if failed then Failed else Went) ≡ choice_of parts
      → (Failed ≡ choice_of parts → IsChoice m event parts Failed) → (Went ≡ choice_of parts → IsChoice m event parts Went)
      → IsChoice m event parts (if failed then Failed else Went)
  chosen_if true event parts is as_failed as_went = as_failed is
  chosen_if false event parts is as_failed as_went = as_went is

  pub chosen : (event : Event) (parts : Parts)
      → (Failed ≡ choice_of parts → IsChoice m event parts Failed) → (Went ≡ choice_of parts → IsChoice m event parts Went)
      → IsChoice m event parts (choice_of parts)
  chosen event parts as_failed as_went =
      chosen_if (any_failed parts.source.out.used || any_failed parts.dest.out.used) event parts refl as_failed as_went

  pub chosen_peek : (failed : Bool) (side : Side) (file off len : ℕ) (parts : Parts) → IsChoice m (kinds.Peek side file off len) parts (choice_by failed)
  chosen_peek true side file off len parts = tt
  chosen_peek false side file off len parts = tt

  -- ---- besides notes and records its lines are the event's own

  told_if : (failed : Bool) (w : World S T C W) (s : Step S T C W) → told_by m (if failed then Failed else Went) w s ≡ own_lines m w s.event s.choice
  told_if true w s = refl
  told_if false w s = refl

  pub told_small : (parts : Parts) (w : World S T C W) (s : Step S T C W) → told_by m (choice_of parts) w s ≡ own_lines m w s.event s.choice
  told_small parts w s = told_if (any_failed parts.source.out.used || any_failed parts.dest.out.used) w s

  pub told_peek : (failed : Bool) (w : World S T C W) (s : Step S T C W) → told_by m (choice_by failed) w s ≡ own_lines m w s.event s.choice
  told_peek true w s = refl
  told_peek false w s = refl
