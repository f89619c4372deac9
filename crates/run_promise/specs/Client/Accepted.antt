-- The events of a schedule that its grammar accepts: each may come after those before it, and its numbers fit their types. Own.
use Rattle.std.specs.Prelude.{◌≡◌, true, List, [], ◌∷◌}
use Rattle.wire_machine.specs.Runs.{Numbered}
use Rattle.wire_schedule.specs.Admission.{admits, after}
use Rattle.wire_schedule.specs.Spelling.{EventFits}
use Rattle.wire_schedule.specs.declared.context.Context.{Context}

abbrev pub AreAccepted : Context → List Numbered → Type 0
AreAccepted context [] = Unit {0}
AreAccepted context (e ∷ events) = (admits context e.event ≡ true) × EventFits e.event × AreAccepted (after context e.event) events
