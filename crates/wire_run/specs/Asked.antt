-- Which small steps may stop a server: its own crash, and those behind a line that sets its fuse. Own definitions.
use Rattle.std.specs.Prelude.{◌≡◌, ◌||◌, Bool, false, List, [], ◌∷◌, None}
use Rattle.nfs_base.specs.declared.side.Side.{Side}
use Rattle.wire_machine.specs.Steps.{Step, cut_of}
use Rattle.wire_machine.specs.World.{World}
use Rattle.wire_run.specs.Watching.{crashes_in, sets_in}

-- Whose fuses were set, behind some small steps.
abbrev pub fuses_behind : {S T C W : Type 0} → (Side → Bool) → List (Step S T C W) → Side → Bool
fuses_behind fuses [] = fuses
fuses_behind fuses (s ∷ steps) = fuses_behind (λ side. fuses side || sets_in s.event side) steps

-- No small step stops a server but its own crash, unless its fuse was set before.
abbrev pub StopsAreAsked : {S T C W : Type 0} → (Side → Bool) → World S T C W → List (Step S T C W) → Type 0
StopsAreAsked fuses before [] = Unit {0}
StopsAreAsked fuses before (s ∷ steps) =
    ((side : Side) → (fuses side || crashes_in s.event side) ≡ false → cut_of side before s ≡ None)
    × StopsAreAsked (λ side. fuses side || sets_in s.event side) s.after steps
