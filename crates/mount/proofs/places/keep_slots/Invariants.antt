use Rattle.std.proofs.Common.{◌≡◌, ◌++◌, take, drop}
use Rattle.std.specs.Prelude.{map}
use Rattle.mount.specs.Falling.{staying}
use Rattle.mount.proofs.places.keep_slots.Given as goal

abbrev pub invariant-loop-place : goal.invariant-loop-place
invariant-loop-place l = l.places ≡ map staying (take l.place-index l.initial.places) ++ drop l.place-index l.initial.places
