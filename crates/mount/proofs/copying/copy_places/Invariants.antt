use Rattle.std.proofs.Common.{◌≡◌, ◌++◌, take, drop}
use Rattle.mount.proofs.copying.copy_places.Given as goal

abbrev pub invariant-loop-place : goal.invariant-loop-place
invariant-loop-place l = l.copies ≡ take l.place l.places ++ drop l.place l.initial.copies
