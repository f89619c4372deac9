-- How a destination's callbacks go on by its own rules: nothing new awaits its answer, and the lines stay. Own definitions.
use Rattle.std.specs.Prelude.{◌≡◌}
use Rattle.dest_back.specs.Callbacks.{CallbackTable}
use Rattle.dest_back.specs.declared.compound.Ended.{Ended}
use Rattle.dest_core.specs.declared.destination.Destination.{Destination}
use Rattle.dest_laws.specs.Names.Posts.{IsAwaited}

pub record StaysTold (before now : CallbackTable) : Type 0 where
  pub told : (told : Ended) → IsAwaited now told → IsAwaited before told
  pub lines : now.lines ≡ before.lines

abbrev pub KeepsCallbacks : {M : Type 0} → Destination M → Destination M → Type 0
KeepsCallbacks x y = StaysTold x.copier.back y.copier.back
