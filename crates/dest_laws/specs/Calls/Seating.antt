-- What a destination's own rules do to it as a caller of its source: jobs that are accepted get seats. Own definitions.
use Rattle.std.specs.Prelude.{◌≡◌, ℕ, List, [], ◌∷◌}
use Rattle.dest_back.specs.Callbacks.{CallbackTable, posted}
use Rattle.dest_back.specs.declared.callbacks.Party.{Party}
use Rattle.dest_core.specs.declared.destination.Destination.{Destination}
use Rattle.dest_steps.specs.declared.copier.Copier.{Copier}
use Rattle.mount.specs.Falling.{forgotten}
use Rattle.mount.specs.State.{Mounted}

-- a job sits at a seat from now on, and this party is told how it ends
pub record Seating : Type 0 where
  pub seat : ℕ
  pub job : ℕ
  pub party : Party

-- nothing of the jobs before is left at these seats, one after another
abbrev pub seats_forgotten : List Seating → Mounted → Mounted
seats_forgotten [] m = m
seats_forgotten (one ∷ more) m = seats_forgotten more (forgotten one.seat m)

abbrev pub seats_posted : List Seating → CallbackTable → CallbackTable
seats_posted [] c = c
seats_posted (one ∷ more) c = seats_posted more (posted one.seat one.job one.party c)

pub record Seats (x y : Copier) : Type 0 where
  pub seated : List Seating
  pub mount : y.work.mount ≡ seats_forgotten seated x.work.mount
  pub back_is : y.back ≡ seats_posted seated x.back
  pub workers : y.work.workers ≡ x.work.workers
  pub principal : y.principal ≡ x.principal

-- and its mechanism stays
pub record SeatsAlong {M : Type 0} (x y : Destination M) : Type 0 where
  pub seats : Seats x.copier y.copier
  pub mech : y.mech ≡ x.mech
