-- What holds of a destination between its steps, for lengths and landings. Own definitions.
use Rattle.std.specs.Prelude.{◌≡◌, ℕ, []}
use Rattle.dest_core.specs.Stepping.{DestState, DestStep, copier_in}
use Rattle.dest_laws.specs.Landings.Posted.{ArePosted}
use Rattle.dest_laws.specs.View.Dues.{HoldsWell, LandsWell}
use Rattle.wire_machine.specs.History.{effect_of}
use Rattle.wire_model.specs.Meaning.{Meaning}
use Rattle.wire_model.specs.Spelling.{Spelling}
use Rattle.wire_model.specs.System.{System, dest_effect}

-- nothing is left that was noted, and workers ask by the plans of their jobs
pub record IsOrderly {M : Type 0} (d : DestState M) : Type 0 where
  pub silent : (copier_in d).copies.told ≡ []
  pub posted : ArePosted (copier_in d)

-- What a step owes: the lengths and the landings that are entered are due, what lands and what is held was at hand, and what the
-- step is to the volume is the effect of the call that it made.
pub record LandsAndHolds {M : Type 0} (spell : Spelling) (meaning : Meaning) (s : System) (k : ℕ) (t : DestStep M) : Type 0 where
  pub lands : LandsWell spell meaning s k
  pub holds : HoldsWell spell meaning s k
  pub effect : dest_effect s k ≡ effect_of t.host.state.machine.store.volume t.out.used
