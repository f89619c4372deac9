-- Steps of a run in which the destination stops, and openings that begin behind them. Own definitions.
use Rattle.std.specs.Prelude.{◌≡◌, ℕ, suc, List, [], slice_get, Some}
use Rattle.nfs_base.specs.declared.side.Side.TheVariants as sides
use Rattle.run_ends.specs.Ends.{RunMachines, RunStep, RunWorld}
use Rattle.run_ends.specs.Opening.{IsDestAnew}
use Rattle.run_promise.specs.Opening.Openings.{began, cut_at}
use Rattle.run_promise.specs.System.Moments.{world_at}
use Rattle.run_promise.specs.System.System.{telling}
use Rattle.session_server.specs.Host.{Codes}
use Rattle.volume_stops.specs.declared.kept.Kept.{Kept}
use Rattle.wire_machine.specs.Steps.{cut_of}
use Rattle.wire_model.specs.Meaning.{Meaning}
use Rattle.wire_model.specs.Spelling.{Spelling}

module _ {M : Type 0} (m : RunMachines M) (codes : Codes) (spell : Spelling) (meaning : Meaning) (first : RunWorld M) (steps : List (RunStep M)) where
  -- In the step from a moment the destination made its calls, stopped, sent nothing, and was opened anew with this kept.
  pub record StopsAt (k : ℕ) (kept : Kept) : Type 0 where
    pub step : RunStep M
    pub is : slice_get steps k ≡ Some step
    pub cut : cut_of sides.Dest (world_at m (telling codes) spell meaning first steps k) step ≡ Some kept
    pub anew : IsDestAnew (world_at m (telling codes) spell meaning first steps k).dest step.parts.dest.out.used kept
        (world_at m (telling codes) spell meaning first steps (suc k)).dest
    pub sent : step.parts.dest.out.sent ≡ []

  -- The opening at a moment began behind such a step.
  pub record OpensAnew (k : ℕ) : Type 0 where
    pub before : ℕ
    pub kept : Kept
    pub follows : began m (telling codes) spell meaning first steps k ≡ suc before
    pub cut : cut_at m (telling codes) spell meaning first steps before ≡ Some kept
    pub stops : StopsAt before kept
