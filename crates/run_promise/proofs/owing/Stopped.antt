-- Where the destination of a run stops, an opening is at its first moment, and as a caller it has the next number.
use Rattle.std.proofs.Common.{◌≡◌, ℕ, suc, List, Some, refl, ap, arith}
use Rattle.std.specs.Prelude.{Option}
use Rattle.client_laws.specs.WholeTurns.{Purposes}
use Rattle.nfs_base.specs.declared.seal.End.TheVariants.{Dest, Source}
use Rattle.run_ends.specs.Ends.{RunMachines, RunStep, RunWorld}
use Rattle.run_promise.specs.Opening.Openings.{began, begun_by, cut_at}
use Rattle.run_promise.specs.Opening.Systems.{turn_at}
use Rattle.run_promise.specs.System.Moments.{world_at}
use Rattle.run_promise.specs.System.System.{ClientView, system_of, telling}
use Rattle.session_server.specs.Host.{Codes}
use Rattle.volume_stops.specs.declared.kept.Kept.{Kept}
use Rattle.wire_model.specs.Meaning.{Meaning}
use Rattle.wire_model.specs.Spelling.{Spelling}

module _ {M : Type 0} (m : RunMachines M) (codes : Codes) (spell : Spelling) (meaning : Meaning) (seen : ClientView M) (first : RunWorld M)
    (steps : List (RunStep M)) (purposes : ℕ → Purposes) where
  pub at_first : (k : ℕ) (kept : Kept) → cut_at m (telling codes) spell meaning first steps k ≡ Some kept
      → turn_at m codes spell meaning seen first steps purposes (suc k) ≡ 0
  at_first k kept some =
      let now : began m (telling codes) spell meaning first steps (suc k) ≡ suc k =
      ap (λ (o : Option Kept). begun_by o (suc k) (began m (telling codes) spell meaning first steps k)) some in
      omega (arith, now)

  pub boot_is : (k : ℕ) → ((system_of m codes spell meaning seen first steps purposes).caller Source Dest k).boot
      ≡ (world_at m (telling codes) spell meaning first steps k).dest.state.machine.store.volume.boot
  unfolding system_of
  boot_is k = refl
