-- What the destination owes in a step of a run in which it stops.
use Rattle.std.specs.Prelude.{◌≡◌, ℕ, suc, List, slice_get, Some}
use Rattle.client_laws.specs.WholeTurns.{Purposes}
use Rattle.nfs_base.specs.declared.seal.End.TheVariants.{Dest}
use Rattle.nfs_base.specs.declared.side.Side.TheVariants as sides
use Rattle.run_ends.specs.Ends.{RunMachines, RunStep, RunWorld}
use Rattle.run_promise.specs.System.Moments.{world_at}
use Rattle.run_promise.specs.System.System.{ClientView, system_of, telling}
use Rattle.session_server.specs.Host.{Codes}
use Rattle.volume_stops.specs.declared.kept.Kept.{Kept}
use Rattle.wire_machine.specs.Steps.{cut_of}
use Rattle.wire_model.specs.CopyLaws.{VolumeLaws}
use Rattle.wire_model.specs.Meaning.{Meaning}
use Rattle.wire_model.specs.Spelling.{Spelling}
use Rattle.wire_model.specs.System.{System, dest_effect}
use Rattle.wire_model.specs.Told.{TakesSimple}

-- in a step from moment k the volume of a system's destination goes on by one effect that is allowed, where the destination takes only
-- what calls a volume once at most
abbrev pub GoesLawfully : Spelling → System → ℕ → Type 0
GoesLawfully spell s k = TakesSimple spell Dest (s.acts Dest k) → VolumeLaws (s.dest k) (s.dest (suc k)) (dest_effect s k)

-- so it does in each step in which the destination stops
abbrev pub CrashesLawfully : {M : Type 0} → RunMachines M → Codes → Spelling → Meaning → ClientView M → RunWorld M → List (RunStep M) → (ℕ → Purposes) → Type 0
CrashesLawfully {M} m codes spell meaning seen first steps purposes =
    (k : ℕ) (step : RunStep M) (kept : Kept) → slice_get steps k ≡ Some step → cut_of sides.Dest (world_at m (telling codes) spell meaning first steps k) step ≡ Some kept
    → GoesLawfully spell (system_of m codes spell meaning seen first steps purposes) k
