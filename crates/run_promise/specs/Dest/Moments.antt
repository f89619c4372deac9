-- The destination of a run at its moments, and what it did in the step from each. Own definitions.
use Rattle.std.specs.Prelude.{◌≡◌, ℕ, suc, List, slice_get, Option, Some, None}
use Rattle.dest_core.specs.Stepping.{DestState, DestStep}
use Rattle.dest_laws.specs.Copies.Runs.{ShowsRun}
use Rattle.nfs_base.specs.declared.seal.End.TheVariants.{Dest}
use Rattle.run_ends.specs.Ends.{RunMachines, RunStep, RunWorld}
use Rattle.run_promise.specs.System.System.{telling}
use Rattle.session_server.specs.Host.{Codes}
use Rattle.wire_machine.specs.History.{acts_at, at_moment}
use Rattle.wire_machine.specs.World.{Part, all_idle}
use Rattle.wire_model.specs.Meaning.{Meaning}
use Rattle.wire_model.specs.Spelling.{Spelling}
use Rattle.wire_model.specs.System.{System}

-- past the last step it rests
abbrev pub dest_part : {M : Type 0} → Option (RunStep M) → Part
dest_part None = all_idle.dest
dest_part (Some s) = s.parts.dest

module _ {M : Type 0} (m : RunMachines M) (codes : Codes) (spell : Spelling) (meaning : Meaning) (first : RunWorld M) (steps : List (RunStep M)) where
  abbrev pub host_at : ℕ → DestState M
  host_at k = (at_moment m (telling codes) spell meaning first steps k).world.dest

  abbrev pub part_at : ℕ → Part
  part_at k = dest_part (slice_get steps k)

  abbrev pub step_at : ℕ → DestStep M
  step_at k = record { host = host_at (suc k); out = (part_at k).out }

  -- A system shows it at every moment, and in every step what it took, who tells of that, and what it executed.
  pub record ShowsAs (s : System) : Type 0 where
    pub run : ShowsRun spell meaning s host_at step_at
    pub took : (k : ℕ) → run.took k ≡ (part_at k).took
    pub speaker : (k : ℕ) → run.speaker k ≡ (part_at k).speaker
    pub executed : (k : ℕ) → run.executed k ≡ (acts_at m (telling codes) spell meaning first steps Dest k).executed
