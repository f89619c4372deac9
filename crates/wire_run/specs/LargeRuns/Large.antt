-- The run of a large copy, of which a tally is kept in place of its lines. Own definitions.
use Rattle.std.specs.Prelude.{◌≡◌, ℕ, List, [], Option, None, Some}
use Rattle.large_copy.specs.Large.{large_events}
use Rattle.run_ends.specs.Ends.{RunMachines}
use Rattle.streams.specs.Stream.{Taking}
use Rattle.wire_machine.specs.Check.{Reading}
use Rattle.wire_machine.specs.Runs.{numbered}
use Rattle.wire_run.specs.Run.{RanHasCause, RanIs}
use Rattle.wire_run.specs.Running.{Running}
use Rattle.wire_run.specs.declared.large_runs.large.Large.{Large}
use Rattle.wire_tally.specs.Tally.{no_tally, tallied}

-- a sink that took these bytes, and never failed
abbrev pub as_taken : List ℕ → Taking
as_taken text = record { taken = Some text; pieces = None; faults = 0; failing = [] }

-- Its events ran as those of a schedule do that has them all in its first line, and these lines are the transcript that is due, with its
-- last line where the run is whole. The tally is theirs.
pub record RunsLarge {D M : Type 0} (told : Type 0) (m : RunMachines M) (read : Reading) (faults size : D → ℕ) (mech : M) (mebibytes : ℕ)
    (old new : Running D M) (large : Large) : Type 0 where
  pub lines : List ℕ
  pub is : RanIs told m read faults size mech (numbered 1 (large_events mebibytes)) old new (Some []) (Some lines) large.ran
  pub cause : RanHasCause faults old new 0 0 large.ran
  pub tally : told → large.tally ≡ tallied lines no_tally
