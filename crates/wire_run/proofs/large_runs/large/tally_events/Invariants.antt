use Rattle.std.proofs.Common.{None, IsTrue, drop, take}
use Rattle.large_copy.specs.Large.{large_events}
use Rattle.run_ends.specs.Ends.{run_machines}
use Rattle.wire_log.specs.Keeping.{reading}
use Rattle.wire_run.proofs.large_runs.Tallying.{IsOfTexts}
use Rattle.wire_run.proofs.large_runs.large.tally_events.Given as goal
use Rattle.wire_run.specs.LargeRuns.Tallying.{IsServed, Tallies}
use Rattle.wire_run.specs.Running.{HasDisks}
use Rattle.wire_schedule.specs.Expansion.{are_admitted}

abbrev pub invariant-loop-place : goal.invariant-loop-place
invariant-loop-place g l = record {
  counts : Tallies g.D.Disk.Told
      (run_machines g.M.Mechanism.mic_of g.M.Mechanism.derived g.M.Mechanism.started g.M.Mechanism.accepted g.M.Mechanism.finished)
      reading g.D.Disk.faults g.D.Disk.size (take l.place (large_events l.plan)) l.initial.system l.system l.initial.tally l.tally None;
  admitted : IsTrue (are_admitted l.system.context (drop l.place (large_events l.plan)));
  disks : HasDisks l.system;
  served : IsServed l.system;
  few : IsOfTexts l.place l.tally;
}
