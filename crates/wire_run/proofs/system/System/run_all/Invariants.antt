use Rattle.std.proofs.Common.{None, IsTrue, drop, take}
use Rattle.wire_log.specs.Keeping.{reading}
use Rattle.wire_machine.specs.Runs.{events_in}
use Rattle.run_ends.specs.Ends.{run_machines}
use Rattle.wire_run.specs.Running.{HasDisks}
use Rattle.wire_run.specs.Trace.{Happen}
use Rattle.wire_run.proofs.system.System.run_all.Given as goal
use Rattle.wire_schedule.specs.Expansion.{are_admitted, events_of_all}

abbrev pub invariant-loop-entry : goal.invariant-loop-entry
invariant-loop-entry g l = record {
  happened : Happen g.D.Disk.Told
      (run_machines g.M.Mechanism.mic_of g.M.Mechanism.derived g.M.Mechanism.started g.M.Mechanism.accepted g.M.Mechanism.finished)
      reading g.D.Disk.faults g.D.Disk.size (events_in (take l.entry-index l.entry-items)) l.initial.self l.self (g.K.Stream.takes l.initial.out) (g.K.Stream.takes l.out) None;
  admitted : IsTrue (are_admitted l.self.context (events_of_all (drop l.entry-index l.entry-items)));
  disks : HasDisks l.self;
}
