use Rattle.std.proofs.Common.{◌-◌, None, IsTrue}
use Rattle.wire_log.specs.Keeping.{reading}
use Rattle.wire_machine.specs.Runs.{numbered}
use Rattle.run_ends.specs.Ends.{run_machines}
use Rattle.wire_run.specs.Running.{HasDisks}
use Rattle.wire_run.specs.Trace.{Happen, turn_of}
use Rattle.wire_run.proofs.system.System.run_turns.Given as goal
use Rattle.wire_schedule.specs.Expansion.{are_admitted, repeated}

abbrev pub invariant-loop-done : goal.invariant-loop-done
invariant-loop-done g l = record {
  happened : Happen g.D.Disk.Told
      (run_machines g.M.Mechanism.mic_of g.M.Mechanism.derived g.M.Mechanism.started g.M.Mechanism.accepted g.M.Mechanism.finished)
      reading g.D.Disk.faults g.D.Disk.size (numbered l.line (repeated l.done (turn_of l.works))) l.initial.self l.self (g.K.Stream.takes l.initial.out) (g.K.Stream.takes l.out) None;
  admitted : IsTrue (are_admitted l.self.context (repeated (l.times - l.done) (turn_of l.works)));
  disks : HasDisks l.self;
}
