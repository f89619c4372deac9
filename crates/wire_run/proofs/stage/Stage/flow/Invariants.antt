use Rattle.std.proofs.Common.{◌≤◌, ◌-◌, length}
use Rattle.std.specs.String.{string_bytes}
use Rattle.wire_log.specs.Keeping.{reading}
use Rattle.run_ends.specs.Ends.{run_machines}
use Rattle.wire_run.specs.Stage.{BeginsNone, FlowKeeps, FlowKeepsStops, IsFlowing, most_records}
use Rattle.wire_run.proofs.Flows.{HasFlowed}
use Rattle.wire_run.proofs.stage.Stage.flow.Given as goal

abbrev pub invariant-deliveries : goal.invariant-deliveries
invariant-deliveries g l = record {
  flowed : HasFlowed g.D.Disk.Told (run_machines g.M.Mechanism.mic_of g.M.Mechanism.derived g.M.Mechanism.started g.M.Mechanism.accepted g.M.Mechanism.finished) reading g.D.Disk.faults g.D.Disk.size l.last l.initial.self l.self (string_bytes l.text);
  keeps : FlowKeeps g.D.Disk.Told l.initial.self l.self;
  stops : FlowKeepsStops g.D.Disk.Told g.D.Disk.size g.D.Disk.fuse l.initial.self l.self;
  flowing : IsFlowing g.D.Disk.Told g.D.Disk.size g.D.Disk.fuse l.self;
  begun : BeginsNone l.initial.self.client l.self.client;
  all : l.last ≤ length l.self.log;
  few : l.last ≤ most_records;
}

abbrev pub decreases-deliveries : goal.decreases-deliveries
decreases-deliveries g l = l.last - l.self.flowed
