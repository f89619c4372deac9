use Rattle.std.proofs.Common.{sym, ◌+◌, ◌∙◌}
use Rattle.std.specs.String.{string_bytes}
use Rattle.wire_log.specs.Keeping.{reading}
use Rattle.run_ends.specs.Ends.{run_machines}
use Rattle.wire_run.proofs.Flows.{flows_past, flows_to}
use Rattle.wire_run.proofs.FlowStops.{delivered_keeps, delivered_on, delivered_stops, flow_fair, passed_keeps, passed_on, passed_stops}
use Rattle.wire_schedule.specs.declared.event.Event.TheVariants as kinds
use Rattle.wire_run.proofs.stage.Stage.flow_one.Goals as goal

pub deliver-requires : goal.deliver-requires
deliver-requires g c = flow_fair g.D.Disk.Told g.D.Disk.size g.D.Disk.fuse c.args.self.now c.requires.flowing c.requires.few

pub returns-then-is_waiting-clause-flows : goal.returns-then-is_waiting-clause-flows
returns-then-is_waiting-clause-flows g c =
    flows_to g.D.Disk.Told (run_machines g.M.Mechanism.mic_of g.M.Mechanism.derived g.M.Mechanism.started g.M.Mechanism.accepted g.M.Mechanism.finished) reading g.D.Disk.faults g.D.Disk.size
    c.args.self.now c.deliver.new.self (string_bytes c.args.text.now) (string_bytes c.deliver.new.text) c.deliver.result (sym c.is_waiting.ensures ∙ c.if-is_waiting.true) c.deliver.ensures.small c.deliver.ensures.grows

pub returns-then-is_waiting-clause-keeps : goal.returns-then-is_waiting-clause-keeps
returns-then-is_waiting-clause-keeps g c =
    delivered_keeps g.D.Disk.Told g.D.Disk.size g.D.Disk.fuse c.args.self.now c.deliver.new.self c.requires.flowing c.requires.more c.requires.few c.deliver.ensures.keeps c.deliver.ensures.grows c.deliver.ensures.clock

pub returns-then-is_waiting-clause-stops : goal.returns-then-is_waiting-clause-stops
returns-then-is_waiting-clause-stops g c = delivered_stops g.D.Disk.Told g.D.Disk.size g.D.Disk.fuse c.args.self.now c.deliver.new.self c.deliver.ensures.keeps.flowed c.deliver.ensures.stops

pub returns-then-is_waiting-clause-flowing : goal.returns-then-is_waiting-clause-flowing
returns-then-is_waiting-clause-flowing g c =
    delivered_on g.D.Disk.Told (run_machines g.M.Mechanism.mic_of g.M.Mechanism.derived g.M.Mechanism.started g.M.Mechanism.accepted g.M.Mechanism.finished) reading g.D.Disk.faults g.D.Disk.size
    g.D.Disk.fuse (kinds.Deliver (c.args.self.now.flowed + 1)) c.args.self.now c.deliver.new.self (string_bytes c.args.text.now) (string_bytes c.deliver.new.text) c.deliver.result c.requires.flowing
    (delivered_keeps g.D.Disk.Told g.D.Disk.size g.D.Disk.fuse c.args.self.now c.deliver.new.self c.requires.flowing c.requires.more c.requires.few c.deliver.ensures.keeps c.deliver.ensures.grows c.deliver.ensures.clock)
    (delivered_stops g.D.Disk.Told g.D.Disk.size g.D.Disk.fuse c.args.self.now c.deliver.new.self c.deliver.ensures.keeps.flowed c.deliver.ensures.stops)
    c.deliver.ensures.small

pub returns-else-is_waiting-clause-flows : goal.returns-else-is_waiting-clause-flows
returns-else-is_waiting-clause-flows g c =
    flows_past g.D.Disk.Told (run_machines g.M.Mechanism.mic_of g.M.Mechanism.derived g.M.Mechanism.started g.M.Mechanism.accepted g.M.Mechanism.finished) reading g.D.Disk.faults g.D.Disk.size
    c.args.self.now (string_bytes c.args.text.now) (sym c.is_waiting.ensures ∙ c.if-is_waiting.false)

pub returns-else-is_waiting-clause-keeps : goal.returns-else-is_waiting-clause-keeps
returns-else-is_waiting-clause-keeps g c = passed_keeps g.D.Disk.Told g.D.Disk.size g.D.Disk.fuse c.args.self.now c.requires.flowing c.requires.more c.requires.few (sym c.is_waiting.ensures ∙ c.if-is_waiting.false)

pub returns-else-is_waiting-clause-stops : goal.returns-else-is_waiting-clause-stops
returns-else-is_waiting-clause-stops g c = passed_stops g.D.Disk.Told g.D.Disk.size g.D.Disk.fuse c.args.self.now c.requires.flowing

pub returns-else-is_waiting-clause-flowing : goal.returns-else-is_waiting-clause-flowing
returns-else-is_waiting-clause-flowing g c = passed_on g.D.Disk.Told g.D.Disk.size g.D.Disk.fuse c.args.self.now c.requires.flowing c.requires.more c.requires.few (sym c.is_waiting.ensures ∙ c.if-is_waiting.false)
