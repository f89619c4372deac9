use Rattle.std.proofs.Common.{[], ◌≡◌, rules}
use Rattle.std.specs.String.{string_bytes}
use Rattle.wire_log.specs.Keeping.{reading}
use Rattle.run_ends.specs.Ends.{run_machines}
use Rattle.wire_run.specs.Running.{fault_in, text_in}
use Rattle.wire_run.proofs.FlowStops.{once_lost, once_went}
use Rattle.wire_run.proofs.stage.Stage.once.Goals as goal

pub returns-in-Ok-clause-goes : goal.returns-in-Ok-clause-goes
returns-in-Ok-clause-goes g c =
    let none : string_bytes c.new-text.result ≡ [] = search rules in
    once_went g.D.Disk.Told (run_machines g.M.Mechanism.mic_of g.M.Mechanism.derived g.M.Mechanism.started g.M.Mechanism.accepted g.M.Mechanism.finished) reading g.D.Disk.faults g.D.Disk.size
    c.args.event.now c.args.self.now c.small.new.self (string_bytes c.new-text.result) (string_bytes c.small.new.text) (text_in c.stepped.result) c.in_ok-fault.field-0 c.in-Ok.fault (fault_in c.stepped.result)
    none c.in-Ok.is c.in_ok-fault.ensures.small c.stepped.ensures.text c.stepped.ensures.fault

pub returns-in-Err-clause-goes : goal.returns-in-Err-clause-goes
returns-in-Err-clause-goes g c =
    once_lost g.D.Disk.Told (run_machines g.M.Mechanism.mic_of g.M.Mechanism.derived g.M.Mechanism.started g.M.Mechanism.accepted g.M.Mechanism.finished) reading g.D.Disk.faults g.D.Disk.size
    c.args.event.now c.args.self.now c.small.new.self (string_bytes c.new-text.result) (string_bytes c.small.new.text) c.in_ok-fault.field-0 c.in-Err.lost
    c.requires.fair.ready c.small.ensures.keeps.keeps c.in-Err.is c.in_ok-fault.ensures.small
