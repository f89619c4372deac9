use Rattle.wire_log.specs.Keeping.{reading}
use Rattle.run_ends.specs.Ends.{run_machines}
use Rattle.wire_run.proofs.Systems.{flow_arms, flow_loses, flow_says, flow_sound}
use Rattle.wire_run.proofs.system.System.flow.Goals as goal

pub invariant_of-self : goal.invariant_of-self
invariant_of-self g c =
    flow_sound g.D.Disk.Told g.D.Disk.size g.D.Disk.fuse c.self.inside.context c.self.inside.mech c.self.inside.stage c.self.invariant c.args.self.now c.self.view_is
    c.after-self-inside.result c.flow.new.self c.requires.admitted c.after-self-inside.ensures c.flow.ensures.keeps c.flow.ensures.stops c.flow.ensures.begun

pub invariant_of-self-in-Ok : goal.invariant_of-self-in-Ok
invariant_of-self-in-Ok g c =
    flow_sound g.D.Disk.Told g.D.Disk.size g.D.Disk.fuse c.self.inside.context c.self.inside.mech c.self.inside.stage c.self.invariant c.args.self.now c.self.view_is
    c.after-self-inside.result c.flow.new.self c.requires.admitted c.after-self-inside.ensures c.flow.ensures.keeps c.flow.ensures.stops c.flow.ensures.begun

pub invariant_of-self-in-Err : goal.invariant_of-self-in-Err
invariant_of-self-in-Err g c =
    flow_sound g.D.Disk.Told g.D.Disk.size g.D.Disk.fuse c.self.inside.context c.self.inside.mech c.self.inside.stage c.self.invariant c.args.self.now c.self.view_is
    c.after-self-inside.result c.flow.new.self c.requires.admitted c.after-self-inside.ensures c.flow.ensures.keeps c.flow.ensures.stops c.flow.ensures.begun

pub returns-in_err-stepped-clause-arms : goal.returns-in_err-stepped-clause-arms
returns-in_err-stepped-clause-arms g c =
    flow_arms g.D.Disk.Told g.D.Disk.size g.D.Disk.fuse c.self.inside.context c.self.inside.mech c.self.inside.stage c.self.invariant c.args.self.now c.self.view_is
    c.after-self-inside.result c.flow.new.self c.flow.ensures.stops

pub returns-in-Ok-clause-is : goal.returns-in-Ok-clause-is
returns-in-Ok-clause-is g c =
    (flow_says g.D.Disk.Told g.D.Disk.size g.D.Disk.fuse c.self.inside.context c.self.inside.mech c.self.inside.stage c.self.invariant c.args.self.now c.self.view_is
    (run_machines g.M.Mechanism.mic_of g.M.Mechanism.derived g.M.Mechanism.started g.M.Mechanism.accepted g.M.Mechanism.finished) reading g.D.Disk.faults
    c.after-self-inside.result c.flow.new.self c.in-Ok.stepped c.after-self-inside.ensures
    (rw c.in-Ok.is at c.in_ok-stepped.ensures.goes) (rw c.in-Ok.is at c.in_ok-stepped.ensures.made) c.flow.ensures.stops).is

pub returns-in-Ok-clause-arms : goal.returns-in-Ok-clause-arms
returns-in-Ok-clause-arms g c =
    (flow_says g.D.Disk.Told g.D.Disk.size g.D.Disk.fuse c.self.inside.context c.self.inside.mech c.self.inside.stage c.self.invariant c.args.self.now c.self.view_is
    (run_machines g.M.Mechanism.mic_of g.M.Mechanism.derived g.M.Mechanism.started g.M.Mechanism.accepted g.M.Mechanism.finished) reading g.D.Disk.faults
    c.after-self-inside.result c.flow.new.self c.in-Ok.stepped c.after-self-inside.ensures
    (rw c.in-Ok.is at c.in_ok-stepped.ensures.goes) (rw c.in-Ok.is at c.in_ok-stepped.ensures.made) c.flow.ensures.stops).arms

pub returns-in-Err-clause-is : goal.returns-in-Err-clause-is
returns-in-Err-clause-is g c =
    (flow_loses g.D.Disk.Told g.D.Disk.size g.D.Disk.fuse c.self.inside.context c.self.inside.mech c.self.inside.stage c.self.invariant c.args.self.now c.self.view_is
    (run_machines g.M.Mechanism.mic_of g.M.Mechanism.derived g.M.Mechanism.started g.M.Mechanism.accepted g.M.Mechanism.finished) reading g.D.Disk.faults
    c.after-self-inside.result c.flow.new.self c.in-Err.lost c.lose.new.self c.lose.result c.after-self-inside.ensures
    (rw c.in-Err.is at c.in_ok-stepped.ensures.goes) c.flow.ensures.stops c.lose.ensures.lost c.lose.ensures.result).is

pub returns-in-Err-clause-arms : goal.returns-in-Err-clause-arms
returns-in-Err-clause-arms g c =
    (flow_loses g.D.Disk.Told g.D.Disk.size g.D.Disk.fuse c.self.inside.context c.self.inside.mech c.self.inside.stage c.self.invariant c.args.self.now c.self.view_is
    (run_machines g.M.Mechanism.mic_of g.M.Mechanism.derived g.M.Mechanism.started g.M.Mechanism.accepted g.M.Mechanism.finished) reading g.D.Disk.faults
    c.after-self-inside.result c.flow.new.self c.in-Err.lost c.lose.new.self c.lose.result c.after-self-inside.ensures
    (rw c.in-Err.is at c.in_ok-stepped.ensures.goes) c.flow.ensures.stops c.lose.ensures.lost c.lose.ensures.result).arms

pub returns-in-Err-clause-disks : goal.returns-in-Err-clause-disks
returns-in-Err-clause-disks g c =
    (flow_loses g.D.Disk.Told g.D.Disk.size g.D.Disk.fuse c.self.inside.context c.self.inside.mech c.self.inside.stage c.self.invariant c.args.self.now c.self.view_is
    (run_machines g.M.Mechanism.mic_of g.M.Mechanism.derived g.M.Mechanism.started g.M.Mechanism.accepted g.M.Mechanism.finished) reading g.D.Disk.faults
    c.after-self-inside.result c.flow.new.self c.in-Err.lost c.lose.new.self c.lose.result c.after-self-inside.ensures
    (rw c.in-Err.is at c.in_ok-stepped.ensures.goes) c.flow.ensures.stops c.lose.ensures.lost c.lose.ensures.result).disks
