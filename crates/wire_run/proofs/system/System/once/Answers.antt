use Rattle.wire_log.specs.Keeping.{reading}
use Rattle.run_ends.specs.Ends.{run_machines}
use Rattle.wire_run.proofs.Systems.{once_loses, once_says, once_sound}
use Rattle.wire_run.proofs.system.System.once.Goals as goal

pub invariant_of-self : goal.invariant_of-self
invariant_of-self g c =
    once_sound g.D.Disk.Told g.D.Disk.size g.D.Disk.fuse c.self.inside.context c.self.inside.mech c.self.inside.stage c.self.invariant c.args.self.now c.self.view_is
    c.args.event.now c.after-self-inside.result c.once.new.self c.requires.single c.requires.admitted c.after-self-inside.ensures c.once.ensures.keeps c.once.ensures.stops c.once.ensures.begun c.once.ensures.clock

pub invariant_of-self-in-Ok : goal.invariant_of-self-in-Ok
invariant_of-self-in-Ok g c =
    once_sound g.D.Disk.Told g.D.Disk.size g.D.Disk.fuse c.self.inside.context c.self.inside.mech c.self.inside.stage c.self.invariant c.args.self.now c.self.view_is
    c.args.event.now c.after-self-inside.result c.once.new.self c.requires.single c.requires.admitted c.after-self-inside.ensures c.once.ensures.keeps c.once.ensures.stops c.once.ensures.begun c.once.ensures.clock

pub invariant_of-self-in-Err : goal.invariant_of-self-in-Err
invariant_of-self-in-Err g c =
    once_sound g.D.Disk.Told g.D.Disk.size g.D.Disk.fuse c.self.inside.context c.self.inside.mech c.self.inside.stage c.self.invariant c.args.self.now c.self.view_is
    c.args.event.now c.after-self-inside.result c.once.new.self c.requires.single c.requires.admitted c.after-self-inside.ensures c.once.ensures.keeps c.once.ensures.stops c.once.ensures.begun c.once.ensures.clock

pub returns-in-Ok-clause-is : goal.returns-in-Ok-clause-is
returns-in-Ok-clause-is g c =
    (once_says g.D.Disk.Told g.D.Disk.size g.D.Disk.fuse c.self.inside.context c.self.inside.mech c.self.inside.stage c.self.invariant c.args.self.now c.self.view_is
    (run_machines g.M.Mechanism.mic_of g.M.Mechanism.derived g.M.Mechanism.started g.M.Mechanism.accepted g.M.Mechanism.finished) reading g.D.Disk.faults
    c.args.event.now c.after-self-inside.result c.once.new.self c.in-Ok.stepped c.requires.single c.after-self-inside.ensures
    (rw c.in-Ok.is at c.in_ok-stepped.ensures.goes) (rw c.in-Ok.is at c.in_ok-stepped.ensures.made) c.once.ensures.stops).is

pub returns-in-Err-clause-is : goal.returns-in-Err-clause-is
returns-in-Err-clause-is g c =
    (once_loses g.D.Disk.Told g.D.Disk.size g.D.Disk.fuse c.self.inside.context c.self.inside.mech c.self.inside.stage c.self.invariant c.args.self.now c.self.view_is
    (run_machines g.M.Mechanism.mic_of g.M.Mechanism.derived g.M.Mechanism.started g.M.Mechanism.accepted g.M.Mechanism.finished) reading g.D.Disk.faults
    c.args.event.now c.after-self-inside.result c.once.new.self c.in-Err.lost c.lose.new.self c.lose.result c.requires.single c.after-self-inside.ensures
    (rw c.in-Err.is at c.in_ok-stepped.ensures.goes) c.once.ensures.stops c.lose.ensures.lost c.lose.ensures.result).is

pub returns-in-Err-clause-disks : goal.returns-in-Err-clause-disks
returns-in-Err-clause-disks g c =
    (once_loses g.D.Disk.Told g.D.Disk.size g.D.Disk.fuse c.self.inside.context c.self.inside.mech c.self.inside.stage c.self.invariant c.args.self.now c.self.view_is
    (run_machines g.M.Mechanism.mic_of g.M.Mechanism.derived g.M.Mechanism.started g.M.Mechanism.accepted g.M.Mechanism.finished) reading g.D.Disk.faults
    c.args.event.now c.after-self-inside.result c.once.new.self c.in-Err.lost c.lose.new.self c.lose.result c.requires.single c.after-self-inside.ensures
    (rw c.in-Err.is at c.in_ok-stepped.ensures.goes) c.once.ensures.stops c.lose.ensures.lost c.lose.ensures.result).disks
