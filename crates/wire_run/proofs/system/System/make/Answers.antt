use Rattle.std.proofs.Common.{rules, ◌≡◌, []}
use Rattle.std.specs.String.{string_bytes}
use Rattle.wire_log.specs.Keeping.{reading}
use Rattle.run_ends.specs.Ends.{run_machines}
use Rattle.wire_run.proofs.Servers.{away_sound}
use Rattle.wire_run.proofs.Systems.{make_disk, make_says, make_sound, unmake_says}
use Rattle.wire_run.proofs.system.System.make.Goals as goal

pub returns-in-Err-clause-is : goal.returns-in-Err-clause-is
returns-in-Err-clause-is g c =
    (unmake_says g.D.Disk.Told g.D.Disk.size g.D.Disk.fuse c.self.inside.context c.self.inside.mech c.self.inside.stage c.self.invariant c.args.self.now c.self.view_is
    (run_machines g.M.Mechanism.mic_of g.M.Mechanism.derived g.M.Mechanism.started g.M.Mechanism.accepted g.M.Mechanism.finished) reading g.D.Disk.faults
    c.args.files c.args.blocks c.args.side c.make.new.self c.in-Err.cause c.requires.disks (rw c.in-Err.is at c.in_ok-cause.ensures.makes)).is

pub returns-in-Ok-clause-is : goal.returns-in-Ok-clause-is
returns-in-Ok-clause-is g c =
    let empty : string_bytes c.new.result ≡ [] = search rules in
    (make_says g.D.Disk.Told g.D.Disk.size g.D.Disk.fuse c.self.inside.context c.self.inside.mech c.self.inside.stage c.self.invariant c.args.self.now c.self.view_is
    (run_machines g.M.Mechanism.mic_of g.M.Mechanism.derived g.M.Mechanism.started g.M.Mechanism.accepted g.M.Mechanism.finished) reading g.D.Disk.faults
    c.args.files c.args.blocks c.args.side c.after-next.result c.make.new.self c.new.result c.after-next.ensures c.requires.disks (rw c.in-Ok.is at c.in_ok-cause.ensures.makes) empty).is

pub invariant_of-self : goal.invariant_of-self
invariant_of-self g c =
    away_sound g.D.Disk.Told g.D.Disk.size g.D.Disk.fuse c.self.inside.context c.self.inside.mech c.self.inside.stage c.self.invariant c.args.side c.make.new.self
    (make_disk g.D.Disk.Told g.D.Disk.size g.D.Disk.fuse c.self.inside.context c.self.inside.mech c.self.inside.stage c.self.invariant c.args.self.now c.self.view_is
    (run_machines g.M.Mechanism.mic_of g.M.Mechanism.derived g.M.Mechanism.started g.M.Mechanism.accepted g.M.Mechanism.finished) reading g.D.Disk.faults
    c.args.files c.args.blocks c.args.side c.requires.admitted c.requires.disks) c.in_err-cause.ensures.away

pub invariant_of-self-in-Ok : goal.invariant_of-self-in-Ok
invariant_of-self-in-Ok g c =
    make_sound g.D.Disk.Told g.D.Disk.size g.D.Disk.fuse c.self.inside.context c.self.inside.mech c.self.inside.stage c.self.invariant c.args.self.now c.self.view_is
    (run_machines g.M.Mechanism.mic_of g.M.Mechanism.derived g.M.Mechanism.started g.M.Mechanism.accepted g.M.Mechanism.finished) reading g.D.Disk.faults
    c.args.files c.args.blocks c.args.side c.after-next.result c.make.new.self c.requires.admitted c.after-next.ensures
    (rw c.in-Ok.is at c.in_ok-cause.ensures.makes) (rw c.in-Ok.is at c.in_ok-cause.ensures.unset)
