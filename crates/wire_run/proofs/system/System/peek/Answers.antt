use Rattle.std.proofs.Common.{sym, ap, ◌∙◌}
use Rattle.wire_run.specs.Running.{Running}
use Rattle.wire_run.proofs.PeekStops.{peek_sound}
use Rattle.wire_run.proofs.Shown.{Says, is_open, says}
use Rattle.wire_run.proofs.system.System.peek.Goals as goal

pub read-requires-clause-open : goal.read-requires-clause-open
read-requires-clause-open g c =
    is_open g.D.Disk.Told g.D.Disk.size g.D.Disk.fuse c.args.file c.self.inside.context c.self.inside.mech c.self.inside.stage c.args.self.now c.self.invariant c.self.view_is
    c.args.side c.requires.file c.requires.disks

pub returns : goal.returns
returns g c =
    let said : Says g.D.Disk.Told g.D.Disk.faults g.D.Disk.size c.args.side c.args.file c.args.off c.args.self.now _ c.args.out.now c.read.new.out c.read.result =
    says g.D.Disk.Told g.D.Disk.faults g.D.Disk.size c.args.file c.args.off c.args.out.now c.read.new.out c.read.result
    g.D.Disk.fuse c.self.inside.context c.self.inside.mech c.self.inside.stage c.read.new.self c.args.self.now c.self.invariant c.self.view_is
    c.args.side c.requires.file c.requires.disks c.read.ensures.peeks in
    record {
      bytes = λ t is. said.shown t (sym c.was_shown.ensures ∙ is);
      unread = λ is. said.unread (sym c.was_shown.ensures ∙ is);
      broken = λ is. c.was_shown.ensures ∙ said.broken is;
      still = said.still;
      context = ap (λ (r : Running g.row.D.Denot g.row.M.Denot). r.context) c.self.view_is;
      later = said.later;
      disks = said.disks c.requires.disks;
    }

pub invariant_of-self : goal.invariant_of-self
invariant_of-self g c =
    peek_sound g.D.Disk.Told g.D.Disk.size g.D.Disk.fuse c.self.inside.context c.self.inside.mech c.self.inside.stage c.self.invariant g.D.Disk.faults c.args.file c.args.off
    c.args.out.now c.read.new.out c.read.result c.args.side c.read.new.self c.read.ensures.peeks c.read.ensures.fuse
