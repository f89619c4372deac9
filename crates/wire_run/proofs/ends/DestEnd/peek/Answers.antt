use Rattle.std.proofs.Common.{length, ap, refl, ◌∙◌}
use Rattle.block_file.specs.Opened.{Opened}
use Rattle.wire_run.proofs.Acts.{dest_peeks, dest_peeks_none}
use Rattle.wire_run.proofs.Calling.{dest_fuse}
use Rattle.wire_run.proofs.ends.DestEnd.peek.Goals as goal

pub returns-then-files-file-clause-peeks : goal.returns-then-files-file-clause-peeks
returns-then-files-file-clause-peeks g c =
    dest_peeks_none g.D.Disk.Told g.D.Disk.faults g.D.Disk.size c.args.file c.args.off c.files.result c.args.out.now c.args.self.now c.in-Open.core c.in-Open.is
    (c.files.ensures.count ∙ ap (λ (v : Opened _). length v.volume.files) c.volume.ensures) c.if-files-file.true

pub returns-clause-peeks : goal.returns-clause-peeks
returns-clause-peeks g c =
    dest_peeks g.D.Disk.Told g.D.Disk.faults g.D.Disk.size c.args.file c.args.off c.args.out.now c.peek.new.out c.peek.result c.peeked.result c.peeked.ensures
    c.args.self.now _ c.in-Open.core c.peek.new.self c.in-Open.is refl
    c.peek.ensures.broken c.peek.ensures.bytes c.peek.ensures.still c.peek.ensures.counted c.peek.ensures.faults c.peek.ensures.cause c.peek.ensures.size

pub returns-then-files-file-clause-fuse : goal.returns-then-files-file-clause-fuse
returns-then-files-file-clause-fuse g c = dest_fuse g.D.Disk.fuse c.args.self.now c.in-Open.core c.in-Open.core c.in-Open.is refl

pub returns-clause-fuse : goal.returns-clause-fuse
returns-clause-fuse g c = dest_fuse g.D.Disk.fuse c.args.self.now c.in-Open.core c.peek.new.self c.in-Open.is c.peek.ensures.fuse
