use Rattle.std.proofs.Common.{sym, ◌∙◌, ap}
use Rattle.run_ends.specs.First.{Shape}
use Rattle.wire_run.specs.declared.ends.SourceEnd.{SourceEnd}
use Rattle.wire_run.specs.Stage.{source_disk}
use Rattle.wire_run.specs.Watching.{fuse_in}
use Rattle.wire_run.proofs.Disarmed.{made_from, unmade_from}
use Rattle.wire_run.proofs.ends.SourceEnd.make.Goals as goal

pub returns-in-Ok-clause-made : goal.returns-in-Ok-clause-made
returns-in-Ok-clause-made g c =
    let shape : Shape = record { files = c.args.files; blocks = c.args.blocks } in
    let is = rw c.in-Ok.is at c.in_ok-core.ensures.made in
    record {
      disk = c.in-Disk.disk;
      core = c.in-Ok.core;
      old_is = sym c.replace.ensures.value ∙ c.in-Disk.is;
      new_is = c.replace-in-Ok.ensures.after;
      made = record {
        made = made_from g.D.Disk.faults g.D.Disk.size shape c.in-Disk.disk c.disarmed-disk.result c.disarmed-disk.ensures.size c.disarmed-disk.ensures.faults c.in-Ok.core is.made;
        fresh = is.fresh;
      };
    }

pub returns-in-Ok-clause-unset : goal.returns-in-Ok-clause-unset
returns-in-Ok-clause-unset g c =
    let shape : Shape = record { files = c.args.files; blocks = c.args.blocks } in
    let is = rw c.in-Ok.is at c.in_ok-core.ensures.made in
    let fits = made_from g.D.Disk.faults g.D.Disk.size shape c.in-Disk.disk c.disarmed-disk.result c.disarmed-disk.ensures.size c.disarmed-disk.ensures.faults c.in-Ok.core is.made in
    ap (λ (end : SourceEnd g.row.D.Denot g.row.M.Denot). fuse_in g.D.Disk.fuse (source_disk end)) c.replace-in-Ok.ensures.after
    ∙ rw c.in-Ok.is at (c.in_ok-core.ensures.unset (c.disarmed-disk.ensures.unset fits.fits))

pub returns-in-Err-clause-made : goal.returns-in-Err-clause-made
returns-in-Err-clause-made g c =
    let shape : Shape = record { files = c.args.files; blocks = c.args.blocks } in
    record {
      disk = c.in-Disk.disk;
      now = c.in-Err.disk;
      old_is = sym c.replace.ensures.value ∙ c.in-Disk.is;
      new_is = c.replace-in-Err.ensures.after;
      unmade = unmade_from g.D.Disk.faults g.D.Disk.size shape c.in-Disk.disk c.disarmed-disk.result c.disarmed-disk.ensures.size c.disarmed-disk.ensures.faults
          g.D.Disk.Told c.in-Err.disk c.in-Err.cause c.disarmed-disk.ensures.short (rw c.in-Err.is at c.in_ok-core.ensures.made);
    }
