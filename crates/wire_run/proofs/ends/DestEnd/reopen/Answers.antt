use Rattle.std.proofs.Common.{sym, ◌∙◌}
use Rattle.wire_run.proofs.Stopping.{dest_reopened}
use Rattle.wire_run.proofs.ends.DestEnd.reopen.Goals as goal

pub returns-in-Ok-2-clause-reopens : goal.returns-in-Ok-2-clause-reopens
returns-in-Ok-2-clause-reopens g c =
    dest_reopened g.D.Disk.Told g.D.Disk.size g.D.Disk.fuse g.D.Disk.timeline g.D.Disk.faults c.args.self.now _ c.in-Open.core c.in-Ok-2.core c.in-Ok.names.0 c.in-Ok.names.1 c.in-Ok.names.2
    (sym c.replace.ensures.value ∙ c.in-Open.is) c.replace-in-Ok-2.ensures.after (rw c.in-Ok-2.is at c.in_ok-core.ensures.reopened) c.in-Ok.ensures.source c.in-Ok.ensures.principal c.in-Ok.ensures.own
    (rw c.in-Ok-2.is at c.in_ok-core.ensures.new)
