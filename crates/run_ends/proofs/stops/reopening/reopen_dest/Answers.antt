use Rattle.std.proofs.Common.{◌<◌, ◌^◌, rules}
use Rattle.run_ends.proofs.stops.Anew.{may_open, reopens}
use Rattle.run_ends.proofs.stops.reopening.reopen_dest.Goals as goal

pub open-requires : goal.open-requires
open-requires g c =
    record {
      volume = may_open g.D.Disk.Told g.D.Disk.size g.D.Disk.fuse g.D.Disk.timeline c.args.core.server.files.volume.disk c.close-disk.result.0 c.crash.new.self
          c.close-disk.ensures.disk c.crash.ensures.left c.crash.ensures.settled c.crash.ensures.size c.requires;
    }

pub returns-in-Ok-clause-reopened : goal.returns-in-Ok-clause-reopened
returns-in-Ok-clause-reopened g c =
    let few : c.boot-boot.result < 2 ^ 32 = search rules in
    reopens g.D.Disk.Told g.D.Disk.size g.D.Disk.fuse g.D.Disk.timeline c.args.core.server.files.volume.disk c.close-disk.result.0 c.crash.new.self
    g.D.Disk.faults c.in-Ok.next.server.files.volume c.boot-boot.result c.close-disk.ensures.disk c.crash.ensures.left c.crash.ensures.size c.crash.ensures.faults c.crash.ensures.fuse
    (λ t. record {
      volume = rw c.in-Ok.is at (c.in_ok-next.ensures.volume t);
      tag_is = rw c.in-Ok.is at (c.in_ok-next.ensures.tag t);
      homes_are = rw c.in-Ok.is at (c.in_ok-next.ensures.homes t);
    })
    (λ none. rw c.in-Ok.is at (c.in_ok-next.ensures.unset none))
    (rw c.in-Ok.is at c.in_ok-next.ensures.size) (rw c.in-Ok.is at c.in_ok-next.ensures.faults) c.boot-boot.ensures.value few
