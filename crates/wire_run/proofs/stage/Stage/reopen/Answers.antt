use Rattle.wire_run.proofs.Stopping.{away_at, failing, lost_at, may_still, put_stop, reopened_at}
use Rattle.wire_run.specs.Watching.{no_stop}
use Rattle.wire_run.proofs.stage.Stage.reopen.Goals as goal

pub reopen_end-requires : goal.reopen_end-requires
reopen_end-requires g c =
    record {
      may = may_still g.D.Disk.Told g.D.Disk.size g.D.Disk.fuse g.D.Disk.timeline g.D.Disk.faults c.args.side c.args.self.now _
          (put_stop c.args.side c.args.self.now c.none.result no_stop c.put.new.self c.none.ensures c.put.ensures) c.requires.may;
    }

pub returns-in_err-disk-clause-away : goal.returns-in_err-disk-clause-away
returns-in_err-disk-clause-away g c =
    failing c.from_residual.result _
    (away_at g.D.Disk.Told g.D.Disk.size g.D.Disk.fuse g.D.Disk.timeline g.D.Disk.faults c.args.side c.args.self.now _ c.reopen_end.new.self
    (put_stop c.args.side c.args.self.now c.none.result no_stop c.put.new.self c.none.ensures c.put.ensures) c.in_err-disk.ensures.away)

pub returns-in-Err-clause-reopens : goal.returns-in-Err-clause-reopens
returns-in-Err-clause-reopens g c =
    lost_at g.D.Disk.Told g.D.Disk.size g.D.Disk.fuse g.D.Disk.timeline g.D.Disk.faults c.args.side c.args.self.now _ c.reopen_end.new.self c.in-Err.disk c.in-Err.cause
    (put_stop c.args.side c.args.self.now c.none.result no_stop c.put.new.self c.none.ensures c.put.ensures) (rw c.in-Err.is at c.in_ok-disk.ensures.reopens) c.reopen_end.ensures.rest

pub returns-in-Ok-clause-reopens : goal.returns-in-Ok-clause-reopens
returns-in-Ok-clause-reopens g c =
    reopened_at g.D.Disk.Told g.D.Disk.size g.D.Disk.fuse g.D.Disk.timeline g.D.Disk.faults c.args.side c.args.self.now _ c.reopen_end.new.self
    (put_stop c.args.side c.args.self.now c.none.result no_stop c.put.new.self c.none.ensures c.put.ensures) (rw c.in-Ok.is at c.in_ok-disk.ensures.reopens) c.reopen_end.ensures.rest
