use Rattle.dest_tasks.proofs.workers.Workers.+follow_from.Given as goal

abbrev pub decreases-follow_from : goal.decreases-follow_from
decreases-follow_from l = l.left
