use Rattle.dest_work.proofs.work.+await_from.Given as goal

abbrev pub decreases-await_from : goal.decreases-await_from
decreases-await_from l = l.left
