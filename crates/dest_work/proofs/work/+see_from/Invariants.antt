use Rattle.dest_work.proofs.work.+see_from.Given as goal

abbrev pub decreases-see_from : goal.decreases-see_from
decreases-see_from l = l.left
