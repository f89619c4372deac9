use Rattle.dest_tasks.proofs.tasks.+find_from.Given as goal

abbrev pub decreases-find_from : goal.decreases-find_from
decreases-find_from l = l.left
