use Rattle.dest_steps.proofs.copier.Copier.+jobs_from.Given as goal

abbrev pub decreases-jobs_from : goal.decreases-jobs_from
decreases-jobs_from g l = l.left
