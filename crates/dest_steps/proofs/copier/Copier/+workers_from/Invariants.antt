use Rattle.dest_steps.proofs.copier.Copier.+workers_from.Given as goal

abbrev pub decreases-workers_from : goal.decreases-workers_from
decreases-workers_from g l = l.left
