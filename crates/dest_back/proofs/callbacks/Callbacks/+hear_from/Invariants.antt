use Rattle.dest_back.proofs.callbacks.Callbacks.+hear_from.Given as goal

abbrev pub decreases-hear_from : goal.decreases-hear_from
decreases-hear_from g l = l.left
