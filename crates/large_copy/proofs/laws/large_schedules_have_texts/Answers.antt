use Rattle.large_copy.specs.Large.{large_lines, large_schedule}
use Rattle.large_copy.proofs.Admitted.{numbered_admitted}
use Rattle.large_copy.proofs.Fitting.{lines_fit, lines_within}
use Rattle.large_copy.proofs.laws.large_schedules_have_texts.Goals as goal

pub returns : goal.returns
unfolding large_schedule
returns c = λ n some few. c.schedule_texts.ensures (large_lines n) (lines_fit n few) (lines_within n some few) (numbered_admitted n some few)
