use Rattle.wire_spelling.specs.RunLaws.{has_run_with, not_run_with, none_run}
use Rattle.wire_spelling.proofs.laws.runs_are_told.Goals as goal

pub returns : goal.returns
returns c = record { run = has_run_with; not_run = not_run_with; none = none_run }
