use Rattle.run_checks.specs.Right.{right_by}
use Rattle.run_checks.proofs.laws.records_tell.Goals as goal

pub returns : goal.returns
returns c = record { right = right_by }
