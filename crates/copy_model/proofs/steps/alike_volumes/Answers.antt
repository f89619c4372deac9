use Rattle.copy_model.proofs.Effects.{alike_after, alike_alone}
use Rattle.copy_model.proofs.steps.alike_volumes.Goals as goal

pub returns-clause-both : goal.returns-clause-both
returns-clause-both c = alike_after

pub returns-clause-one : goal.returns-clause-one
returns-clause-one c = alike_alone
