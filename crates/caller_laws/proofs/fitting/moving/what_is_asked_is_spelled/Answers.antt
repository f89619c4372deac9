use Rattle.caller_laws.proofs.fitting.moving.what_is_asked_is_spelled.Goals as goal
use Rattle.caller_laws.specs.Fitting.StepLaws.{spelled_at}

pub returns : goal.returns
returns c = spelled_at
