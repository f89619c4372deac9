use Rattle.caller_laws.proofs.fitting.moving.mounts_stay_fit.Goals as goal
use Rattle.caller_laws.specs.Fitting.StepLaws.{moved_fits}
use Rattle.caller_laws.specs.Fitting.TakeLaws.{fresh_fits}

pub returns : goal.returns
returns c = record { begin = fresh_fits; stay = moved_fits }
