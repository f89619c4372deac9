use Rattle.caller_laws.proofs.fitting.asking.calls_are_spelled.Goals as goal
use Rattle.caller_laws.specs.Fitting.OperationLaws.{slot_fits, sole_fits}

pub returns : goal.returns
returns c = record { in_slot = slot_fits; alone = sole_fits }
