use Rattle.caller_laws.proofs.StepLaws.{reopened, start_good, start_is}
use Rattle.caller_laws.proofs.laws.mounts_begin_lawful.Goals as goal

pub returns : goal.returns
returns c = record { good = start_good; start = start_is; reopened = reopened }
