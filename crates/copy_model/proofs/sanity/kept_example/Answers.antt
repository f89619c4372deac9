use Rattle.copy_model.proofs.GoodRun.{good_kept}
use Rattle.copy_model.proofs.sanity.kept_example.Goals as goal

pub returns-clause-kept : goal.returns-clause-kept
returns-clause-kept c = good_kept
