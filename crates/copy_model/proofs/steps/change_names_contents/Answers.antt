use Rattle.copy_model.proofs.Changes.{same_contents, changes_rise, boots_rise}
use Rattle.copy_model.proofs.steps.change_names_contents.Goals as goal

pub returns-clause-same : goal.returns-clause-same
returns-clause-same c = same_contents

pub returns-clause-rises : goal.returns-clause-rises
returns-clause-rises c = changes_rise

pub returns-clause-opened : goal.returns-clause-opened
returns-clause-opened c = boots_rise
