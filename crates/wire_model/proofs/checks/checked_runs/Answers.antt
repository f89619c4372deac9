use Rattle.wire_model.proofs.Records.{passes_right, all_sent}
use Rattle.wire_model.proofs.checks.checked_runs.Goals as goal

pub returns-clause-unmistaken : goal.returns-clause-unmistaken
returns-clause-unmistaken c spell acts boot = passes_right acts boot spell

pub returns-clause-listed : goal.returns-clause-listed
returns-clause-listed c = all_sent
