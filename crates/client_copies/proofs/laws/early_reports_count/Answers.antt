use Rattle.client_copies.proofs.Early.{accept_after}
use Rattle.client_copies.proofs.laws.early_reports_count.Goals as goal

pub returns : goal.returns
returns c = accept_after
