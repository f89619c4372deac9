use Rattle.large_copy.proofs.Fitting.{entries_fit}
use Rattle.large_copy.proofs.laws.large_events_fit.Goals as goal

pub returns : goal.returns
returns c = λ n some few. entries_fit n few
