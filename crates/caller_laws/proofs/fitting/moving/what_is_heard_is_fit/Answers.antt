use Rattle.caller_laws.proofs.fitting.moving.what_is_heard_is_fit.Goals as goal
use Rattle.caller_laws.specs.Fitting.TakeLaws.{takes_fit}

pub returns : goal.returns
returns c = λ means place message m are h. (takes_fit means place message are m h).told
