use Rattle.caller_laws.proofs.fitting.CodeBytes.{draws_are}
use Rattle.caller_laws.proofs.fitting.codes.counted_draws_are_nonces.Goals as goal

pub returns : goal.returns
returns c = draws_are
