use Rattle.opening_laws.proofs.Opened.{caller_anew}
use Rattle.opening_laws.proofs.anew.callers_open_anew.Goals as goal

pub returns : goal.returns
returns c = caller_anew
