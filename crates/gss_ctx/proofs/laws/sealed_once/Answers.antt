use Rattle.gss_ctx.proofs.SealLemmas.{sealed_is}
use Rattle.gss_ctx.proofs.laws.sealed_once.Goals as goal

pub returns : goal.returns
returns g c = λ key body carried side seq fits small. sealed_is (g.M.Mechanism.mic_of key side) seq body carried (g.met.M.Mechanism.sized key side) fits small
