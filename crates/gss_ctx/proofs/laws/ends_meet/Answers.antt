use Rattle.gss_ctx.proofs.EndLemmas.{sealed_is_admitted, sealed_is_result}
use Rattle.gss_ctx.proofs.laws.ends_meet.Goals as goal

pub returns : goal.returns
returns g c =
    let mic = g.M.Mechanism.mic_of in
    let sized = g.met.M.Mechanism.sized in
    record {
      call = λ now table side head asked args entry is fits small. sealed_is_admitted mic now table side head asked args entry sized is fits small;
      reply = λ side head asked args result fits small. sealed_is_result mic side head asked args result sized fits small;
    }
