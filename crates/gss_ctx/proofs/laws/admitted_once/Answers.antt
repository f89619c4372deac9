use Rattle.gss_ctx.proofs.OnceLemmas.{numbered_kept, shut_once, admitted_never_twice}
use Rattle.gss_ctx.proofs.laws.admitted_once.Goals as goal

pub returns : goal.returns
returns g c = record {
  start = λ owner boot. tt;
  kept = numbered_kept g.M.Mechanism.mic_of;
  shut = shut_once g.M.Mechanism.mic_of;
  once = admitted_never_twice g.M.Mechanism.mic_of;
}
