use Rattle.std.proofs.Common.{refl}
use Rattle.dest_laws.proofs.calls.Principals.{record_same, reply_same, work_same}
use Rattle.dest_laws.proofs.calls.whole.principals_stay.Goals as goal

pub returns : goal.returns
returns g c = record {
  record_ = λ mech conn message now s before after t turn.
      record_same (record { mic = g.M.Mechanism.mic_of; derived = g.M.Mechanism.derived }) (g.M.Mechanism.accepted mech) g.W.Draws.gives
      (c.own_parts_go_on.ensures.step mech) conn message now s before after t turn;
  work = λ started codes place now s before after t work. work_same g.W.Draws.gives started codes place now s before after t work;
  reply = λ codes finish place message now s t reply. reply_same codes finish place message now s t reply;
  tick = λ codes now s. refl;
}
