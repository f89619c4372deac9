use Rattle.std.proofs.Common.{refl}
use Rattle.std.specs.Prelude.{max}
use Rattle.dest_laws.proofs.calls.Staying.{record_owner, reply_owner, work_owner}
use Rattle.dest_laws.proofs.calls.whole.contexts_stay_own.Goals as goal

pub returns : goal.returns
returns g c = record {
  record_ = λ mech conn message now s before after t turn.
      record_owner (record { mic = g.M.Mechanism.mic_of; derived = g.M.Mechanism.derived }) (g.M.Mechanism.accepted mech) g.W.Draws.gives conn message now s before after t
      (λ j so. c.servers_send_replies.ensures.owner (g.M.Mechanism.accepted mech) (max s.second now) conn j s before after t so) turn;
  work = λ started codes place now s before after t work. work_owner g.W.Draws.gives started codes place now s before after t work;
  reply = λ codes finish place message now s t reply. reply_owner codes finish place message now s t reply;
  tick = λ codes now s. refl;
}
