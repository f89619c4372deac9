use Rattle.std.proofs.Common.{refl}
use Rattle.dest_laws.proofs.calls.Boots.{record_boot, reply_boot, work_boot}
use Rattle.dest_laws.proofs.calls.openings.openings_stay.Goals as goal

pub returns : goal.returns
returns g c = record {
  record_ = λ mech conn message now s before after t is.
      record_boot _ _ _
      (λ conn message now s before after t turn.
      c.volumes_stay_fitting.ensures.opening s.state.machine.store t.host.state.machine.store t.out.used (c.steps_change_by_calls.ensures mech conn message now s before after t turn))
      conn message now s before after t is;
  work = λ started codes place now s before after t is. work_boot _ started codes place now s before after t is;
  reply = λ codes finish place message now s t is. reply_boot codes finish place message now s t is;
  tick = λ codes now s. refl;
}
