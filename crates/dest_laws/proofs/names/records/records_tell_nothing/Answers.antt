use Rattle.dest_laws.proofs.names.Taken.{record_fits, record_own, record_told}
use Rattle.dest_laws.proofs.names.records.records_tell_nothing.Goals as goal

pub returns : goal.returns
returns g c = record {
  told = λ mech. record_told _ _ _ (c.own_parts_go_on.ensures.step mech);
  sealed = λ mech conn message now s before after t is own later. record_own _ _ _ conn message now s before after t own later is;
  sessions = λ mech. record_fits _ _ _;
}
