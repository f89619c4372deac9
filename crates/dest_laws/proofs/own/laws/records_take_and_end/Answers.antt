use Rattle.dest_laws.proofs.own.Records.{record_takes, tick_ends}
use Rattle.dest_laws.proofs.own.laws.records_take_and_end.Goals as goal

pub returns : goal.returns
returns g c = record {
  record_ = λ mech. record_takes _ _ _ (c.own_parts_go_on.ensures.step mech);
  tick = tick_ends;
}
