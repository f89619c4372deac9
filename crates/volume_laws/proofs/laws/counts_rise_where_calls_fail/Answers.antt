use Rattle.volume_laws.proofs.Risen.{count_any, count_later, count_quiet, count_rose}
use Rattle.volume_laws.proofs.laws.counts_rise_where_calls_fail.Goals as goal

pub returns : goal.returns
returns g c = record {
  failed = count_rose g.D.Disk.Told;
  some = count_any g.D.Disk.Told;
  none = count_quiet g.D.Disk.Told;
  later = count_later g.D.Disk.Told;
}
