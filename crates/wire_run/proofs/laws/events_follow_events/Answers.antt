use Rattle.wire_run.proofs.Tracing.{disks_along, happen_end, happen_join, happen_one}
use Rattle.wire_run.proofs.Turns.{context_on}
use Rattle.wire_run.proofs.laws.events_follow_events.Goals as goal

pub returns : goal.returns
returns g c = record {
  one = λ e old new before now result happens. happen_one _ _ _ _ _ e old new before now result happens;
  others = λ xs ys old middle new before put now result first later. happen_join _ _ _ _ _ xs ys old middle new before put now result first later;
  last = λ xs ys old new before now end over. happen_end _ _ _ _ _ xs ys old new before now end over;
  context = λ line events old new before now happened. context_on _ _ _ _ _ line events old new before now happened;
  disks = λ events old new before now result disks happened. disks_along _ _ _ _ _ events old new before now result disks happened;
}
