use Rattle.wire_tally.proofs.Growth.{grows}
use Rattle.wire_tally.proofs.laws.tallies_grow_by_bytes.Goals as goal

pub returns : goal.returns
returns c = record {
  stable = λ text t. (grows text t).stable;
  exact = λ text t. (grows text t).exact;
  landed = λ text t. (grows text t).landed;
}
