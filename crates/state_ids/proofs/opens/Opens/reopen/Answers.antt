use Rattle.std.proofs.Common.{◌≤◌, ◌+◌, arith}
use Rattle.state_ids.specs.Opens.{is_same, opened_again}
use Rattle.nfs_base.specs.ChangedLaws.{All-changed}
use Rattle.state_ids.proofs.opens.Opens.reopen.Goals as goal

pub invariant_of-self : goal.invariant_of-self
invariant_of-self c = record {
  numbers_made = omega (arith, c.self.invariant.numbers_made);
  seqids = rw c.open_again.ensures.items
      (All-changed (λ o. o.seqid ≤ c.self.inside.made) (λ o. o.seqid ≤ c.self.inside.made + 1) (is_same c.args.client c.args.owner.now c.args.file) (opened_again c.args.access) c.self.inside.opens.items (λ o h. omega arith) (λ o h. omega arith) c.self.invariant.seqids);
  room = rw c.open_again.ensures.capacity c.self.invariant.room;
}
