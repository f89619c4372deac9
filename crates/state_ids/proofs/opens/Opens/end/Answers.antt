use Rattle.std.proofs.Common.{◌≤◌, ◌==◌}
use Rattle.std.specs.Prelude.{not}
use Rattle.std.proofs.lemmas.List.Elements.{All-filter}
use Rattle.state_ids.proofs.opens.Opens.end.Goals as goal

pub invariant_of-self : goal.invariant_of-self
invariant_of-self c = record {
  numbers_made = c.self.invariant.numbers_made;
  seqids = rw c.close_client.ensures.items (All-filter (λ o. not (o.client == c.args.client)) (λ o. o.seqid ≤ c.self.inside.made) c.self.inside.opens.items c.self.invariant.seqids);
  room = rw c.close_client.ensures.capacity c.self.invariant.room;
}
