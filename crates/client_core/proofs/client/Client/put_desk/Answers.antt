use Rattle.client_core.proofs.client.Client.put_desk.Goals as goal

pub invariant_of-self : goal.invariant_of-self
invariant_of-self g c = record { fit = c.self.invariant.fit; counted = rw c.end_backs.ensures.made c.self.invariant.counted }
