use Rattle.std.proofs.Common.{◌≡◌, ◌+◌, ◌∙◌, [], ◌∷◌, length, ap, arith, length-append}
use Rattle.net_links.specs.Links.{Standing}
use Rattle.rpc_msg.specs.Watching.{Watch}
use Rattle.callback_server.proofs.Crews.{dials_more, unsent_last}
use Rattle.callback_server.proofs.dialing.dial_all.Goals as goal

pub workers-preserved : goal.workers-preserved
workers-preserved g c =
    let one : length c.push_reserved.new.self.items ≡ length c.workers.crew.items + 1 =
    ap length c.push_reserved.ensures.items ∙ length-append c.workers.crew.items (c.new-in-Up.result ∷ []) in
    record {
      unsent = rw c.push_reserved.ensures.items (unsent_last c.workers.crew.items c.new-in-Up.result c.workers.invariant.unsent
          (ap (λ (w : Watch Standing). w.sent) c.new-in-Up.ensures));
      few = omega (arith, one, c.workers-test.true, c.len.ensures, c.workers.crew.ok.0);
      room = omega (arith, c.push_reserved.ensures.capacity, c.workers.invariant.room);
      dials = λ told. dials_more (length c.workers.crew.items) _ _ _ _ (c.workers.invariant.dials told) (c.in-Up.ensures.hung told)
          (c.in-Up.ensures.up told) (c.in-Up.ensures.accepted told) one;
      coming = λ told. c.in-Up.ensures.coming told ∙ c.workers.invariant.coming told;
      faults = omega (arith, c.workers.invariant.faults, c.in-Up.ensures.cause);
    }
