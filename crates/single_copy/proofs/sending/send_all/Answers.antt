use Rattle.std.proofs.Common.{subst}
use Rattle.single_copy.specs.Links.{Sends}
use Rattle.single_copy.proofs.Puts.{sends_join}
use Rattle.single_copy.proofs.Sent.{sent_more}
use Rattle.single_copy.proofs.sending.send_all.Goals as goal

pub records-preserved : goal.records-preserved
records-preserved g c =
    subst (Sends g.L.Stream.gives g.L.Stream.takes c.args.link.now c.send_to.new.link)
    (sent_more c.args.to c.args.sent.now c.records.outgoing-index c.outgoing-item.result c.records-test.true c.outgoing-item.is)
    (sends_join _ _ _ _ _ _ _ c.records.invariant c.send_to.ensures)
