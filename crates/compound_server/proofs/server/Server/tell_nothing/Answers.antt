use Rattle.std.proofs.Common.{ap}
use Rattle.nfs_base.specs.declared.status.TheConstants.Status.{OK}
use Rattle.compound_server.specs.State.{state_of, with_own}
use Rattle.compound_server.proofs.Outside.{given_is, none_said}
use Rattle.compound_server.proofs.server.Server.tell_nothing.Goals as goal

pub returns-clause-gives : goal.returns-clause-gives
returns-clause-gives g c =
    given_is _ _ _ _ _ _ (ap (λ x. with_own x (state_of g.D.Disk.size c.args.self.now)) c.lapse.ensures) c.in_ok-used.ensures
    (none_said c.in_ok-page.page c.put_head.new.page _ OK c.args.tag.now c.finish.result c.in_ok-page.ensures c.put_head.ensures.added c.finish.ensures)
