use Rattle.std.proofs.Common.{sym}
use Rattle.link_server.proofs.Steps.{site_hung}
use Rattle.link_server.proofs.site.Site.hang.Goals as goal

pub returns-clause-kept : goal.returns-clause-kept
returns-clause-kept g c = λ told. site_hung _ _ _ _ _ _ _ _ _ _ (sym c.self.view_is) c.after-self-inside.ensures c.requires.lent c.requires.served
    (c.hang_up.ensures.hung told) (c.hang_up.ensures.up told) (c.hang_up.ensures.accepted told) (c.requires.kept told)
