use Rattle.std.proofs.Common.{rules}
use Rattle.link_server.proofs.Errors.{answers_short}
use Rattle.link_server.proofs.shared.SharedHandler.on.Goals as goal

pub returns-in-Ok-clause-answered : goal.returns-in-Ok-clause-answered
returns-in-Ok-clause-answered g c = rw (← c.self.view_is) c.in-Ok.ensures.answered

pub returns-clause-answered : goal.returns-clause-answered
returns-clause-answered g c =
    rw (← c.self.view_is) (answers_short _ _ _ _ _ _ _ _ _ _ c.in_default.ensures.err (search rules))
