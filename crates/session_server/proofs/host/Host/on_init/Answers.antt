use Rattle.std.proofs.Common.{arith}
use Rattle.session_server.proofs.Lengths.{sends_short}
use Rattle.session_server.proofs.host.Host.on_init.Goals as goal

pub returns-clause-short : goal.returns-clause-short
returns-clause-short g c =
    sends_short _ _ _ _ c.one_reply-out.ensures c.going_back.ensures (let short = c.in_ok-told.ensures.short in omega (arith, short))
