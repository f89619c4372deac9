use Rattle.session_server.proofs.Lengths.{denial_short, sends_short}
use Rattle.session_server.proofs.host.Host.deny.Goals as goal

pub returns-clause-short : goal.returns-clause-short
returns-clause-short g c =
    sends_short _ _ _ _ c.one_reply.ensures c.going_back.ensures (rw c.in_ok-bytes.ensures.reply (denial_short c.args.call.now.head.xid c.args.why))
