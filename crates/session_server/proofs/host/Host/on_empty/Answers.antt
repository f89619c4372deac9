use Rattle.std.proofs.Common.{[], arith}
use Rattle.session_server.proofs.Lengths.{result_short, sends_short}
use Rattle.session_server.proofs.host.Host.on_empty.Goals as goal

pub returns-clause-short : goal.returns-clause-short
returns-clause-short g c =
    let mic = g.X.Mech.Mechanism.mic_of in
    sends_short _ _ _ _ c.one_reply.ensures c.going_back.ensures
    (rw c.in_ok-bytes.ensures.reply (result_short mic g.met.X.Mech.Mechanism.sized c.args.self.now.contexts c.args.call.now [] (omega arith)))
