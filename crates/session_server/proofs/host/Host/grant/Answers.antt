use Rattle.rpc_calls.specs.Making.{created}
use Rattle.session_server.proofs.Lengths.{create_short, sends_short}
use Rattle.session_server.proofs.host.Host.grant.Goals as goal

pub returns-clause-short : goal.returns-clause-short
returns-clause-short g c =
    let mic = g.X.Mech.Mechanism.mic_of in
    let contexts = c.args.self.now.contexts in
    let made = (created g.X.Mech.Mechanism.derived c.args.second c.args.carry c.args.call.now contexts).made in
    sends_short _ _ _ _ c.one_reply.ensures c.going_back.ensures
    (rw c.in_ok-told.ensures.reply (create_short mic g.met.X.Mech.Mechanism.sized contexts c.args.call.now contexts.boot made))
