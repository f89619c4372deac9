use Rattle.std.proofs.Common.{◌≡◌, Some, ◌∙◌}
use Rattle.dest_back.proofs.Sendings.{call_sent}
use Rattle.dest_back.proofs.callbacks.Callbacks.call.Goals as goal

pub returns-clause-sent : goal.returns-clause-sent
returns-clause-sent g c =
    let mic = g.M.Mechanism.mic_of in
    let here : Some c.in-Some.sealed ≡ c.in_ok-sealed.field-0 = cc in
    call_sent mic c.args.sessions.now c.args.at c.args.post c.args.back c.args.line c.args.number c.args.told.now c.args.self.now
    c.session_id.result c.in-Some.sealed c.seal.new.caller c.seal-seal.result c.session_id.ensures (here ∙ c.in_ok-sealed.ensures.sealed) c.in_ok-sealed.ensures.after c.seal-seal.ensures
