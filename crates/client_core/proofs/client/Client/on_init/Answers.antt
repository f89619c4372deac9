use Rattle.std.proofs.Common.{refl}
use Rattle.client_core.proofs.Inits.{init_answered, init_undrawn}
use Rattle.client_core.proofs.client.Client.on_init.Goals as goal

pub returns-then-told-clause-is : goal.returns-then-told-clause-is
returns-then-told-clause-is g c =
    let m = g.M.Mechanism in
    init_undrawn m.mic_of m.accepted g.W.Draws.gives c.args.second c.args.from c.args.call.now c.args.token.now _ c.args.self.now _ c.args.draws.now
    c.answer_init.new.draws c.in_ok-told.told c.answer_init.new.contexts c.undrawn.result c.self.view_is c.in_ok-told.ensures.ok c.if-told.true refl
    c.undrawn.ensures

pub returns-clause-is : goal.returns-clause-is
returns-clause-is g c =
    let m = g.M.Mechanism in
    init_answered m.mic_of m.accepted g.W.Draws.gives c.args.second c.args.from c.args.call.now c.args.token.now _ c.args.self.now _ c.args.draws.now
    c.answer_init.new.draws c.in_ok-told.told c.answer_init.new.contexts c.one_reply.result c.self.view_is c.in_ok-told.ensures.ok c.if-told.false refl
    (rw c.one_reply.ensures (rw c.going.ensures (rw c.seal-seal.ensures (rw c.init_label.ensures refl))))
