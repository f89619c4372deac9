use Rattle.std.proofs.Common.{IfOk, subst}
use Rattle.client_steps.specs.Acting.{Acting, GoesOn}
use Rattle.client_core.specs.Parts.{went_of}
use Rattle.client_core.proofs.client.Client.go_on_now.Goals as goal

pub returns-clause-is : goal.returns-clause-is
returns-clause-is g c =
    let m = g.M.Mechanism in
    let s = c.args.self.now.setting in
    subst
    (λ (a : Acting). IfOk c.go_on.result (λ to. GoesOn s m.mic_of (m.started s.mech s.me) g.W.Draws.gives a c.args.draws.now c.go_on.new.draws (went_of c.args.self.now to)))
    c.in_ok-course.ensures c.go_on.ensures.is
