use Rattle.std.proofs.Common.{sym, ap, ◌∙◌}
use Rattle.compound_server.proofs.server.Server.gate_refusal.Goals as goal

pub returns-in-Refuse-clause-same : goal.returns-in-Refuse-clause-same
returns-in-Refuse-clause-same g c =
    ap (λ x. record c.args.self.now { files = record c.args.self.now.files { extra = x } }) (sym c.gate.ensures.after ∙ g.met.X.Serving.still _ _ _ _)

pub returns-in-Serve-clause-same : goal.returns-in-Serve-clause-same
returns-in-Serve-clause-same g c =
    ap (λ x. record c.args.self.now { files = record c.args.self.now.files { extra = x } }) (sym c.gate.ensures.after ∙ g.met.X.Serving.still _ _ _ _)

pub returns-in-Usual-clause-same : goal.returns-in-Usual-clause-same
returns-in-Usual-clause-same g c =
    ap (λ x. record c.args.self.now { files = record c.args.self.now.files { extra = x } }) (sym c.gate.ensures.after ∙ g.met.X.Serving.still _ _ _ _)
