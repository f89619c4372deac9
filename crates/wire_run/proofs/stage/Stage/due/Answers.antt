use Rattle.std.proofs.Common.{◌≡◌, true, ap, sym, ◌∙◌, inl, inr}
use Rattle.wire_run.specs.declared.stage.Stop.{Stop}
use Rattle.wire_run.proofs.stage.Stage.due.Goals as goal

pub returns-in-None : goal.returns-in-None
returns-in-None g c = inl (ap (λ (s : Stop). s.armed) (sym c.at.ensures) ∙ c.in-None.is)

pub returns-then-has_stopped : goal.returns-then-has_stopped
returns-then-has_stopped g c =
    record { armed = ap (λ (s : Stop). s.armed) (sym c.at.ensures) ∙ c.in-Some.is; out = c.has_stopped.ensures.0 c.if-has_stopped.true }

pub returns-else-has_stopped : goal.returns-else-has_stopped
returns-else-has_stopped g c = inr (λ out. let yes : c.has_stopped.result ≡ true = c.has_stopped.ensures.1 out in cc c.if-has_stopped.false)
