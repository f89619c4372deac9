-- What a step comes to.
use Rattle.std.proofs.Common.{◌≡◌, ℕ, subst, true, false}
use Rattle.std.specs.Prelude.{Option, IfOk, Result, Ok, Err}
use Rattle.client_steps.specs.Acting.{Acting, GoesOn}
use Rattle.gss_ctx.specs.Table.{ContextTable}
use Rattle.outbox.specs.declared.outgoing.Outbox.{Outbox}
use Rattle.outcome.specs.Causes.{Rose}
use Rattle.streams.specs.declared.draws.Drawn.{Drawn}
use Rattle.client_core.specs.Endings.{IsStep, Ways, ended_by}
use Rattle.client_core.specs.State.{ClientState}

-- a step that draws nothing tells of no draw that failed
pub none_failed : {E : Type 0} (before now : ℕ) (r : Result Outbox E) → IfOk r (λ out. out.undrawn ≡ false)
    → IfOk r (λ out. out.undrawn ≡ true → Rose before now)
none_failed before now (Ok out) none = λ failed. absurd cc
none_failed before now (Err e) none = tt

-- what was done, went on by what waits, and ended
pub step_to : {M W : Type 0} (ways : Ways) (gives : W → Drawn → W → Type 0) (did does : Acting) (back : Acting → ContextTable ℕ) (c : ClientState M)
    (before after : W) (to : Option Acting) (end : ClientState M × Outbox) → did ≡ does
    → GoesOn c.setting ways.means.mic ways.started gives did before after to → end ≡ ended_by to back c → IsStep ways gives does back c before after end
step_to ways gives did does back c before after to end same goes is = record {
  to = to;
  goes_on = subst (λ (a : Acting). GoesOn c.setting ways.means.mic ways.started gives a before after to) same goes;
  is = is;
}

pub steps_to : {M W E : Type 0} (ways : Ways) (gives : W → Drawn → W → Type 0) (did does : Acting) (back : Acting → ContextTable ℕ) (c : ClientState M)
    (before after : W) (to : Option Acting) (new : ClientState M) (r : Result Outbox E) → did ≡ does
    → GoesOn c.setting ways.means.mic ways.started gives did before after to → IfOk r (λ out. (new, out) ≡ ended_by to back c)
    → IfOk r (λ out. IsStep ways gives does back c before after (new, out))
steps_to ways gives did does back c before after to new (Ok out) same goes is =
    step_to ways gives did does back c before after to (new, out) same goes is
steps_to ways gives did does back c before after to new (Err e) same goes is = tt
