-- What each step of a server leaves, and what one leaves that makes no call on the volume and draws nothing.
use Rattle.std.specs.Prelude.{◌≡◌, ℕ, ◌+◌, false, [], Result, IfOk, OnErr}
use Rattle.outbox.specs.declared.outgoing.Outbox.{Outbox}
use Rattle.session_server.specs.declared.host.Host.{Host}
use Rattle.session_server.specs.Host.{IsCounted, KeepsOwn}

-- it is counted, with the numbers that were given out, and lands nothing; without memory the server is as before
pub record IsStep {D X C E : Type 0} (given lands owes : X → ℕ) (old new : Host D X C) (result : Result Outbox E) : Type 0 where
  pub steps : IfOk result (λ _. new.steps ≡ old.steps + 1)
  pub err : OnErr result (new ≡ old)
  pub counted : IsCounted given new
  pub own : KeepsOwn lands owes old new

-- the volume stays, and no draw is told of that failed
pub record IsStill {D X C E : Type 0} (old new : Host D X C) (result : Result Outbox E) : Type 0 where
  pub volume : new.server.files.volume ≡ old.server.files.volume
  pub unused : IfOk result (λ out. out.used ≡ [])
  pub drawn : IfOk result (λ out. out.undrawn ≡ false)
