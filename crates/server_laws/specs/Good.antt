-- What holds of a server's contexts between steps: its opening's number is one of the wire's; no more contexts were made than
-- steps; and each has a number of its own.
use Rattle.std.specs.Prelude.{◌<◌, ◌≤◌, ◌^◌}
use Rattle.context_laws.specs.View.{AreNumbered}
use Rattle.session_server.specs.Host.{HostState}

pub record IsGood {X C : Type 0} (s : HostState X C) : Type 0 where
  pub boot : s.contexts.boot < 2 ^ 32
  pub counted : s.contexts.made ≤ s.steps
  pub numbered : AreNumbered s.contexts.made s.contexts.entries
