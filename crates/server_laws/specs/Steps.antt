-- A step of a server that is as it should be, and what it leaves of its contexts.
use Rattle.std.specs.Prelude.{ℕ, ◌<◌, List, Option}
use Rattle.gss_mech.specs.declared.mechanism.Accepted.{Accepted}
use Rattle.streams.specs.declared.draws.Drawn.{Drawn}
use Rattle.wire_xdr.specs.Cursor.{IsBytes}
use Rattle.session_server.specs.declared.host.TheConstants.{MOST_STEPS}
use Rattle.session_server.specs.Host.{Codes, HostState, Rules, Stepped}
use Rattle.session_server.specs.Lengths.{AreShort}
use Rattle.session_server.specs.Steps.{IsTurn}
use Rattle.server_laws.specs.Good.{IsGood}

-- The server is as it should be, has steps left, and takes a record; what it sends is no longer than a record may be.
pub record IsStep {X C W : Type 0} (rules : Rules X C) (codes : Codes) (accepted : List ℕ → List ℕ → Option Accepted) (gives : W → Drawn → W → Type 0)
    (conn : ℕ) (bytes : List ℕ) (now : ℕ) (s : HostState X C) (before after : W) (t : Stepped X C) : Type 0 where
  pub good : IsGood s
  pub few : s.steps < MOST_STEPS
  pub are_bytes : IsBytes bytes
  pub turn : IsTurn rules codes accepted gives conn bytes now s before after t
  pub short : AreShort t.out.sent
