-- What a step does to a server's volume.
use Rattle.std.specs.Prelude.{ℕ, List, [], Option}
use Rattle.gss_mech.specs.declared.mechanism.Accepted.{Accepted}
use Rattle.session_server.specs.Host.{Codes, HostState, Rules, Stepped}
use Rattle.session_server.specs.Steps.{IsTurn}
use Rattle.streams.specs.declared.draws.Drawn.{Drawn}
use Rattle.commit_laws.specs.Calling.{CameByCalls}
use Rattle.commit_laws.specs.Run.{store_of}

-- in each step in which a record is taken it changes by calls alone, which are noted
abbrev pub ByCallsInTurns : {X C W : Type 0} → Rules X C → Codes → (List ℕ → List ℕ → Option Accepted) → (W → Drawn → W → Type 0) → Type 0
ByCallsInTurns {X} {C} {W} rules codes accepted gives =
    (conn : ℕ) (bytes : List ℕ) (now : ℕ) (s : HostState X C) (before after : W) (t : Stepped X C)
    → IsTurn rules codes accepted gives conn bytes now s before after t → CameByCalls (store_of s) (store_of t.host) [] t.out.used
