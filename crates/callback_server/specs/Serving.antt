-- How a connection was served on whose way others put records, too. Own definitions, over those of a server of connections.
use Rattle.std.specs.Prelude.{◌≡◌, ℕ, ◌≤◌, List, [], Option, None}
use Rattle.rpc_msg.specs.declared.pump.Pumped.{Pumped}
use Rattle.streams.specs.Stream.{Giving}
use Rattle.net_links.specs.Links.{Standing}
use Rattle.link_server.specs.Answering.{Caller}
use Rattle.link_server.specs.Serving.{IsUnread, Went, newcomer}

-- A connection as its own handle tells it: what it brings, and how many of its own puts failed. What was put isn't told.
abbrev pub heard : Giving → (failed : ℕ) → Standing
heard brings failed = record { brings = brings; takes = record { taken = None; pieces = None; faults = failed; failing = [] } }

-- A connection was served from its begin: nothing was taken from it before, the machine answered its records, and it stands like
-- this now. Its way counted each of its own puts that failed.
pub record AttendedIs (answers : Caller → List ℕ → List ℕ → Caller → Type 0) (given unused : ℕ) (end : Option Pumped)
    (link : Standing) : Type 0 where
  pub conn : ℕ
  pub last : Caller
  pub start : Giving
  pub failed : ℕ
  pub new : IsUnread start
  pub same : link.brings.whole ≡ start.whole
  pub few : unused ≤ given
  pub counted : failed ≤ link.takes.faults
  pub went : Went answers (newcomer conn) last (heard start 0) (heard link.brings failed) given unused end
