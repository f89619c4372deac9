-- Links and nets in memory: what they hold, and what exactly each call answers. Own definitions.
use Rattle.std.specs.Prelude.{◌≡◌, ◌==◌, ℕ, ◌+◌, ◌≤◌, false, true, min, List, [], ◌∷◌, ◌⊎◌, length, map, position, slice_index_or, Option, Some, None}
use Rattle.std.specs.List.{remove}
use Rattle.outcome.specs.Plan.{Plan, is_due, after_call, planned_faults}
use Rattle.streams.specs.Memory.{SourceState, SinkState}
use Rattle.streams.specs.Stream.{Giving, Taking}
use Rattle.net_links.specs.Links.{Standing}
use Rattle.net_links.specs.declared.net.Dialed.{Dialed}
use Rattle.net_links.specs.declared.net.Dialed.TheVariants as dialed

-- A link in memory: what it brings, and what it takes.
pub record LinkState : Type 0 where
  pub source : SourceState
  pub sink : SinkState

-- How it stands.
abbrev pub giving : SourceState → Giving
giving source = record { left = Some source.left; whole = Some source.whole; faults = planned_faults source.plan; failing = source.plan.failing }

abbrev pub taking : SinkState → Taking
taking sink = record { taken = Some sink.taken; pieces = None; faults = planned_faults sink.plan + sink.starved; failing = sink.plan.failing }

abbrev pub standing : LinkState → Standing
standing link = record { brings = giving link.source; takes = taking link.sink }

-- A connection that is to come: the bytes that it brings, and the numbers of its takes and of its puts that are to fail.
pub record Coming : Type 0 where
  pub bytes : List ℕ
  pub takes : List ℕ
  pub puts : List ℕ

-- The link that it is then, with which nothing was done.
abbrev pub link_of : Coming → LinkState
link_of connection = record {
  source = record { left = connection.bytes; whole = connection.bytes; plan = record { calls = 0; failing = connection.takes } };
  sink = record { taken = []; plan = record { calls = 0; failing = connection.puts }; starved = 0 };
}

-- One that waits to be dialed at a port.
pub record Waiting : Type 0 where
  pub port : ℕ
  pub connection : Coming

-- A net in memory: the connections that come, those that wait to be dialed, its calls of both kinds, how many links it accepted, how
-- many are up, those that were hung up, and how often a port was dialed at which none waited.
pub record NetState : Type 0 where
  pub coming : List Coming
  pub dials : List Waiting
  pub accepts : Plan
  pub dialing : Plan
  pub accepted : ℕ
  pub up : ℕ
  pub hung : List LinkState
  pub refused : ℕ

abbrev pub net_faults : NetState → ℕ
net_faults net = planned_faults net.accepts + planned_faults net.dialing + net.refused

abbrev pub hung_of : NetState → List Standing
hung_of net = map standing net.hung

-- ---- what each call answers, and what it leaves

-- The connections come in their order, but for the calls that are to fail; the end is told exactly where none is left.
abbrev pub AcceptIs : NetState → NetState → Dialed LinkState → Type 0
AcceptIs old new (dialed.Up link) = (is_due old.accepts ≡ false)
    × (next : Coming) × (old.coming ≡ next ∷ new.coming) × (link ≡ link_of next)
    × (new ≡ record old { coming = new.coming; accepts = after_call old.accepts; accepted = old.accepted + 1; up = old.up + 1 })
AcceptIs old new dialed.End = (old.coming ≡ []) × (new ≡ old)
AcceptIs old new dialed.Failed = (1 ≤ length old.coming) × (is_due old.accepts ≡ true) × (new ≡ record old { accepts = after_call old.accepts })

-- A dial that isn't to fail takes the first link that waits at the port, or is refused where none waits.
abbrev pub place_of : (port : ℕ) → List Waiting → Option ℕ
place_of port dials = position (λ dial. dial.port == port) dials

abbrev pub DialIs : (port : ℕ) → NetState → NetState → Dialed LinkState → Type 0
DialIs port old new (dialed.Up link) = (is_due old.dialing ≡ false) × (at : ℕ) × (next : Waiting)
    × (place_of port old.dials ≡ Some at) × (slice_index_or old.dials at next ≡ next) × (link ≡ link_of next.connection)
    × (new ≡ record old { dials = remove old.dials at; dialing = after_call old.dialing; up = old.up + 1 })
DialIs port old new dialed.End = ⊥
DialIs port old new dialed.Failed = ((is_due old.dialing ≡ true) × (new ≡ record old { dialing = after_call old.dialing }))
    ⊎ ((is_due old.dialing ≡ false) × (place_of port old.dials ≡ None)
    × (new ≡ record old { dialing = after_call old.dialing; refused = min (old.refused + 1) 18446744073709551615 }))
