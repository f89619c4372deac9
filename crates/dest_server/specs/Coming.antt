-- A destination's machine, as it goes from state to state: its steps, and which states it comes to by them. Own definitions.
use Rattle.std.specs.Prelude.{◌≡◌, ℕ, List, [], ◌∷◌, Option, Some, None}
use Rattle.outbox.specs.declared.outgoing.Outbox.{Outbox}

-- The steps of a machine, each from a state to a state, with what it gives.
pub record CoreWords (K W : Type 0) : Type 1 where
  pub takes_record : (conn : ℕ) → (message : List ℕ) → (now : ℕ) → W → W → K → Outbox → K → Type 0
  pub ticks : (now : ℕ) → K → Outbox → K → Type 0
  pub works : (worker now : ℕ) → W → W → K → Outbox → K → Type 0
  pub takes_reply : (worker : ℕ) → (message : List ℕ) → (now : ℕ) → K → Outbox → K → Type 0
  pub fails_link : (worker : ℕ) → K → Outbox → K → Type 0

abbrev pub core_words : {K W : Type 0} → ((conn : ℕ) → (message : List ℕ) → (now : ℕ) → W → W → K → Outbox → K → Type 0)
    → ((now : ℕ) → K → Outbox → K → Type 0) → ((worker now : ℕ) → W → W → K → Outbox → K → Type 0)
    → ((worker : ℕ) → (message : List ℕ) → (now : ℕ) → K → Outbox → K → Type 0) → ((worker : ℕ) → K → Outbox → K → Type 0) → CoreWords K W
core_words takes_record ticks works takes_reply fails_link =
    record { takes_record = takes_record; ticks = ticks; works = works; takes_reply = takes_reply; fails_link = fails_link }

module _ {K W : Type 0} (c : CoreWords K W) where
  -- One step of it: a record of a connection, a second that comes by itself, a worker's turn, a record that the source sent to a worker,
  -- or a worker's link that failed.
  pub data Moves (old new : K) : Type 0 where
    OfRecord : (conn : ℕ) (message : List ℕ) (now : ℕ) (before after : W) (out : Outbox) → c.takes_record conn message now before after old out new
        → Moves old new
    OfTick : (now : ℕ) (out : Outbox) → c.ticks now old out new → Moves old new
    OfTurn : (worker now : ℕ) (before after : W) (out : Outbox) → c.works worker now before after old out new → Moves old new
    OfReply : (worker : ℕ) (message : List ℕ) (now : ℕ) (out : Outbox) → c.takes_reply worker message now old out new → Moves old new
    OfFailure : (worker : ℕ) (out : Outbox) → c.fails_link worker old out new → Moves old new

  -- Each step begins in the state that the one before it left.
  abbrev pub Follows : K → List K → K → Type 0
  Follows first [] now = now ≡ first
  Follows first (next ∷ states) now = Moves first next × Follows next states now

  -- It comes to this state by steps from a first one on.
  pub record Comes (first now : K) : Type 0 where
    pub states : List K
    pub follows : Follows first states now

  -- The same from the state in which a server began, where it is known.
  abbrev pub ComesFrom : (origin : Option K) → K → Type 0
  ComesFrom (Some first) now = Comes first now
  ComesFrom None now = ⊥
