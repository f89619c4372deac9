-- The parts of a turn, and what a turn leaves, as the code makes them.
use Rattle.std.specs.Prelude.{◌≡◌, ℕ, ◌+◌, ◌<◌, ◌≤◌, ◌⊎◌, List, ◌++◌, length}
use Rattle.nfs_base.specs.declared.side.Side.{Side}
use Rattle.nfs_base.specs.declared.side.Side.TheVariants.{Source, Dest}
use Rattle.rpc_msg.specs.Watching.{Watch}
use Rattle.streams.specs.Stream.{Giving, Taking}
use Rattle.client_leaving.specs.declared.leaving.Leaving.{Leaving}
use Rattle.single_copy.specs.Copying.{FallsAt, Stops}
use Rattle.single_copy.specs.Links.{Brings, Falls}
use Rattle.single_copy.specs.Phases.{turns_in}
use Rattle.single_copy.specs.Turns.{Acts, BothUp, Event, Hears, IsTurn, Moves, Parties, Runs, TakesFrom, Terms, Turn, due_at, due_of, heard, listed, message_at, phase_after}
use Rattle.single_copy.specs.declared.links.TheConstants.{MOST_RECORDS}
use Rattle.single_copy.specs.declared.phases.Due.TheVariants as dues
use Rattle.single_copy.specs.declared.phases.Phase.{Phase}
use Rattle.single_copy.specs.declared.phases.Phase.TheVariants.{Fresh}
use Rattle.single_copy.specs.declared.turns.Allowance.{Allowance}

abbrev pub other : Side → Side
other Source = Dest
other Dest = Source

-- ---- one server is heard: its link is here, the other's there

-- A record was taken from the link, and what the client sends was put to both.
pub record HearsTurn {L M W : Type 0} (terms : Terms L M W) (side : Side) (was : Phase) (here here_now there there_now : Watch L)
    (old new : Leaving M) (before after : W) (phase : Phase) : Type 0 where
  pub turn : Turn
  pub message : List ℕ
  pub event : turn.event ≡ Hears side message
  pub acts : Acts terms.conduct was turn old new before after
  pub moves : Moves terms side turn here here_now
  pub others : Moves terms (other side) turn there there_now
  pub becomes : phase ≡ phase_after turn.event turn.out.undrawn new was

-- No more records are taken from the link, or it went down.
pub record Idles {L M W : Type 0} (gives : L → Giving) (takes : L → Taking) (left left_now : ℕ) (here here_now there there_now : Watch L) (old new : Leaving M)
    (before after : W) : Type 0 where
  pub why : ((left ≡ 0) × (here_now ≡ here)) ⊎ Falls gives takes here here_now
  pub counted : left_now ≡ left
  pub others : there_now ≡ there
  pub client : new ≡ old
  pub draws : after ≡ before

-- A record was taken from the link, and found no memory.
pub record HearsShort {L M : Type 0} (gives : L → Giving) (takes : L → Taking) (left left_now : ℕ) (here here_now there there_now : Watch L) (old new : Leaving M) : Type 0 where
  pub message : List ℕ
  pub brings : Brings gives takes here here_now message
  pub counted : left ≡ left_now + 1
  pub others : there_now ≡ there
  pub client : new ≡ old

-- ---- a turn

-- a turn in which the client takes no record
pub record OwnTurn {L M W : Type 0} (terms : Terms L M W) (event : Event) (old : Parties L M W) (was : Phase) (new : Parties L M W) (phase : Phase) : Type 0 where
  pub turn : Turn
  pub event_is : turn.event ≡ event
  pub is : IsTurn terms old was turn new phase

abbrev pub turns_left : Phase → Allowance → ℕ
turns_left phase left = turns_in phase + left.source + left.dest

-- so many records may be taken less than before as this event took
pub record Counts (event : Event) (left left_now : Allowance) : Type 0 where
  pub source : left.source ≡ left_now.source + length (listed (message_at Source event))
  pub dest : left.dest ≡ left_now.dest + length (listed (message_at Dest event))

pub record TurnsOn {L M W : Type 0} (terms : Terms L M W) (old : Parties L M W) (was : Phase) (left left_now : Allowance) (new : Parties L M W) (phase : Phase) : Type 0 where
  pub turn : Turn
  pub is : IsTurn terms old was turn new phase
  pub counted : Counts turn.event left left_now
  pub fewer : turns_left phase left_now < turns_left was left

abbrev pub left_at : Side → Allowance → ℕ
left_at Source left = left.source
left_at Dest left = left.dest

pub data Halts {L M W : Type 0} (terms : Terms L M W) (old : Parties L M W) (was : Phase) (left : Allowance) (new : Parties L M W) : Type 0 where
  Done : due_at was old.client ≡ dues.Nothing → new ≡ old → Halts terms old was left new
  Full : (side : Side) → BothUp old → due_at was old.client ≡ dues.Hear side → left_at side left ≡ 0 → new ≡ old → Halts terms old was left new
  Fell : (side : Side) → BothUp old → due_at was old.client ≡ dues.Hear side → FallsAt side terms old new → Halts terms old was left new

-- the event that was due found no memory
pub record Wants {L M W : Type 0} (terms : Terms L M W) (old : Parties L M W) (was : Phase) (left left_now : Allowance) (source_now dest_now : Watch L)
    (client_now : Leaving M) : Type 0 where
  pub event : Event
  pub due : due_of event ≡ due_at was old.client
  pub source : TakesFrom terms (message_at Source event) old.source source_now
  pub dest : TakesFrom terms (message_at Dest event) old.dest dest_now
  pub client : client_now ≡ old.client
  pub counted : Counts event left left_now

-- ---- turns until no more are made

pub record RunsOut {L M W : Type 0} (terms : Terms L M W) (old now : Parties L M W) (phase : Phase) : Type 0 where
  pub turns : List Turn
  pub last : Parties L M W
  pub runs : Runs terms old Fresh turns last phase
  pub stops : Stops terms turns phase last now
  pub few : (side : Side) → length (heard side turns) ≤ MOST_RECORDS

pub record RunsShort {L M W : Type 0} (terms : Terms L M W) (old : Parties L M W) (source_now dest_now : Watch L) (client_now : Leaving M) : Type 0 where
  pub turns : List Turn
  pub phase : Phase
  pub last : Parties L M W
  pub runs : Runs terms old Fresh turns last phase
  pub event : Event
  pub due : due_of event ≡ due_at phase last.client
  pub source : TakesFrom terms (message_at Source event) last.source source_now
  pub dest : TakesFrom terms (message_at Dest event) last.dest dest_now
  pub client : client_now ≡ last.client
  pub few : (side : Side) → length (heard side turns ++ listed (message_at side event)) ≤ MOST_RECORDS
  pub up : BothUp last
