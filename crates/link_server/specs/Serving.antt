-- How one connection was served: what it got for its records, and why that ended. Own definitions, over those of serving a
-- stream of records (RFC 5531 section 11).
use Rattle.std.specs.Prelude.{◌≡◌, ℕ, ◌<◌, ◌≤◌, List, ◌⊎◌, Option, Some, None, IfSome}
use Rattle.rpc_msg.specs.declared.pump.Pumped.{Pumped}
use Rattle.rpc_msg.specs.Serving.{PumpIs, PumpHasCause, RanShort, state_of}
use Rattle.rpc_msg.specs.Underway.{Feed, IsFresh}
use Rattle.streams.specs.Stream.{Giving}
use Rattle.net_links.specs.Links.{Standing, IsNew}
use Rattle.link_server.specs.Answering.{Caller}
use Rattle.link_server.specs.declared.tally.TheConstants.{EACH_RECORDS}

-- No connection is read beyond so many bytes: as many as a u64 counts.
abbrev pub bytes_limit : ℕ
bytes_limit = 18446744073709551615

-- A connection that made no call yet.
abbrev pub newcomer : ℕ → Caller
newcomer conn = record { conn = conn; calls = 0 }

-- Nothing was taken from a connection, and no take failed.
pub record IsUnread (brings : Giving) : Type 0 where
  pub all : IfSome brings.whole (λ all. brings.left ≡ Some all)
  pub faults : brings.faults ≡ 0

-- Its records were served until this end. Of those given to it so many were left.
pub record Pumps (answers : Caller → List ℕ → List ℕ → Caller → Type 0) (first last : Caller) (start now : Standing)
    (given unused : ℕ) (end : Pumped) : Type 0 where
  pub feed : Feed
  pub feed_now : Feed
  pub fresh : IsFresh feed
  pub pump : PumpIs answers feed feed_now first last start.takes now.takes given unused start.brings.left now.brings.left bytes_limit end
  pub cause : PumpHasCause start.brings.faults now.brings.faults start.takes.faults now.takes.faults end

-- Memory was wanted: at a record, those before which were served; or before any.
pub record PumpsShort (answers : Caller → List ℕ → List ℕ → Caller → Type 0) (first last : Caller) (start now : Standing)
    (given unused : ℕ) : Type 0 where
  pub feed : Feed
  pub feed_now : Feed
  pub fresh : IsFresh feed
  pub short : RanShort answers (state_of 0 feed) first last start.takes now.takes given unused start.brings.left now.brings.left bytes_limit feed_now

pub record Untouched (first last : Caller) (start now : Standing) (given unused : ℕ) : Type 0 where
  pub caller : last ≡ first
  pub link : now ≡ start
  pub records : unused ≡ given

-- How it ended: as serving tells, or, where it tells nothing, for want of memory.
abbrev pub Went : (Caller → List ℕ → List ℕ → Caller → Type 0) → (first last : Caller) → (start now : Standing)
    → (given unused : ℕ) → Option Pumped → Type 0
Went answers first last start now given unused (Some end) = Pumps answers first last start now given unused end
Went answers first last start now given unused None =
    PumpsShort answers first last start now given unused ⊎ Untouched first last start now given unused

-- A connection was served from its begin: it was new, the machine answered its records, and it stands like this now.
pub record ServedIs (answers : Caller → List ℕ → List ℕ → Caller → Type 0) (given unused : ℕ) (end : Option Pumped)
    (link : Standing) : Type 0 where
  pub conn : ℕ
  pub last : Caller
  pub start : Standing
  pub new : IsNew start
  pub same : link.brings.whole ≡ start.brings.whole
  pub few : unused ≤ given
  pub went : Went answers (newcomer conn) last start link given unused end

-- The same of one that was lent the records of one connection, with the parts of its share of calls.
abbrev pub ClosesFull : (Caller → List ℕ → List ℕ → Caller → Type 0) → (parts unused : ℕ) → Option Pumped → Standing → Type 0
ClosesFull answers parts unused end link = (0 < parts) × ServedIs answers EACH_RECORDS unused end link
