-- What a server did with the connections of a net: those that it hung up, and why it accepted no more. Own definitions.
use Rattle.std.specs.Prelude.{◌≡◌, ℕ, ◌+◌, ◌<◌, List, ◌++◌, length, Option}
use Rattle.outcome.specs.Causes.{Rose}
use Rattle.rpc_msg.specs.declared.pump.Pumped.{Pumped}
use Rattle.net_links.specs.Links.{Standing}
use Rattle.link_server.specs.Answering.{Caller}
use Rattle.link_server.specs.Hanging.{AllHung, Sums, no_sums, starved_by}
use Rattle.link_server.specs.declared.tally.Stop.{Stop}
use Rattle.link_server.specs.declared.tally.Stop.TheVariants as stops
use Rattle.link_server.specs.declared.tally.Tally.{Tally}
use Rattle.link_server.specs.declared.tally.TheConstants.{ALL_RECORDS}

-- What a net tells of its links: those that were hung up, how many are up, and how many it accepted.
pub record Books : Type 0 where
  pub hung : List Standing
  pub up : ℕ
  pub accepted : ℕ

abbrev pub books_of : {N : Type 0} → (N → List Standing) → (N → ℕ) → (N → ℕ) → N → Books
books_of hung up accepted net = record { hung = hung net; up = up net; accepted = accepted net }

-- A connection that had ended so left so many of its records.
abbrev pub tally_after : Tally → Option Pumped → (unused : ℕ) → Tally
tally_after tally end unused = record tally { starved = tally.starved + starved_by end; left = tally.left + unused }

-- Since the net stood as before, all that were accepted were hung up, but for so many, which were lent so many records.
pub record Kept (answers : Caller → List ℕ → List ℕ → Caller → Type 0) (before now : Books) (out lent : ℕ) (tally : Tally) : Type 0 where
  pub links : List Standing
  pub sums : Sums
  pub hung : now.hung ≡ before.hung ++ links
  pub all : AllHung answers no_sums links sums
  pub starved : sums.starved ≡ tally.starved
  pub records : sums.taken + tally.left + lent ≡ ALL_RECORDS
  pub count : length links + out ≡ tally.accepted
  pub up : now.up ≡ before.up + out
  pub accepted : now.accepted ≡ before.accepted + tally.accepted

-- ---- at the end

-- All that were accepted were hung up.
abbrev pub Serves : (Caller → List ℕ → List ℕ → Caller → Type 0) → (before now : Books) → Tally → Type 0
Serves answers before now tally = Kept answers before now 0 0 tally

-- Why no more were accepted: as many were as were asked for, or fewer, by the cause that is told.
abbrev pub StopIs : (told : Type 0) → (conns accepted left coming faults faults_now : ℕ) → Stop → Type 0
StopIs told conns accepted left coming faults faults_now stops.All = accepted ≡ conns
StopIs told conns accepted left coming faults faults_now stops.End = (accepted < conns) × (told → coming ≡ 0)
StopIs told conns accepted left coming faults faults_now stops.Failed = (accepted < conns) × Rose faults faults_now
StopIs told conns accepted left coming faults faults_now stops.Spent = (accepted < conns) × (left ≡ 0)
