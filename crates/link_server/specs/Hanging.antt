-- All the connections that a server hung up: how each was served, and from which records. Own definitions.
use Rattle.std.specs.Prelude.{◌≡◌, ℕ, ◌+◌, ◌-◌, ◌<◌, ◌≤◌, List, [], ◌∷◌, ◌++◌, ◌⊎◌, length, Option, Some, None}
use Rattle.std.specs.Io.KnownBytes.{Consumes, IsAtEnd}
use Rattle.outcome.specs.Causes.{Rose}
use Rattle.rpc_msg.specs.declared.pump.Pumped.{Pumped}
use Rattle.rpc_msg.specs.Underway.{Open, Shut, fresh, flow}
use Rattle.net_links.specs.Links.{Standing, IsTold}
use Rattle.link_server.specs.Answering.{Caller}
use Rattle.link_server.specs.Serving.{ServedIs, bytes_limit}
use Rattle.link_server.specs.declared.tally.TheConstants.{ALL_RECORDS, EACH_RECORDS}

-- So many records were taken of a server's, and so many connections ended for want of memory.
pub record Sums : Type 0 where
  pub taken : ℕ
  pub starved : ℕ

abbrev pub no_sums : Sums
no_sums = record { taken = 0; starved = 0 }

abbrev pub starved_by : Option Pumped → ℕ
starved_by (Some end) = 0
starved_by None = 1

abbrev pub sums_after : Sums → (taken : ℕ) → Option Pumped → Sums
sums_after sums taken end = record { taken = sums.taken + taken; starved = sums.starved + starved_by end }

-- One connection that was hung up after others, which had taken so many records: it tells all that it brings, and it was given
-- the records of one connection, or all that those others had left.
pub record HungIs (answers : Caller → List ℕ → List ℕ → Caller → Type 0) (earlier : Sums) (link : Standing) : Type 0 where
  pub given : ℕ
  pub unused : ℕ
  pub end : Option Pumped
  pub told : IsTold link
  pub served : ServedIs answers given unused end link
  pub gave : (given ≡ EACH_RECORDS) ⊎ ((given ≤ EACH_RECORDS) × (earlier.taken + given ≡ ALL_RECORDS))

-- All of them, in the order in which they were hung up, and the sums after them.
abbrev pub AllHung : (Caller → List ℕ → List ℕ → Caller → Type 0) → (earlier : Sums) → List Standing → (now : Sums) → Type 0
AllHung answers earlier [] now = now ≡ earlier
AllHung answers earlier (link ∷ links) now =
    (one : HungIs answers earlier link) × AllHung answers (sums_after earlier (one.given - one.unused) one.end) links now

-- ---- why a connection was hung up

-- It brought these bytes, and others that were taken with them.
abbrev pub Brought : Standing → (bytes over : List ℕ) → Type 0
Brought link bytes over = Consumes link.brings.whole link.brings.left (bytes ++ over)

-- Those hung up before it had taken so many records.
pub data WhyHung (earlier : ℕ) (link : Standing) : Type 0 where
  Ended : IsAtEnd link.brings.left → WhyHung earlier link
  ReadFailed : Rose 0 link.brings.faults → WhyHung earlier link
  PutFailed : Rose 0 link.takes.faults → WhyHung earlier link
  TooLarge : (bytes over : List ℕ) → (sum : ℕ) → Brought link bytes over → (flow (Open 0 fresh) bytes).state ≡ Shut sum → WhyHung earlier link
  Many : (bytes over : List ℕ) → Brought link bytes over → length (flow (Open 0 fresh) bytes).records ≡ EACH_RECORDS → WhyHung earlier link
  AllTaken : (bytes over : List ℕ) → Brought link bytes over → earlier + length (flow (Open 0 fresh) bytes).records ≡ ALL_RECORDS → WhyHung earlier link
  TooLong : (bytes over : List ℕ) → Brought link bytes over → length bytes ≡ bytes_limit → 0 < length over → WhyHung earlier link

-- All of them were hung up for such a cause.
abbrev pub AllForCause : (earlier : ℕ) → List Standing → Type 0
AllForCause earlier [] = Unit {0}
AllForCause earlier (link ∷ links) = WhyHung earlier link × (taken : ℕ) × AllForCause (earlier + taken) links
