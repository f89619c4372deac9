-- The connections that were served and hung up, one after the other. Own definitions.
use Rattle.std.specs.Prelude.{◌≡◌, ◌⊎◌, ℕ, ◌+◌, ◌-◌, ◌≤◌, List, [], ◌∷◌, Option}
use Rattle.rpc_msg.specs.declared.pump.Pumped.{Pumped}
use Rattle.net_links.specs.Links.{Standing, IsTold}
use Rattle.link_server.specs.Answering.{Caller}
use Rattle.link_server.specs.Hanging.{Sums, sums_after}
use Rattle.link_server.specs.declared.tally.TheConstants.{ALL_RECORDS, EACH_RECORDS}
use Rattle.callback_server.specs.Serving.{AttendedIs}

-- One connection that was hung up after others, which had taken so many records: it tells all that it brings, and it was given the
-- records of one connection, or all that those others had left.
pub record HungIs (answers : Caller → List ℕ → List ℕ → Caller → Type 0) (earlier : Sums) (link : Standing) : Type 0 where
  pub given : ℕ
  pub unused : ℕ
  pub end : Option Pumped
  pub told : IsTold link
  pub served : AttendedIs answers given unused end link
  pub gave : (given ≡ EACH_RECORDS) ⊎ ((given ≤ EACH_RECORDS) × (earlier.taken + given ≡ ALL_RECORDS))

-- All of them, in their order, and the sums after them.
abbrev pub AllHung : (Caller → List ℕ → List ℕ → Caller → Type 0) → (earlier : Sums) → List Standing → (now : Sums) → Type 0
AllHung answers earlier [] now = now ≡ earlier
AllHung answers earlier (link ∷ links) now =
    (one : HungIs answers earlier link) × AllHung answers (sums_after earlier (one.given - one.unused) one.end) links now
