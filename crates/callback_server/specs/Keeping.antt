-- What a server of one connection at a time did with the connections of a net. Own definitions.
use Rattle.std.specs.Prelude.{◌≡◌, ℕ, ◌+◌, ◌-◌, min, List, ◌++◌, length, Option}
use Rattle.rpc_msg.specs.declared.pump.Pumped.{Pumped}
use Rattle.net_links.specs.Links.{Standing}
use Rattle.link_server.specs.Answering.{Caller}
use Rattle.link_server.specs.Hanging.{Sums, no_sums, starved_by}
use Rattle.link_server.specs.Keeping.{Books}
use Rattle.link_server.specs.declared.tally.Stop.TheVariants as stops
use Rattle.link_server.specs.declared.tally.Tally.{Tally}
use Rattle.link_server.specs.declared.tally.TheConstants.{ALL_RECORDS, EACH_RECORDS}
use Rattle.callback_server.specs.Hanging.{AllHung}
use Rattle.callback_server.specs.Serving.{AttendedIs}

-- Since the net stood as before, all that were accepted were hung up, once each.
pub record Serves (answers : Caller → List ℕ → List ℕ → Caller → Type 0) (before now : Books) (tally : Tally) : Type 0 where
  pub links : List Standing
  pub sums : Sums
  pub hung : now.hung ≡ before.hung ++ links
  pub all : AllHung answers no_sums links sums
  pub starved : sums.starved ≡ tally.starved
  pub records : sums.taken + tally.left ≡ ALL_RECORDS
  pub count : length links ≡ tally.accepted
  pub up : now.up ≡ before.up
  pub accepted : now.accepted ≡ before.accepted + tally.accepted

-- Nothing was done yet.
abbrev pub no_tally : Tally
no_tally = record { accepted = 0; starved = 0; left = ALL_RECORDS; stop = stops.All }

-- One connection more, which had ended so and left so many of the records that it was given.
abbrev pub tally_with : Tally → (given unused : ℕ) → Option Pumped → Tally
tally_with tally given unused end = record tally {
  accepted = tally.accepted + 1;
  starved = tally.starved + starved_by end;
  left = tally.left - given + unused;
}

-- One was served: it was given the records of one connection, or all that were left where those were fewer.
pub record ServesOne (answers : Caller → List ℕ → List ℕ → Caller → Type 0) (link : Standing) (tally now : Tally) : Type 0 where
  pub given : ℕ
  pub unused : ℕ
  pub end : Option Pumped
  pub served : AttendedIs answers given unused end link
  pub gave : given ≡ min tally.left EACH_RECORDS
  pub is : now ≡ tally_with tally given unused end
