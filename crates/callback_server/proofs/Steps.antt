-- What a server of one connection at a time keeps, connection by connection.
use Rattle.std.proofs.Common.{◌≡◌, ℕ, ◌+◌, ◌-◌, ◌<◌, ◌≤◌, min, List, [], ◌∷◌, ◌++◌, ◌⊎◌, refl, sym, ap, ◌∙◌, arith, inl, inr, append_assoc, append-nil, length-append}
use Rattle.std.proofs.lemmas.Bool.{cases_lt}
use Rattle.std.specs.Prelude.{Option, Some, None}
use Rattle.rpc_msg.specs.declared.pump.Pumped.{Pumped}
use Rattle.net_links.specs.Links.{Standing, HangsUp}
use Rattle.link_server.specs.Answering.{Caller}
use Rattle.link_server.specs.Hanging.{Sums, no_sums, starved_by, sums_after}
use Rattle.link_server.specs.Keeping.{Books, StopIs}
use Rattle.link_server.specs.declared.tally.Stop.{Stop}
use Rattle.link_server.specs.declared.tally.Stop.TheVariants as stops
use Rattle.link_server.specs.declared.tally.Tally.{Tally}
use Rattle.link_server.specs.declared.tally.TheConstants.{ALL_RECORDS, EACH_RECORDS}
use Rattle.callback_server.specs.Hanging.{AllHung, HungIs}
use Rattle.callback_server.specs.Keeping.{Serves, ServesOne, no_tally}

-- nothing was done yet
pub serves_none : (answers : Caller → List ℕ → List ℕ → Caller → Type 0) (now : Books) → Serves answers now now no_tally
serves_none answers now = record {
  links = [];
  sums = no_sums;
  hung = sym (append-nil now.hung);
  all = refl;
  starved = refl;
  records = refl;
  count = refl;
  up = refl;
  accepted = omega arith;
}

-- It was lent the records of one connection, or all that those before it had left.
given_by : (left taken given : ℕ) → ((left < EACH_RECORDS) ⊎ (EACH_RECORDS ≤ left)) → taken + left ≡ ALL_RECORDS → given ≡ min left EACH_RECORDS
    → ((given ≡ EACH_RECORDS) ⊎ ((given ≤ EACH_RECORDS) × (taken + given ≡ ALL_RECORDS)))
given_by left taken given (inl few) records is = inr (omega (arith, is), omega (arith, few, records, is))
given_by left taken given (inr many) records is = inl (omega (arith, many, is))

pub all_and_one : (answers : Caller → List ℕ → List ℕ → Caller → Type 0) (earlier now : Sums) (links : List Standing) (link : Standing)
    → AllHung answers earlier links now → (one : HungIs answers now link)
    → AllHung answers earlier (links ++ link ∷ []) (sums_after now (one.given - one.unused) one.end)
all_and_one answers earlier now [] link all one = rw (← all) (one, refl)
all_and_one answers earlier now (first ∷ links) link all one =
    (all.0, all_and_one answers (sums_after earlier (all.0.given - all.0.unused) all.0.end) now links link all.1 one)

-- One more was accepted, served and hung up.
pub serves_more : (answers : Caller → List ℕ → List ℕ → Caller → Type 0) (before old up now : Books) (tally tally_now : Tally) (link : Standing)
    → Serves answers before old tally → up.hung ≡ old.hung → up.up ≡ old.up + 1 → up.accepted ≡ old.accepted + 1
    → ServesOne answers link tally tally_now → HangsUp up.hung now.hung link → up.up ≡ now.up + 1 → now.accepted ≡ up.accepted
    → Serves answers before now tally_now
serves_more answers before old up now tally tally_now link serves same raised accepted served hangs lowered kept =
    let one : HungIs answers serves.sums link = record {
      given = served.given;
      unused = served.unused;
      end = served.end;
      told = hangs.told;
      served = served.served;
      gave = given_by tally.left serves.sums.taken served.given (cases_lt tally.left EACH_RECORDS) serves.records served.gave;
    } in record {
      links = serves.links ++ link ∷ [];
      sums = sums_after serves.sums (served.given - served.unused) served.end;
      hung = hangs.kept ∙ ap (λ xs. xs ++ link ∷ []) (same ∙ serves.hung) ∙ append_assoc before.hung serves.links (link ∷ []);
      all = all_and_one answers no_sums serves.sums serves.links link serves.all one;
      starved = let e = ap (λ (t : Tally). t.starved) served.is in omega (arith, serves.starved, e);
      records = let e = ap (λ (t : Tally). t.left) served.is in omega (arith, serves.records, served.served.few, served.gave, e);
      count = let e = ap (λ (t : Tally). t.accepted) served.is in omega (arith, length-append serves.links (link ∷ []), serves.count, e);
      up = omega (arith, serves.up, raised, lowered);
      accepted = let e = ap (λ (t : Tally). t.accepted) served.is in omega (arith, serves.accepted, accepted, kept, e);
    }

starved_few : (end : Option Pumped) → starved_by end ≤ 1
starved_few (Some end) = omega arith
starved_few None = omega arith

-- what a tally is after one more
pub tally_grows : (answers : Caller → List ℕ → List ℕ → Caller → Type 0) (link : Standing) (tally now : Tally) → ServesOne answers link tally now
    → tally.starved ≤ tally.accepted → tally.left ≤ ALL_RECORDS
    → (now.accepted ≡ tally.accepted + 1) × (now.starved ≤ now.accepted) × (now.left ≤ ALL_RECORDS) × (now.stop ≡ tally.stop)
tally_grows answers link tally now one starved left =
    let accepted = ap (λ (t : Tally). t.accepted) one.is in
    let more = ap (λ (t : Tally). t.starved) one.is in
    let rest = ap (λ (t : Tally). t.left) one.is in
    let few = starved_few one.end in (
      accepted,
      omega (arith, accepted, more, few, starved),
      omega (arith, rest, one.gave, one.served.few, left),
      ap (λ (t : Tally). t.stop) one.is,
    )

-- a failure to accept is one of the net's since an earlier moment, too
pub stop_since : (told : Type 0) (conns accepted left coming earlier faults faults_now : ℕ) (stop : Stop) → earlier ≤ faults
    → StopIs told conns accepted left coming faults faults_now stop → StopIs told conns accepted left coming earlier faults_now stop
stop_since told conns accepted left coming earlier faults faults_now stops.All before is = is
stop_since told conns accepted left coming earlier faults faults_now stops.End before is = is
stop_since told conns accepted left coming earlier faults faults_now stops.Failed before is = (is.0, omega (arith, before, is.1))
stop_since told conns accepted left coming earlier faults faults_now stops.Spent before is = is
