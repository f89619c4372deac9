-- What follows of a server of connections beside workers: from how the workers' links were dialed, how connections were served then, and
-- how those links were hung up in the end.
use Rattle.std.proofs.Common.{◌≡◌, ℕ, ◌+◌, ◌<◌, List, ◌++◌, length, ap, ◌∙◌, arith}
use Rattle.std.proofs.lemmas.List.{length-map}
use Rattle.net_links.specs.Links.{Standing}
use Rattle.rpc_msg.specs.Watching.{Watch}
use Rattle.link_server.specs.Answering.{Caller}
use Rattle.link_server.specs.Keeping.{Books}
use Rattle.link_server.specs.declared.tally.Tally.{Tally}
use Rattle.callback_server.specs.Crew.{standing_of, Dials, HangsAll, ServesThen}
use Rattle.callback_server.specs.Keeping.{Serves}

-- Connections were served while so many links were up that had been dialed; these were hung up then.
serves_then : (answers : Caller → List ℕ → List ℕ → Caller → Type 0) (before dialed served now : Books) (links : List Standing) (tally : Tally)
    → Dials (length links) before dialed → Serves answers dialed served tally → HangsAll links served now
    → ServesThen answers before now links tally
serves_then answers before dialed served now links tally dials serves hangs = record {
  earlier = served.hung;
  serves = record {
    links = serves.links;
    sums = serves.sums;
    hung = serves.hung ∙ ap (λ (b : Books). b.hung ++ serves.links) dials;
    all = serves.all;
    starved = serves.starved;
    records = serves.records;
    count = serves.count;
    up = let e = ap (λ (b : Books). b.up) dials in omega (arith, e, serves.up, hangs.up);
    accepted = let e = ap (λ (b : Books). b.accepted) dials in omega (arith, e, serves.accepted, hangs.accepted);
  };
  hung = hangs.hung;
  told = hangs.told;
}

count_standing : (crew : List (Watch Standing)) → length (standing_of crew) ≡ length crew
count_standing crew = length-map crew (λ watch. watch.link)

-- the same of workers' links
pub crew_then : (answers : Caller → List ℕ → List ℕ → Caller → Type 0) (before dialed served now : Books) (crew : List (Watch Standing)) (workers : ℕ)
    (tally : Tally) → length crew ≡ workers → Dials workers before dialed → Serves answers dialed served tally → HangsAll (standing_of crew) served now
    → ServesThen answers before now (standing_of crew) tally
crew_then answers before dialed served now crew workers tally count dials serves hangs =
    serves_then answers before dialed served now (standing_of crew) tally (rw (count_standing crew, count) dials) serves hangs

-- Some links were dialed and hung up again.
pub crew_none : (before mid now : Books) (crew : List (Watch Standing)) → Dials (length crew) before mid → HangsAll (standing_of crew) mid now
    → HangsAll (standing_of crew) (record before { up = before.up + length (standing_of crew) }) now
crew_none before mid now crew dials hangs =
    let dialed : mid ≡ record before { up = before.up + length (standing_of crew) } = rw (count_standing crew) dials in
    rw dialed at hangs

pub few_standing : (crew : List (Watch Standing)) (workers : ℕ) → length crew < workers → length (standing_of crew) < workers
few_standing crew workers few = rw (count_standing crew) few
