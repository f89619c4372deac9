-- What a server keeps, step by step.
use Rattle.std.proofs.Common.{◌≡◌, ℕ, ◌+◌, ◌-◌, ◌*◌, ◌≤◌, List, [], ◌∷◌, ◌++◌, ◌⊎◌, Option, refl, sym, ap, ◌∙◌, arith, inl, inr, append_assoc, append-nil, length-append}
use Rattle.rpc_msg.specs.declared.pump.Pumped.{Pumped}
use Rattle.net_links.specs.Links.{Standing, HangsUp}
use Rattle.link_server.specs.Answering.{Caller}
use Rattle.link_server.specs.Serving.{ServedIs}
use Rattle.link_server.specs.Hanging.{HungIs, no_sums, sums_after}
use Rattle.link_server.specs.Accepting.{KeptWith, LentIs, SiteState}
use Rattle.link_server.specs.Keeping.{Books, Kept, tally_after}
use Rattle.link_server.specs.declared.tally.Tally.{Tally}
use Rattle.link_server.specs.declared.tally.TheConstants.{ALL_RECORDS, EACH_RECORDS}
use Rattle.link_server.proofs.Causes.{one_more}

-- nothing was done yet
pub kept_none : (answers : Caller → List ℕ → List ℕ → Caller → Type 0) (now : Books) (tally : Tally)
    → tally.accepted ≡ 0 → tally.starved ≡ 0 → tally.left ≡ ALL_RECORDS → Kept answers now now 0 0 tally
kept_none answers now tally accepted starved left = record {
  links = [];
  sums = no_sums;
  hung = sym (append-nil now.hung);
  all = refl;
  starved = sym starved;
  records = omega (arith, left);
  count = omega (arith, accepted);
  up = omega arith;
  accepted = omega (arith, accepted);
}

-- It was lent the records of one connection, or all that those before it had left.
gave : (lent given left taken : ℕ) → taken + left + (lent + given) ≡ ALL_RECORDS
    → ((given ≡ EACH_RECORDS) ⊎ ((given ≤ EACH_RECORDS) × (lent ≡ 0) × (left ≡ 0)))
    → ((given ≡ EACH_RECORDS) ⊎ ((given ≤ EACH_RECORDS) × (taken + given ≡ ALL_RECORDS)))
gave lent given left taken records (inl each) = inl each
gave lent given left taken records (inr rest) = inr (rest.0, omega (arith, records, rest.1, rest.2))

-- one was hung up
pub kept_hung : (answers : Caller → List ℕ → List ℕ → Caller → Type 0) (before old now : Books) (others lent given unused : ℕ)
    (end : Option Pumped) (link : Standing) (tally : Tally)
    → ((given ≡ EACH_RECORDS) ⊎ ((given ≤ EACH_RECORDS) × (lent ≡ 0) × (tally.left ≡ 0)))
    → ServedIs answers given unused end link → HangsUp old.hung now.hung link → old.up ≡ now.up + 1 → now.accepted ≡ old.accepted
    → Kept answers before old (others + 1) (lent + given) tally → Kept answers before now others lent (tally_after tally end unused)
kept_hung answers before old now others lent given unused end link tally lends served hangs up accepted kept =
    let one : HungIs answers kept.sums link = record {
      given = given;
      unused = unused;
      end = end;
      told = hangs.told;
      served = served;
      gave = gave lent given tally.left kept.sums.taken kept.records lends;
    } in record {
      links = kept.links ++ link ∷ [];
      sums = sums_after kept.sums (given - unused) end;
      hung = hangs.kept ∙ ap (λ xs. xs ++ link ∷ []) kept.hung ∙ append_assoc before.hung kept.links (link ∷ []);
      all = one_more answers no_sums kept.sums kept.links link kept.all one;
      starved = omega (arith, kept.starved);
      records = omega (arith, kept.records, served.few);
      count = omega (arith, length-append kept.links (link ∷ []), kept.count);
      up = omega (arith, kept.up, up);
      accepted = omega (arith, kept.accepted, accepted);
    }

lends : (given : ℕ) (site : SiteState) → LentIs given site
    → ((given ≡ EACH_RECORDS) ⊎ ((given ≤ EACH_RECORDS) × (EACH_RECORDS * site.running ≡ 0) × (site.tally.left ≡ 0)))
lends given site (inl each) = inl each
lends given site (inr rest) = inr (rest.0, omega (arith, rest.1), rest.2)

-- the same of a server that accepts
pub site_hung : (answers : Caller → List ℕ → List ℕ → Caller → Type 0) (old now : Books) (given unused : ℕ)
    (end : Option Pumped) (link : Standing) (old_site site : SiteState) (tally : Tally)
    → old_site ≡ site → tally ≡ tally_after site.tally end unused
    → LentIs given old_site → ServedIs answers given unused end link → HangsUp old.hung now.hung link → old.up ≡ now.up + 1 → now.accepted ≡ old.accepted
    → KeptWith answers old given old_site → Kept answers site.before now site.running (EACH_RECORDS * site.running) tally
site_hung answers old now given unused end link old_site site tally same after lent served hangs up accepted kept =
    let kept_here : KeptWith answers old given site = rw same at kept in
    let lent_here : LentIs given site = rw same at lent in
    rw after (kept_hung answers site.before old now site.running (EACH_RECORDS * site.running) given unused end link site.tally
    (lends given site lent_here) served hangs up accepted kept_here)
