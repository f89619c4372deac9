-- A link that was just made is new: where no call was made, none failed.
use Rattle.std.proofs.Common.{◌≡◌, ℕ, zero, suc, List, [], ◌∷◌, refl, arith}
use Rattle.outcome.specs.Plan.{made_of, is_made}
use Rattle.net_links.specs.Links.{IsNew}
use Rattle.net_links.specs.Memory.{Coming, LinkState, link_of, standing}

none_failed : (failing : List ℕ) → made_of 0 failing ≡ 0
none_failed [] = refl
none_failed (zero ∷ others) = omega (arith, none_failed others)
none_failed (suc n ∷ others) = grind (arith, none_failed others)

pub made_new : (link : LinkState) (connection : Coming) → link ≡ link_of connection → IsNew (standing link)
made_new link connection is = rw is (record {
  told = (refl, refl);
  reads = none_failed connection.takes;
  puts = omega (arith, none_failed connection.puts);
})
