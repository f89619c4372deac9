-- What dials and hanging up come to for a net's books.
use Rattle.std.proofs.Common.{◌≡◌, ◌∙◌, ℕ, List, [], ◌∷◌, ◌++◌, length, ap, arith}
use Rattle.net_links.specs.Links.{Standing, IsNew}
use Rattle.linked_copy.specs.Nets.{Books, Dials, HangsUp, Returns, Unpaired}

-- as many links were hung up as had been dialed
pub dialed_returns : (count : ℕ) (links : List Standing) (before middle now : Books) → Dials count before middle → HangsUp links middle now
    → length links ≡ count → Returns links before now
dialed_returns count links before middle now dials hangs all =
    let up : now.up ≡ before.up = omega (arith, hangs.up, ap (λ (b : Books). b.up) dials, all) in
    record {
      is = hangs.is ∙ ap (λ (b : Books). record b { up = now.up; hung = b.hung ++ links }) dials
          ∙ ap (λ (n : ℕ). record before { up = n; hung = before.hung ++ links }) up;
      told = hangs.told;
    }

-- one link was dialed, and no other
pub one_unpaired : (told : Type 0) (before middle after now : Books) (link : Standing) → (told → Dials 1 before middle) → (told → after ≡ middle)
    → (told → HangsUp (link ∷ []) after now) → IsNew link → Unpaired told before now
one_unpaired told before middle after now link one none hangs new = record {
  links = link ∷ [];
  few = omega arith;
  new = (new, tt);
  hung = λ t. dialed_returns 1 (link ∷ []) before after now (none t ∙ one t) (hangs t) (omega arith);
}
