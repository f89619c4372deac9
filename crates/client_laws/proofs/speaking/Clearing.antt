-- Where a setup goes down, nothing is awaited of its server.
use Rattle.std.proofs.Common.{◌≡◌, ◌≢◌, ◌∙◌, ℕ, zero, suc, ◌+◌, ◌<◌, ◌≤◌, List, [], ◌∷◌, length, get_or, set, get_or-set_other, Option, Some, None, refl, ap, inl, inr, ◌⊎◌, arith}
use Rattle.std.proofs.lemmas.Bool.{cases_eq, cases_lt}
use Rattle.std.proofs.lemmas.List.{get_or_past, length-set}
use Rattle.client_copies.specs.Table.{Copies}
use Rattle.client_laws.proofs.speaking.Mounts.{down_up, fallen_less, fallen_many, none_some, set_none}
use Rattle.client_laws.specs.Speaking.Places.{IsPlaced}
use Rattle.client_site.specs.Falling.{all_places, given_up_at, gone_down}
use Rattle.client_site.specs.declared.site.Site.{Site}
use Rattle.mount.specs.Falling.{fallen, given_up}
use Rattle.mount.specs.State.{Mounted, awaited_at, pending_at, pending_in}
use Rattle.mount.specs.declared.state.Awaiting.{Awaiting}
use Rattle.mount.specs.declared.state.Pending.{Pending}
use Rattle.mount.specs.declared.state.TheConstants.{PLACES}
use Rattle.nfs_base.specs.declared.side.Side.{Side}

-- places are emptied one after the other
abbrev cleared : List ℕ → List (Option Awaiting) → List (Option Awaiting)
cleared [] l = l
cleared (p ∷ ps) l = cleared ps (set l p None)

abbrev from : ℕ → ℕ → List ℕ
from k zero = []
from k (suc n) = k ∷ from (k + 1) n

still_none : (ps : List ℕ) (l : List (Option Awaiting)) (j : ℕ) → get_or l j None ≡ None → get_or (cleared ps l) j None ≡ None
still_none [] l j none = none
still_none (p ∷ ps) l j none = still_none ps (set l p None) j (by (cases_eq j p))
  where
    by : (j ≡ p) ⊎ (j ≢ p) → get_or (set l p None) j None ≡ None
    by (inl here) = ap (λ (i : ℕ). get_or (set l p None) i None) here ∙ set_none l p
    by (inr apart) = get_or-set_other l p j None None apart ∙ none

from_none : (n k j : ℕ) (l : List (Option Awaiting)) → k ≤ j → j < k + n → get_or (cleared (from k n) l) j None ≡ None
from_none zero k j l low high = absurd (omega arith)
from_none (suc n) k j l low high = by (cases_eq j k) (λ next last. from_none n (k + 1) j (set l k None) next last)
  where
    by : (j ≡ k) ⊎ (j ≢ k) → (k + 1 ≤ j → j < k + 1 + n → get_or (cleared (from (k + 1) n) (set l k None)) j None ≡ None)
        → get_or (cleared (from (k + 1) n) (set l k None)) j None ≡ None
    by (inl here) later = still_none (from (k + 1) n) (set l k None) j (ap (λ (i : ℕ). get_or (set l k None) i None) here ∙ set_none l k)
    by (inr apart) later =
        let next : k + 1 ≤ j = grind (arith, low, apart) in
        let last : j < k + 1 + n = omega arith in
        later next last

cleared_many : (ps : List ℕ) (l : List (Option Awaiting)) → length (cleared ps l) ≡ length l
cleared_many [] l = refl
cleared_many (p ∷ ps) l = cleared_many ps (set l p None) ∙ length-set l p None

given_places : (ps : List ℕ) (m : Mounted) → (given_up_at ps m).places ≡ cleared ps m.places
given_places [] m = refl
given_places (p ∷ ps) m = given_places ps (given_up p m)

given_none : (m : Mounted) (j : ℕ) → length m.places ≡ PLACES → awaited_at (given_up_at all_places m) j ≡ None
given_none m j many = ap (λ (l : List (Option Awaiting)). get_or l j None) (given_places all_places m) ∙ by (cases_lt j 16)
  where
    by : (j < 16) ⊎ (16 ≤ j) → get_or (cleared all_places m.places) j None ≡ None
    by (inl within) =
        let low : 0 ≤ j = omega arith in
        let high : j < 0 + 16 = omega arith in
        from_none 16 0 j m.places low high
    by (inr past) =
        let short : length (cleared all_places m.places) ≤ j = omega (arith, cleared_many all_places m.places, many, past) in
        get_or_past (cleared all_places m.places) j None short

all_gone : (m : Mounted) (j : ℕ) (p : Pending) → length m.places ≡ PLACES → pending_at (fallen (given_up_at all_places m)) j ≡ Some p → ⊥
all_gone m j p many is =
    none_some (pending_at (given_up_at all_places m) j) p (ap pending_in (given_none m j many)) (fallen_less (given_up_at all_places m) j p is)

pub gone_placed : (side : Side) (s : Site) (t : Copies) → length s.mount.places ≡ PLACES → IsPlaced side (gone_down s) t
gone_placed side s t many = record {
  many =
      fallen_many (given_up_at all_places s.mount) ∙ ap (λ (l : List (Option Awaiting)). length l) (given_places all_places s.mount)
      ∙ cleared_many all_places s.mount.places ∙ many;
  up = down_up (fallen (given_up_at all_places s.mount)) None refl;
  down = λ none place context aim asking is. all_gone s.mount place _ many is;
  first = λ p is. absurd (all_gone s.mount 0 p many is);
  others = λ j some p is. absurd (all_gone s.mount j p many is);
}
