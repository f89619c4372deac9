-- Looking for a name entry by entry.
use Rattle.std.proofs.Common.{◌≡◌, ℕ, zero, suc, ◌+◌, ◌<◌, List, [], ◌∷◌, length, get_or, drop, refl, arith, add-one, true, false, Some, bytes_eq}
use Rattle.gss_mech.specs.Realm.{Keys, listed_key}

-- where the entry's name is the one that is looked for, and where it isn't
pub key_found : (keys : Keys) (name : List ℕ) (i : ℕ) (d : List ℕ × List ℕ) → i < length keys → bytes_eq (get_or keys i d).0 name ≡ true
    → listed_key (drop i keys) name ≡ Some (get_or keys i d).1
key_found [] name i d h is = absurd (omega arith)
key_found (e ∷ keys) name zero d h is = rw is refl
key_found (e ∷ keys) name (suc i) d h is = key_found keys name i d (omega arith) is

pub key_passed : (keys : Keys) (name : List ℕ) (i : ℕ) (d : List ℕ × List ℕ) → i < length keys → bytes_eq (get_or keys i d).0 name ≡ false
    → listed_key (drop i keys) name ≡ listed_key (drop (i + 1) keys) name
key_passed [] name i d h is = absurd (omega arith)
key_passed (e ∷ keys) name zero d h is = rw is refl
key_passed (e ∷ keys) name (suc i) d h is = rw add-one (rw add-one at (key_passed keys name i d (omega arith) is))
