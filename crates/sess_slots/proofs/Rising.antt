-- Lists whose keys rise: what is taken out, changed or added behind leaves them rising, and they are distinct.
use Rattle.std.proofs.Common.{◌≡◌, ℕ, zero, suc, ◌<◌, ◌≤◌, Bool, true, false, List, [], ◌∷◌, ◌++◌, length, map, refl, ap, arith}
use Rattle.std.specs.Prelude.{filter, if◌then◌else◌, slice_index}
use Rattle.nfs_base.specs.Changed.{changed}

-- the numbers rise from low on, and stay below high
abbrev pub Rising : ℕ → List ℕ → ℕ → Type 0
Rising low [] high = low ≤ high
Rising low (x ∷ xs) high = (low ≤ x) × Rising (suc x) xs high

rising_from : (low more : ℕ) (xs : List ℕ) (high : ℕ) → low ≤ more → Rising more xs high → Rising low xs high
rising_from low more [] high below h = omega arith
rising_from low more (x ∷ xs) high below h = (omega (arith, h.0), h.1)

-- a key behind all of them
pub rising_append : {X : Type 0} (key : X → ℕ) (low : ℕ) (xs : List X) (x : X) (high next : ℕ) → key x ≡ high → suc high ≡ next → Rising low (map key xs) high → Rising low (map key (xs ++ x ∷ [])) next
rising_append key low [] x high next same is h = (omega (arith, h, same), omega (arith, same, is))
rising_append {X} key low (y ∷ ys) x high next same is h = (h.0, rising_append key (suc (key y)) ys x high next same is h.1)

pub rising_filter : {X : Type 0} (key : X → ℕ) (test : X → Bool) (low : ℕ) (xs : List X) (high : ℕ) → Rising low (map key xs) high → Rising low (map key (filter test xs)) high
rising_filter key test low [] high h = h
rising_filter {X} key test low (x ∷ xs) high h =
    let rest : Rising (suc (key x)) (map key (filter test xs)) high = rising_filter key test (suc (key x)) xs high h.1 in
    elim (test x) as (λ b. Rising low (map key (if b then x ∷ filter test xs else filter test xs)) high) [
      | true ↦ (h.0, rest)
      | false ↦ rising_from low (suc (key x)) (map key (filter test xs)) high (omega (arith, h.0)) rest
    ]

pub keys_changed : {X : Type 0} (key : X → ℕ) (test : X → Bool) (f : X → X) (xs : List X) → ((x : X) → key (f x) ≡ key x) → map key (changed test f xs) ≡ map key xs
keys_changed key test f [] same = refl
keys_changed {X} key test f (x ∷ xs) same =
    elim (test x) as (λ b. map key (if b then f x ∷ xs else x ∷ changed test f xs) ≡ key x ∷ map key xs) [
      | true ↦ ap (λ k. k ∷ map key xs) (same x)
      | false ↦ ap (λ ks. key x ∷ ks) (keys_changed key test f xs same)
    ]

from_low : (low : ℕ) (xs : List ℕ) (high j : ℕ) → Rising low xs high → j < length xs → low ≤ slice_index xs j
from_low low [] high j h there = omega arith
from_low low (x ∷ xs) high zero h there = h.0
from_low low (x ∷ xs) high (suc j) h there =
    let later : suc x ≤ slice_index xs j = from_low (suc x) xs high j h.1 (omega arith) in omega (arith, h.0)

pub rising_apart : (low : ℕ) (xs : List ℕ) (high i j : ℕ) → Rising low xs high → i < j → j < length xs → slice_index xs i < slice_index xs j
rising_apart low [] high i j h below there = omega arith
rising_apart low (x ∷ xs) high i zero h below there = omega arith
rising_apart low (x ∷ xs) high zero (suc j) h below there = let later : suc x ≤ slice_index xs j = from_low (suc x) xs high j h.1 (omega arith) in omega arith
rising_apart low (x ∷ xs) high (suc i) (suc j) h below there = rising_apart (suc x) xs high i j h.1 (omega arith) (omega arith)
