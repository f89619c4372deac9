-- Turning the bits of a block byte by byte.
use Rattle.std.proofs.Common.{◌≡◌, ℕ, zero, suc, ◌+◌, ◌<◌, List, [], ◌∷◌, ◌++◌, length, get_or, take, drop, refl, ap, arith, add-one, bit_xor}
use Rattle.std.specs.Prelude.{slice_set}
use Rattle.gss_mech.specs.Hmac.{masked}

-- the first i bytes are turned, and the next one is turned now
turn_next : (pad i : ℕ) (xs : List ℕ) → i < length xs
    → slice_set (masked pad (take i xs) ++ drop i xs) i (bit_xor (get_or (masked pad (take i xs) ++ drop i xs) i 0) pad) ≡ masked pad (take (suc i) xs) ++ drop (suc i) xs
turn_next pad i [] h = absurd (omega arith)
turn_next pad zero (x ∷ xs) h = refl
turn_next pad (suc i) (x ∷ xs) h = ap (λ ys. bit_xor x pad ∷ ys) (turn_next pad i xs (omega arith))

pub turn_one : (pad i : ℕ) (xs items : List ℕ) → i < length xs → items ≡ masked pad (take i xs) ++ drop i xs
    → slice_set items i (bit_xor (get_or items i 0) pad) ≡ masked pad (take (i + 1) xs) ++ drop (i + 1) xs
turn_one pad i xs items h is = rw (is, add-one) (turn_next pad i xs h)
