-- Two lists are the same as far as they are the same chunk by chunk.
use Rattle.std.proofs.Common.{◌≡◌, ℕ, zero, suc, ◌+◌, ◌-◌, ◌≤◌, List, [], ◌∷◌, ◌++◌, length, take, drop, replicate, refl, sym, ap, ◌∙◌, arith, length-drop}
use Rattle.std.proofs.Math.Seq.{take-add}
use Rattle.std.proofs.lemmas.List.{take_all}
use Rattle.copy_model.specs.Volume.{bytes_at}

-- what stands behind lists of one length tells nothing of their fronts
same_front : (xs ys zs : List ℕ) (n : ℕ) → length xs ≡ length ys → take n (xs ++ zs) ≡ take n (ys ++ zs) → take n xs ≡ take n ys
same_front [] [] zs n len same = refl
same_front [] (y ∷ ys) zs n len same = absurd (omega (arith, len))
same_front (x ∷ xs) [] zs n len same = absurd (omega (arith, len))
same_front (x ∷ xs) (y ∷ ys) zs zero len same = refl
same_front (x ∷ xs) (y ∷ ys) zs (suc n) len same =
    let shorter : length xs ≡ length ys = omega (arith, len) in
    let rest : take n (xs ++ zs) ≡ take n (ys ++ zs) = cc in
    let front = same_front xs ys zs n shorter rest in
    cc

-- one chunk more
pub chunk_more : (s d : List ℕ) (off len : ℕ) → length s ≡ length d → take off s ≡ take off d → bytes_at s off len ≡ bytes_at d off len
    → take (off + len) s ≡ take (off + len) d
chunk_more s d off len sizes before chunk =
    let lengths : length (drop off s) ≡ length (drop off d) = length-drop off s ∙ ap (λ n. n - off) sizes ∙ sym (length-drop off d) in
    let front = same_front (drop off s) (drop off d) (replicate len 0) len lengths chunk in
    let left = take-add off len s in
    let right = take-add off len d in
    cc

-- all of them
pub all_chunks : (s d : List ℕ) (off : ℕ) → length s ≤ off → length s ≡ length d → take off s ≡ take off d → s ≡ d
all_chunks s d off most sizes same =
    let left = take_all off s most in
    let right = take_all off d (omega arith) in
    cc
