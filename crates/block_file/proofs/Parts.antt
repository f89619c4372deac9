-- Bytes put at a place, in the place of what was there.
use Rattle.std.proofs.Common.{◌≡◌, ℕ, ◌+◌, ◌-◌, ◌≤◌, List, ◌++◌, length, take, drop, sym, ◌∙◌, ap, arith, length-append, length-drop}
use Rattle.std.proofs.Math.Seq.{take-append_seam, drop-append_seam}
use Rattle.block_file.specs.Lists.{put_in}
use Rattle.std.proofs.lemmas.List.{take-append-le, take-take, drop-drop, drop-take, length-take-le}

pub front_put : (at k : ℕ) (part xs : List ℕ) → at ≤ length xs → k ≤ at → take k (put_in at part xs) ≡ take k xs
front_put at k part xs le within =
    let short : length (take at xs) ≡ at = length-take-le at xs le in
    take-append-le k (take at xs) (part ++ drop (at + length part) xs) (omega arith) ∙ take-take k at xs within

pub at_put : (at : ℕ) (part xs : List ℕ) → at ≤ length xs → drop at (put_in at part xs) ≡ part ++ drop (at + length part) xs
at_put at part xs le =
    let short : length (take at xs) ≡ at = length-take-le at xs le in
    ap (λ (n : ℕ). drop n (put_in at part xs)) (sym short) ∙ drop-append_seam (take at xs) (part ++ drop (at + length part) xs)

pub part_put : (at n : ℕ) (part xs : List ℕ) → at ≤ length xs → length part ≡ n → take n (drop at (put_in at part xs)) ≡ part
part_put at n part xs le len =
    ap (λ (k : ℕ). take k (drop at (put_in at part xs))) (sym len)
    ∙ ap (λ (l : List ℕ). take (length part) l) (at_put at part xs le)
    ∙ take-append_seam part (drop (at + length part) xs)

pub past_put : (at n : ℕ) (part xs : List ℕ) → at ≤ length xs → length part ≡ n → drop (at + n) (put_in at part xs) ≡ drop (at + n) xs
past_put at n part xs le len =
    sym (drop-drop n at (put_in at part xs))
    ∙ ap (λ (l : List ℕ). drop n l) (at_put at part xs le)
    ∙ ap (λ (k : ℕ). drop k (part ++ drop (at + length part) xs)) (sym len)
    ∙ drop-append_seam part (drop (at + length part) xs)
    ∙ ap (λ (k : ℕ). drop (at + k) xs) len

pub len_put : (at : ℕ) (part xs : List ℕ) → at + length part ≤ length xs → length (put_in at part xs) ≡ length xs
len_put at part xs le =
    let short : length (take at xs) ≡ at = length-take-le at xs (omega arith) in
    let a : length (put_in at part xs) ≡ length (take at xs) + length (part ++ drop (at + length part) xs)
    = length-append (take at xs) (part ++ drop (at + length part) xs) in
    let b : length (part ++ drop (at + length part) xs) ≡ length part + length (drop (at + length part) xs) = length-append part (drop (at + length part) xs) in
    let d : length (drop (at + length part) xs) ≡ length xs - (at + length part) = length-drop (at + length part) xs in
    omega arith

-- a part before the place is as it was, and so is one past it
pub before_put : (at k n : ℕ) (part xs : List ℕ) → at ≤ length xs → n + k ≤ at → take k (drop n (put_in at part xs)) ≡ take k (drop n xs)
before_put at k n part xs le within =
    sym (drop-take n k (put_in at part xs)) ∙ ap (λ (l : List ℕ). drop n l) (front_put at (n + k) part xs le within) ∙ drop-take n k xs

pub beyond_put : (at n k : ℕ) (part xs : List ℕ) → at ≤ length xs → length part ≡ n → at + n ≤ k → drop k (put_in at part xs) ≡ drop k xs
beyond_put at n k part xs le len far =
    let e : k ≡ (at + n) + (k - (at + n)) = omega arith in
    ap (λ (m : ℕ). drop m (put_in at part xs)) e
    ∙ sym (drop-drop (k - (at + n)) (at + n) (put_in at part xs))
    ∙ ap (λ (l : List ℕ). drop (k - (at + n)) l) (past_put at n part xs le len)
    ∙ drop-drop (k - (at + n)) (at + n) xs
    ∙ ap (λ (m : ℕ). drop m xs) (sym e)
