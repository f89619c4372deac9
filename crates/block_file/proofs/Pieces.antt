-- Bytes that are read, lengthened and written, as lists.
use Rattle.std.proofs.Common.{◌≡◌, ℕ, ◌+◌, ◌-◌, ◌<◌, ◌≤◌, min, List, [], ◌++◌, ◌⊎◌, length, take, drop, replicate, sym, ◌∙◌, ap, subst, arith, inl, inr, length-append, length-drop, append-nil}
use Rattle.std.proofs.Math.Seq.{take-append-add, take-length}
use Rattle.std.proofs.Math.ListN.{drop_of_length-le}
use Rattle.std.proofs.lemmas.Bool.{cases_lt}
use Rattle.std.proofs.lemmas.List.{take-append-le, take-replicate, length-replicate, length-take-le, take_at}
use Rattle.copy_model.specs.Volume.{bytes_at, with_bytes_at}
use Rattle.block_file.specs.Lists.{put_in}

-- past the end, zeros are taken
take_zeros : (xs : List ℕ) (j k : ℕ) → j ≤ k → take (length xs + j) (xs ++ replicate k 0) ≡ xs ++ replicate j 0
take_zeros xs j k le = take-append-add xs (replicate k 0) j ∙ ap (λ (zs : List ℕ). xs ++ zs) (take-replicate j k 0 le)

take_zeros_at : (xs : List ℕ) (n k : ℕ) → length xs ≤ n → n ≤ length xs + k → take n (xs ++ replicate k 0) ≡ xs ++ replicate (n - length xs) 0
take_zeros_at xs n k past le =
    let P : ℕ → Type 0 = λ m. take m (xs ++ replicate k 0) ≡ xs ++ replicate (n - length xs) 0 in
    let e : length xs + (n - length xs) ≡ n = omega arith in
    subst P e (take_zeros xs (n - length xs) k (omega arith))

-- the number of zeros doesn't matter where there are enough
same_zeros : (xs : List ℕ) (n k m : ℕ) → n ≤ length xs + k → n ≤ length xs + m → (n < length xs) ⊎ (length xs ≤ n)
    → take n (xs ++ replicate k 0) ≡ take n (xs ++ replicate m 0)
same_zeros xs n k m enough other (inl lt) =
    take-append-le n xs (replicate k 0) (omega arith) ∙ sym (take-append-le n xs (replicate m 0) (omega arith))
same_zeros xs n k m enough other (inr ge) = take_zeros_at xs n k ge enough ∙ sym (take_zeros_at xs n m ge other)

-- nothing is left past the zeros that lengthen the bytes to n
no_zeros : (xs : List ℕ) (n : ℕ) → (n < length xs) ⊎ (length xs ≤ n) → drop n (xs ++ replicate (n - length xs) 0) ≡ drop n xs
no_zeros xs n (inl lt) =
    let Z : ℕ → List ℕ = λ k. drop n (xs ++ replicate k 0) in
    let none : n - length xs ≡ 0 = omega arith in
    ap Z none ∙ ap (λ (l : List ℕ). drop n l) (append-nil xs)
no_zeros xs n (inr ge) =
    let len = length-append xs (replicate (n - length xs) 0) in
    let zeros : length (replicate {A = ℕ} (n - length xs) 0) ≡ n - length xs = length-replicate (n - length xs) 0 in
    drop_of_length-le (xs ++ replicate (n - length xs) 0) (omega arith) ∙ sym (drop_of_length-le xs ge)

-- bytes put into the lengthened ones are bytes put at their offset
pub with_bytes_at-padded : (bytes part : List ℕ) (off : ℕ)
    → take off (bytes ++ replicate ((off + length part) - length bytes) 0)
    ++ (part ++ drop (off + length part) (bytes ++ replicate ((off + length part) - length bytes) 0))
    ≡ with_bytes_at bytes off part
with_bytes_at-padded bytes part off =
    let end = off + length part in
    let front = same_zeros bytes off (end - length bytes) off (omega arith) (omega arith) (cases_lt off (length bytes)) in
    let back = no_zeros bytes end (cases_lt end (length bytes)) in
    ap (λ (l : List ℕ). l ++ (part ++ drop end (bytes ++ replicate (end - length bytes) 0))) front
    ∙ ap (λ (l : List ℕ). take off (bytes ++ replicate off 0) ++ (part ++ l)) back

-- the bytes from off on, where off may be past the end
drop_within : (bytes : List ℕ) (from off : ℕ) → from ≡ min (length bytes) off → (off < length bytes) ⊎ (length bytes ≤ off) → drop from bytes ≡ drop off bytes
drop_within bytes from off e (inl lt) = let same : from ≡ off = omega arith in ap (λ (k : ℕ). drop k bytes) same
drop_within bytes from off e (inr ge) =
    drop_of_length-le bytes (let len : length bytes ≤ from = omega arith in len) ∙ sym (drop_of_length-le bytes ge)

take_whole : (xs : List ℕ) (n : ℕ) → n ≡ length xs → take n xs ≡ xs
take_whole xs n e = ap (λ (k : ℕ). take k xs) e ∙ take-length xs

-- what is there of a piece, and zeros for the rest of it
filled : (rest : List ℕ) (n there : ℕ) → there ≡ min (length rest) n → (n < length rest) ⊎ (length rest ≤ n)
    → take there rest ++ replicate (n - there) 0 ≡ take n (rest ++ replicate n 0)
filled rest n there e (inl lt) =
    let all : there ≡ n = omega arith in
    let none : n - there ≡ 0 = omega arith in
    ap (λ (k : ℕ). take there rest ++ replicate k 0) none ∙ append-nil (take there rest)
    ∙ ap (λ (k : ℕ). take k rest) all ∙ sym (take-append-le n rest (replicate n 0) (omega arith))
filled rest n there e (inr ge) =
    let all : there ≡ length rest = omega arith in
    ap (λ (l : List ℕ). l ++ replicate (n - there) 0) (take_whole rest there all)
    ∙ ap (λ (k : ℕ). rest ++ replicate (n - k) 0) all
    ∙ sym (take_zeros_at rest n n ge (omega arith))

-- a piece that is copied as far as the bytes go, and filled with zeros from there on
pub bytes_at-filled : (bytes out copied zeros : List ℕ) (from off there : ℕ) → from ≡ min (length bytes) off
    → there ≡ min (length bytes - from) (length out) → copied ≡ take there (drop from bytes)
    → zeros ≡ replicate (length out - there) 0 → copied ++ zeros ≡ bytes_at bytes off (length out)
bytes_at-filled bytes out copied zeros from off there f t c z =
    let same = drop_within bytes from off f (cases_lt off (length bytes)) in
    let len : length (drop from bytes) ≡ length bytes - from = length-drop from bytes in
    ap (λ (l : List ℕ). l ++ zeros) c ∙ ap (λ (l : List ℕ). take there (drop from bytes) ++ l) z
    ∙ filled (drop from bytes) (length out) there (omega arith) (cases_lt (length out) (length (drop from bytes)))
    ∙ ap (λ (l : List ℕ). take (length out) (l ++ replicate (length out) 0)) same

-- The same of a slice that is written in two parts, the first of which is there bytes long.
pub bytes_at-written : (bytes out copied zeros : List ℕ) (from off there k : ℕ) → from ≡ min (length bytes) off
    → there ≡ min (length bytes - from) (length out) → k ≡ there → copied ≡ take k (drop from bytes)
    → zeros ≡ replicate (length (take (length (copied ++ drop there out) - there) (drop there (copied ++ drop there out)))) 0
    → take there (copied ++ drop there out)
    ++ (zeros ++ drop (length (copied ++ drop there out) - there) (drop there (copied ++ drop there out)))
    ≡ bytes_at bytes off (length out)
bytes_at-written bytes out copied zeros from off there k f t s c z =
    let rest : length (drop from bytes) ≡ length bytes - from = length-drop from bytes in
    let first : copied ≡ take there (drop from bytes) = c ∙ ap (λ (n : ℕ). take n (drop from bytes)) s in
    let short : length (take there (drop from bytes)) ≡ there = length-take-le there (drop from bytes) (omega arith) in
    let front : length copied ≡ there = ap (λ (l : List ℕ). length l) first ∙ short in
    let tail : length (drop there out) ≡ length out - there = length-drop there out in
    let whole : length (copied ++ drop there out) ≡ length copied + length (drop there out) = length-append copied (drop there out) in
    let after : length (drop there (copied ++ drop there out)) ≡ length (copied ++ drop there out) - there = length-drop there (copied ++ drop there out) in
    let left : length (take (length (copied ++ drop there out) - there) (drop there (copied ++ drop there out))) ≡ length out - there
    = ap (λ (l : List ℕ). length l) (take_whole (drop there (copied ++ drop there out)) (length (copied ++ drop there out) - there) (omega arith)) ∙ (omega arith) in
    let none : drop (length (copied ++ drop there out) - there) (drop there (copied ++ drop there out)) ≡ []
    = drop_of_length-le (drop there (copied ++ drop there out)) (omega arith) in
    ap (λ (l : List ℕ). l ++ (zeros ++ drop (length (copied ++ drop there out) - there) (drop there (copied ++ drop there out)))) (take_at copied (drop there out) there front)
    ∙ ap (λ (l : List ℕ). copied ++ (zeros ++ l)) none
    ∙ ap (λ (l : List ℕ). copied ++ l) (append-nil zeros)
    ∙ bytes_at-filled bytes out copied zeros from off there f t first (z ∙ ap (λ (n : ℕ). replicate n 0) left)

-- the bytes that are taken of a block, where they are all of it
pub whole_taken : (block : List ℕ) (n from : ℕ) → n ≡ 4096 → from + n ≤ 4096 → length block ≡ 4096 → take n (drop from block) ≡ block
whole_taken block n from all fits len =
    let first : from ≡ 0 = omega arith in
    ap (λ (k : ℕ). take n (drop k block)) first ∙ take_whole block n (omega arith)

-- the bytes that are put in a block, where they are all of it
pub whole_put : (part block : List ℕ) (from : ℕ) → length part ≡ 4096 → from + length part ≤ 4096 → length block ≡ 4096 → put_in from part block ≡ part
whole_put part block from all fits len =
    let first : from ≡ 0 = omega arith in
    ap (λ (k : ℕ). put_in k part block) first
    ∙ ap (λ (l : List ℕ). part ++ l) (drop_of_length-le block (omega arith))
    ∙ append-nil part
