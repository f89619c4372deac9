-- Bytes that were written stand there.
use Rattle.std.proofs.Common.{◌≡◌, ◌∙◌, ℕ, ◌+◌, ◌<◌, List, [], ◌∷◌, ◌++◌, length, take, drop, refl, sym, ap, arith, append_assoc}
use Rattle.std.specs.Prelude.{replicate}
use Rattle.std.proofs.Math.Seq.{drop-append_seam, take-append_seam}
use Rattle.std.proofs.lemmas.List.{get_or-set_same, length-append, length-replicate, length-take-le}
use Rattle.copy_model.specs.Volume.{File, Volume, bytes_at, change_of, file_at, no_file, with_bytes_at, write, written}

front_length : (bytes : List ℕ) (off : ℕ) → length (take off (bytes ++ replicate off 0)) ≡ off
front_length bytes off =
    length-take-le off (bytes ++ replicate off 0) (omega (arith, length-append bytes (replicate off 0), length-replicate {A = ℕ} off 0))

read_back : (bytes piece : List ℕ) (off : ℕ) → bytes_at (with_bytes_at bytes off piece) off (length piece) ≡ piece
read_back bytes piece off =
    let front = take off (bytes ++ replicate off 0) in
    let rest = drop (off + length piece) bytes in
    let zeros = replicate (length piece) 0 in
    let dropped : drop off (front ++ (piece ++ rest)) ≡ piece ++ rest
    = sym (ap (λ (n : ℕ). drop n (front ++ (piece ++ rest))) (front_length bytes off)) ∙ drop-append_seam front (piece ++ rest) in
    ap (λ (l : List ℕ). take (length piece) (l ++ zeros)) dropped
    ∙ (ap (take (length piece)) (append_assoc piece rest zeros) ∙ take-append_seam piece (rest ++ zeros))

pub stands : (v : Volume) (file off : ℕ) (bytes : List ℕ) → file < length v.files → bytes_at (file_at (write v file off bytes) file).now off (length bytes) ≡ bytes
stands v file off [] there = refl
stands v file off (b ∷ bs) there =
    ap (λ (f : File). bytes_at f.now off (length (b ∷ bs)))
    (get_or-set_same v.files file (written (file_at v file) off (b ∷ bs) (change_of v.boot (v.writes + 1))) no_file there)
    ∙ read_back (file_at v file).now (b ∷ bs) off
