-- Bytes written in blocks of a fixed length, with zeros past those in use.
use Rattle.std.proofs.Common.{◌≡◌, ℕ, ◌+◌, ◌-◌, ◌≤◌, max, List, ◌++◌, length, take, drop, replicate, sym, ◌∙◌, ap, arith}
use Rattle.std.proofs.Math.Seq.{take-append-add, drop-append-add}
use Rattle.std.proofs.lemmas.List.{take-append-drop, take-take, drop-take, drop-drop, drop-replicate, length-take-le, take-replicate}
use Rattle.copy_model.specs.Volume.{with_bytes_at}
use Rattle.block_file.proofs.Pieces.{with_bytes_at-padded}

-- the front of the room, past the bytes in use, is these and zeros
front_held : (bytes : List ℕ) (size end : ℕ) → size ≤ end → end ≤ length bytes → drop size bytes ≡ replicate (length bytes - size) 0
    → take end bytes ≡ take size bytes ++ replicate (end - size) 0
front_held bytes size end le within zeros =
    let short : length (take size bytes) ≡ size = length-take-le size bytes (omega arith) in
    let sum : length (take size bytes) + (end - size) ≡ end = omega arith in
    let whole : take size bytes ++ drop size bytes ≡ bytes = take-append-drop size bytes in
    ap (λ (n : ℕ). take n bytes) (sym sum)
    ∙ ap (λ (l : List ℕ). take (length (take size bytes) + (end - size)) l) (sym whole)
    ∙ take-append-add (take size bytes) (drop size bytes) (end - size)
    ∙ ap (λ (l : List ℕ). take size bytes ++ take (end - size) l) zeros
    ∙ ap (λ (l : List ℕ). take size bytes ++ l) (take-replicate (end - size) (length bytes - size) 0 (omega arith))

module _ (bytes part : List ℕ) (size off : ℕ) (within : size ≤ length bytes) (fits : off + length part ≤ length bytes)
    (zeros : drop size bytes ≡ replicate (length bytes - size) 0) where
  off_len : length (take off bytes) ≡ off
  off_len = length-take-le off bytes (omega arith)

  end_is : length (take off bytes) + (length part + (max size (off + length part) - (off + length part))) ≡ max size (off + length part)
  end_is = let e = off_len in omega arith

  front_is : take (max size (off + length part)) (take off bytes ++ (part ++ drop (off + length part) bytes))
      ≡ take off bytes ++ (part ++ take (max size (off + length part) - (off + length part)) (drop (off + length part) bytes))
  front_is =
      let k = max size (off + length part) - (off + length part) in
      ap (λ (n : ℕ). take n (take off bytes ++ (part ++ drop (off + length part) bytes))) (sym end_is)
      ∙ take-append-add (take off bytes) (part ++ drop (off + length part) bytes) (length part + k)
      ∙ ap (λ (l : List ℕ). take off bytes ++ l) (take-append-add part (drop (off + length part) bytes) k)

  pub write_now : take (max size (off + length part)) (take off bytes ++ (part ++ drop (off + length part) bytes))
      ≡ with_bytes_at (take size bytes) off part
  write_now =
      let end = max size (off + length part) in
      let k = end - (off + length part) in
      let short : length (take size bytes) ≡ size = length-take-le size bytes within in
      let pad : end - size ≡ (off + length part) - length (take size bytes) = omega arith in
      let sum : (off + length part) + k ≡ end = omega arith in
      let padded : take end bytes ≡ take size bytes ++ replicate ((off + length part) - length (take size bytes)) 0 =
      front_held bytes size end (omega arith) (omega arith) zeros ∙ ap (λ (n : ℕ). take size bytes ++ replicate n 0) pad in
      let left : take off bytes ≡ take off (take end bytes) = sym (take-take off end bytes (omega arith)) in
      let right : take k (drop (off + length part) bytes) ≡ drop (off + length part) (take end bytes) =
      sym (drop-take (off + length part) k bytes) ∙ ap (λ (n : ℕ). drop (off + length part) (take n bytes)) sum in
      front_is
      ∙ ap (λ (l : List ℕ). take off bytes ++ (part ++ l)) right
      ∙ ap (λ (l : List ℕ). l ++ (part ++ drop (off + length part) (take end bytes))) left
      ∙ ap (λ (l : List ℕ). take off l ++ (part ++ drop (off + length part) l)) padded
      ∙ with_bytes_at-padded (take size bytes) part off

  pub write_zeros : drop (max size (off + length part)) (take off bytes ++ (part ++ drop (off + length part) bytes))
      ≡ replicate (length bytes - max size (off + length part)) 0
  write_zeros =
      let end = max size (off + length part) in
      let k = end - (off + length part) in
      let sum : (off + length part) + k ≡ end = omega arith in
      let split : end ≡ size + (end - size) = omega arith in
      let left : (length bytes - size) - (end - size) ≡ length bytes - end = omega arith in
      ap (λ (n : ℕ). drop n (take off bytes ++ (part ++ drop (off + length part) bytes))) (sym end_is)
      ∙ drop-append-add (take off bytes) (part ++ drop (off + length part) bytes) (length part + k)
      ∙ drop-append-add part (drop (off + length part) bytes) k
      ∙ drop-drop k (off + length part) bytes
      ∙ ap (λ (n : ℕ). drop n bytes) (sum ∙ split)
      ∙ sym (drop-drop (end - size) size bytes)
      ∙ ap (λ (l : List ℕ). drop (end - size) l) zeros
      ∙ drop-replicate (end - size) (length bytes - size) 0
      ∙ ap (λ (n : ℕ). replicate n 0) left
