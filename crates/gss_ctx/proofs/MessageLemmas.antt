-- A message that is put together piece by piece has a sealed body.
use Rattle.std.specs.Prelude.{◌≡◌, ℕ, ◌+◌, ◌-◌, List, [], ◌++◌, length, take, drop, replicate}
use Rattle.std.proofs.Common.{sym, ◌∙◌, ap, arith, append_assoc}
use Rattle.std.proofs.Math.Seq.{drop-append_seam, take-length}
use Rattle.std.proofs.lemmas.List.{append-nil, length-append, length-drop}
use Rattle.wire_xdr.specs.Words.{word_bytes, fixed_bytes, opaque_bytes, padding}
use Rattle.gss_ctx.specs.Seals.{sealed_body}
use Rattle.wire_xdr.specs.LengthLaws.{word_length}

padding_four : (n : ℕ) → padding (n + 4) ≡ padding n
padding_four n = omega arith

flat : (head w s p z l made : List ℕ) → (((((head ++ w) ++ s) ++ p) ++ z) ++ l) ++ made ≡ head ++ ((w ++ ((s ++ p) ++ z)) ++ (l ++ (made ++ [])))
flat head w s p z l made = simp (append_assoc, append-nil)

pub message_is : (code : List ℕ → List ℕ) (head payload made i1 i2 i3 i4 i5 i6 i7 : List ℕ) (seq : ℕ)
    → i1 ≡ head → i2 ≡ i1 ++ word_bytes (length payload + 4) → i3 ≡ i2 ++ word_bytes seq → i4 ≡ i3 ++ payload
    → made ≡ code (drop (length i2) i4) → length made ≡ 32
    → i5 ≡ i4 ++ replicate (padding (length payload)) 0 → i6 ≡ i5 ++ word_bytes 32 → i7 ≡ i6 ++ made
    → i7 ≡ head ++ sealed_body code seq payload
unfolding opaque_bytes fixed_bytes
message_is code head payload made i1 i2 i3 i4 i5 i6 i7 seq e1 e2 e3 e4 em len e5 e6 e7 =
    let n : ℕ = length payload in
    let text : List ℕ = word_bytes seq ++ payload in
    let size : length text ≡ n + 4 = omega (arith, length-append (word_bytes seq) payload, word_length seq) in
    let whole : i4 ≡ i2 ++ text = e4 ∙ ap (λ (x : List ℕ). x ++ payload) e3 ∙ append_assoc i2 (word_bytes seq) payload in
    let made_is : made ≡ code text = em ∙ ap (λ (x : List ℕ). code (drop (length i2) x)) whole ∙ ap code (drop-append_seam i2 text) in
    let pad : padding (length text) ≡ padding n = ap (λ (m : ℕ). padding m) size ∙ padding_four n in
    let none : padding (length made) ≡ 0 = ap (λ (m : ℕ). padding m) len in
    let first : opaque_bytes text ≡ word_bytes (n + 4) ++ (text ++ replicate (padding n) 0) = λ i. word_bytes (size i) ++ (text ++ replicate (pad i) 0) in
    let second : opaque_bytes (code text) ≡ word_bytes 32 ++ (made ++ []) = ap opaque_bytes (sym made_is) ∙ (λ i. word_bytes (len i) ++ (made ++ replicate (none i) 0)) in
    let pieces : i7 ≡ (((((head ++ word_bytes (n + 4)) ++ word_bytes seq) ++ payload) ++ replicate (padding n) 0) ++ word_bytes 32) ++ made =
    e7 ∙ ap (λ (x : List ℕ). x ++ made) (e6 ∙ ap (λ (x : List ℕ). x ++ word_bytes 32) (e5 ∙ ap (λ (x : List ℕ). x ++ replicate (padding n) 0)
    (e4 ∙ ap (λ (x : List ℕ). x ++ payload) (e3 ∙ ap (λ (x : List ℕ). x ++ word_bytes seq) (e2 ∙ ap (λ (x : List ℕ). x ++ word_bytes (n + 4)) e1))))) in
    pieces ∙ flat head (word_bytes (n + 4)) (word_bytes seq) payload (replicate (padding n) 0) (word_bytes 32) made ∙ sym (λ i. head ++ (first i ++ second i))

-- a slice from a place on
pub rest_is : (n m : ℕ) (xs : List ℕ) → m ≡ n → take (length xs - m) (drop m xs) ≡ drop n xs
rest_is n m xs is = ap (λ (k : ℕ). take k (drop m xs)) (sym (length-drop m xs)) ∙ take-length (drop m xs) ∙ ap (λ (k : ℕ). drop k xs) is
