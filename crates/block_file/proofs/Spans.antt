-- Bytes of a file over its blocks.
use Rattle.std.proofs.Common.{◌≡◌, ◌≢◌, ℕ, zero, suc, ◌+◌, ◌-◌, ◌*◌, ◌/◌, ◌%◌, ◌<◌, ◌≤◌, List, ◌++◌, ◌⊎◌, length, get_or, take, drop, inl, inr, refl, sym, ◌∙◌, ap, arith, length-append, length-drop}
use Rattle.std.proofs.lemmas.Bool.{cases_eq, cases_lt}
use Rattle.std.proofs.lemmas.List.{get_or_append_left, get_or-append_right, get_or-take, get_or-drop, ext_get_or, length-take-le}
use Rattle.block_file.specs.Lists.{joined, put_in}
use Rattle.block_file.proofs.Parts.{len_put}

-- what a list with a part put in has at a place: what was there, or the part's
pub put_outside : (at p : ℕ) (part xs : List ℕ) → at + length part ≤ length xs → (p < at) ⊎ (at + length part ≤ p)
    → get_or (put_in at part xs) p 0 ≡ get_or xs p 0
put_outside at p part xs fits (inl lt) =
    let short : length (take at xs) ≡ at = length-take-le at xs (omega arith) in
    get_or_append_left (take at xs) (part ++ drop (at + length part) xs) 0 p (omega arith) ∙ get_or-take at xs p 0 lt
put_outside at p part xs fits (inr ge) =
    let short : length (take at xs) ≡ at = length-take-le at xs (omega arith) in
    let e : at + length part + (p - at - length part) ≡ p = omega arith in
    get_or-append_right (take at xs) (part ++ drop (at + length part) xs) at p 0 short (omega arith)
    ∙ get_or-append_right part (drop (at + length part) xs) (length part) (p - at) 0 refl (omega arith)
    ∙ get_or-drop (at + length part) xs (p - at - length part) 0
    ∙ ap (λ (k : ℕ). get_or xs k 0) e

pub put_within : (at p : ℕ) (part xs : List ℕ) → at + length part ≤ length xs → at ≤ p → p < at + length part
    → get_or (put_in at part xs) p 0 ≡ get_or part (p - at) 0
put_within at p part xs fits from to =
    let short : length (take at xs) ≡ at = length-take-le at xs (omega arith) in
    get_or-append_right (take at xs) (part ++ drop (at + length part) xs) at p 0 short from
    ∙ get_or_append_left part (drop (at + length part) xs) 0 (p - at) (omega arith)

pub joined_len : (n : ℕ) (f : ℕ → List ℕ) → ((b : ℕ) → b < n → length (f b) ≡ 4096) → length (joined n f) ≡ n * 4096
joined_len zero f whole = omega arith
joined_len (suc n) f whole =
    let rest = joined_len n (λ b. f (suc b)) (λ b lt. whole (suc b) (omega arith)) in
    let first = whole 0 (omega arith) in
    length-append (f 0) (joined n (λ b. f (suc b))) ∙ omega (arith, rest, first)

-- a byte of whole blocks
pub byte_of : (n : ℕ) (f : ℕ → List ℕ) → ((b : ℕ) → b < n → length (f b) ≡ 4096) → (p : ℕ) → p < n * 4096
    → get_or (joined n f) p 0 ≡ get_or (f (p / 4096)) (p % 4096) 0
byte_of zero f whole p lt = absurd (omega arith)
byte_of (suc n) f whole p lt =
    let size = whole 0 (omega arith) in
    elim (cases_lt p 4096) [
      | inl first ↦
          let q : 0 ≡ p / 4096 = omega arith in
          let r : p ≡ p % 4096 = omega arith in
          get_or_append_left (f 0) (joined n (λ b. f (suc b))) 0 p (omega (arith, size, first))
          ∙ ap (λ (k : ℕ). get_or (f k) p 0) q ∙ ap (λ (k : ℕ). get_or (f (p / 4096)) k 0) r
      | inr later ↦
          let q : suc ((p - 4096) / 4096) ≡ p / 4096 = omega arith in
          let r : (p - 4096) % 4096 ≡ p % 4096 = omega arith in
          get_or-append_right (f 0) (joined n (λ b. f (suc b))) 4096 p 0 size later
          ∙ byte_of n (λ b. f (suc b)) (λ b lt. whole (suc b) (omega arith)) (p - 4096) (omega arith)
          ∙ ap (λ (k : ℕ). get_or (f k) ((p - 4096) % 4096) 0) q ∙ ap (λ (k : ℕ). get_or (f (p / 4096)) k 0) r
    ]

-- a part put into one block is put into the bytes of all
pub joined_put : (n : ℕ) (f g : ℕ → List ℕ) (number from : ℕ) (part : List ℕ) → ((b : ℕ) → b < n → length (f b) ≡ 4096) → number < n
    → from + length part ≤ 4096 → g number ≡ put_in from part (f number) → ((b : ℕ) → b < n → b ≢ number → g b ≡ f b)
    → joined n g ≡ put_in (number * 4096 + from) part (joined n f)
joined_put n f g number from part whole there fits here other =
    let at = number * 4096 + from in
    let size : length (joined n f) ≡ n * 4096 = joined_len n f whole in
    let room : length part + from ≤ length (f number) = let e = whole number there in omega (arith, e, fits) in
    let both : (b : ℕ) → b < n → length (g b) ≡ 4096 =
    λ b lt. elim (cases_eq b number) [
      | inl e ↦ ap (λ (k : ℕ). length (g k)) e ∙ ap (λ (l : List ℕ). length l) here ∙ len_put from part (f number) (omega (arith, room)) ∙ whole number there
      | inr ne ↦ ap (λ (l : List ℕ). length l) (other b lt ne) ∙ whole b lt
    ] in
    let within : at + length part ≤ length (joined n f) = omega (arith, size, there, fits) in
    let byte : (p : ℕ) → p < n * 4096 → get_or (joined n f) p 0 ≡ get_or (f (p / 4096)) (p % 4096) 0 = byte_of n f whole in
    let len : length (joined n g) ≡ length (put_in at part (joined n f)) = joined_len n g both ∙ sym size ∙ sym (len_put at part (joined n f) within) in
    ext_get_or 0 (joined n g) (put_in at part (joined n f)) len
    (λ p lt.
    let below : p < n * 4096 = let e = joined_len n g both in omega (arith, e, lt) in
    let block : p / 4096 < n = omega (arith, below) in
    byte_of n g both p below ∙ (elim (cases_eq (p / 4096) number) [
      | inl e ↦
          ap (λ (k : ℕ). get_or (g k) (p % 4096) 0) e ∙ ap (λ (l : List ℕ). get_or l (p % 4096) 0) here
          ∙ (elim (cases_lt p at) [
            | inl before ↦
                put_outside from (p % 4096) part (f number) (omega (arith, room)) (inl (omega (arith, e, before)))
                ∙ sym (ap (λ (k : ℕ). get_or (f k) (p % 4096) 0) e) ∙ sym (byte p below)
                ∙ sym (put_outside at p part (joined n f) within (inl before))
            | inr past ↦ elim (cases_lt p (at + length part)) [
              | inl mine ↦
                  let same : p % 4096 - from ≡ p - at = omega (arith, e, past) in
                  put_within from (p % 4096) part (f number) (omega (arith, room)) (omega (arith, e, past)) (omega (arith, e, mine))
                  ∙ ap (λ (k : ℕ). get_or part k 0) same
                  ∙ sym (put_within at p part (joined n f) within past mine)
              | inr after ↦
                  put_outside from (p % 4096) part (f number) (omega (arith, room)) (inr (omega (arith, e, after)))
                  ∙ sym (ap (λ (k : ℕ). get_or (f k) (p % 4096) 0) e) ∙ sym (byte p below)
                  ∙ sym (put_outside at p part (joined n f) within (inr after))
            ]
          ])
      | inr ne ↦
          let outside : (p < at) ⊎ (at + length part ≤ p) = elim (cases_lt p at) [
            | inl before ↦ inl before
            | inr past ↦ inr (omega (arith, ne, past, fits))
          ] in
          ap (λ (l : List ℕ). get_or l (p % 4096) 0) (other (p / 4096) block ne) ∙ sym (byte p below)
          ∙ sym (put_outside at p part (joined n f) within outside)
    ]))

-- bytes put in one part after the other
pub put_more : (off done count : ℕ) (bytes xs : List ℕ) → done + count ≤ length bytes → off + length bytes ≤ length xs
    → put_in (off + done) (take count (drop done bytes)) (put_in off (take done bytes) xs) ≡ put_in off (take (done + count) bytes) xs
put_more off done count bytes xs most fits =
    let tail : length (drop done bytes) ≡ length bytes - done = length-drop done bytes in
    let l1 : length (take done bytes) ≡ done = length-take-le done bytes (omega (arith, most)) in
    let l2 : length (take count (drop done bytes)) ≡ count = length-take-le count (drop done bytes) (omega (arith, most, tail)) in
    let l3 : length (take (done + count) bytes) ≡ done + count = length-take-le (done + count) bytes most in
    let inner = put_in off (take done bytes) xs in
    let f1 : off + length (take done bytes) ≤ length xs = omega (arith, l1, most, fits) in
    let size : length inner ≡ length xs = len_put off (take done bytes) xs f1 in
    let f2 : off + done + length (take count (drop done bytes)) ≤ length inner = omega (arith, l2, most, fits, size) in
    let f3 : off + length (take (done + count) bytes) ≤ length xs = omega (arith, l3, most, fits) in
    let left = len_put (off + done) (take count (drop done bytes)) inner f2 in
    ext_get_or 0 (put_in (off + done) (take count (drop done bytes)) inner) (put_in off (take (done + count) bytes) xs)
    (left ∙ size ∙ sym (len_put off (take (done + count) bytes) xs f3))
    (λ p lt. elim (cases_lt p (off + done)) [
      | inl before ↦
          put_outside (off + done) p (take count (drop done bytes)) inner f2 (inl before)
          ∙ (elim (cases_lt p off) [
            | inl first ↦
                put_outside off p (take done bytes) xs f1 (inl first) ∙ sym (put_outside off p (take (done + count) bytes) xs f3 (inl first))
            | inr past ↦
                put_within off p (take done bytes) xs f1 past (omega (arith, l1, before))
                ∙ get_or-take done bytes (p - off) 0 (omega (arith, past, before))
                ∙ sym (get_or-take (done + count) bytes (p - off) 0 (omega (arith, past, before)))
                ∙ sym (put_within off p (take (done + count) bytes) xs f3 past (omega (arith, l3, before)))
          ])
      | inr past ↦ elim (cases_lt p (off + done + count)) [
        | inl mine ↦
            let e : done + (p - (off + done)) ≡ p - off = omega (arith, past) in
            put_within (off + done) p (take count (drop done bytes)) inner f2 past (omega (arith, l2, mine))
            ∙ get_or-take count (drop done bytes) (p - (off + done)) 0 (omega (arith, past, mine))
            ∙ get_or-drop done bytes (p - (off + done)) 0
            ∙ ap (λ (k : ℕ). get_or bytes k 0) e
            ∙ sym (get_or-take (done + count) bytes (p - off) 0 (omega (arith, past, mine)))
            ∙ sym (put_within off p (take (done + count) bytes) xs f3 (omega (arith, past)) (omega (arith, l3, mine)))
        | inr after ↦
            put_outside (off + done) p (take count (drop done bytes)) inner f2 (inr (omega (arith, l2, after)))
            ∙ put_outside off p (take done bytes) xs f1 (inr (omega (arith, l1, after)))
            ∙ sym (put_outside off p (take (done + count) bytes) xs f3 (inr (omega (arith, l3, after))))
      ]
    ])

-- bytes read one part after the other
pub read_more : (off done count number from : ℕ) (xs zs ys : List ℕ) (n : ℕ) (f : ℕ → List ℕ) → ((b : ℕ) → b < n → length (f b) ≡ 4096)
    → take (done + count) zs ≡ take done xs ++ ys → done ≤ length xs → length ys ≡ count
    → number ≡ (off + done) / 4096 → from ≡ (off + done) % 4096 → from + count ≤ 4096 → off + done + count ≤ n * 4096
    → ys ≡ take count (drop from (f number)) → ((i : ℕ) → i < done → get_or xs i 0 ≡ get_or (joined n f) (off + i) 0)
    → (i : ℕ) → i < done + count → get_or zs i 0 ≡ get_or (joined n f) (off + i) 0
read_more off done count number from xs zs ys n f whole front le len num at fits room is had i lt =
    let short : length (take done xs) ≡ done = length-take-le done xs le in
    sym (get_or-take (done + count) zs i 0 lt) ∙ ap (λ (l : List ℕ). get_or l i 0) front
    ∙ (elim (cases_lt i done) [
      | inl before ↦
          get_or_append_left (take done xs) ys 0 i (omega (arith, short, before)) ∙ get_or-take done xs i 0 before ∙ had i before
      | inr past ↦
          let q : number ≡ (off + i) / 4096 = omega (arith, num, at, past, lt, fits) in
          let r : from + (i - done) ≡ (off + i) % 4096 = omega (arith, num, at, past, lt, fits) in
          get_or-append_right (take done xs) ys done i 0 short past
          ∙ ap (λ (l : List ℕ). get_or l (i - done) 0) is
          ∙ get_or-take count (drop from (f number)) (i - done) 0 (omega (arith, past, lt))
          ∙ get_or-drop from (f number) (i - done) 0
          ∙ ap (λ (k : ℕ). get_or (f number) k 0) r
          ∙ ap (λ (k : ℕ). get_or (f k) ((off + i) % 4096) 0) q
          ∙ sym (byte_of n f whole (off + i) (omega (arith, lt, room)))
    ])

pub read_all : (off : ℕ) (out xs : List ℕ) (len done : ℕ) → length out ≡ len → len ≤ done → off + len ≤ length xs
    → ((i : ℕ) → i < done → get_or out i 0 ≡ get_or xs (off + i) 0) → out ≡ take len (drop off xs)
read_all off out xs len done is all fits had =
    let tail : length (drop off xs) ≡ length xs - off = length-drop off xs in
    let short : length (take len (drop off xs)) ≡ len = length-take-le len (drop off xs) (omega (arith, tail, fits)) in
    ext_get_or 0 out (take len (drop off xs)) (is ∙ sym short)
    (λ i lt.
    let below : i < len = omega (arith, lt, is) in
    had i (omega (arith, below, all)) ∙ sym (get_or-take len (drop off xs) i 0 below ∙ get_or-drop off xs i 0))
