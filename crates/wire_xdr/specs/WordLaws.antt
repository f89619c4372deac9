-- The laws of words: each is read exactly where it is spelled.
use Rattle.std.proofs.Common.{◌≡◌, ℕ, zero, suc, ◌+◌, ◌-◌, ◌^◌, ◌<◌, ◌≤◌, min, Bool, true, false, cond, ltb, eqb, List, ◌++◌, length, get_or, take, drop, replicate, Option, Some, None, Result, Ok, Err, ◌⊎◌, inl, inr, refl, sym, ap, subst, ◌∙◌, append_assoc, arith}
use Rattle.std.specs.Prelude.{ℤ, FitsSigned, position}
use Rattle.std.specs.List.{position_or_len}
use Rattle.std.specs.Int.{Width, w32, w64, byte_len, from_be_bytes, to_be_bytes, cast_signed, cast_unsigned}
use Rattle.std.proofs.lemmas.Bool.{ltb-false, le-ltb, eqb-true, not-false}
use Rattle.std.proofs.lemmas.List.{take_at, drop_at, take-append-drop, length-append, length-take, length-drop, length-replicate, ext_get_or, get_or-replicate}
use Rattle.std.proofs.lemmas.List.Quantifiers.{position-Some}
use Rattle.std.proofs.lemmas.List.Sums.{fails_before_first}
use Rattle.std.proofs.lemmas.Nat.{be_bytes_4, be_bytes_8, from_be_bytes-to_be_bytes_4, from_be_bytes-to_be_bytes_8}
use Rattle.std.proofs.lemmas.Int.{of_z-to_z, to_z-of_z}
use Rattle.std.proofs.Math.Facts.{sfits_to_z, Fits-of_z}
use Rattle.std.proofs.Math.Seq.{take-add}
use Rattle.wire_xdr.specs.declared.fault.XdrFault.{XdrFault}
use Rattle.wire_xdr.specs.declared.fault.XdrFault.TheVariants.{Short, BadPad, BadFlag, TooLong}
use Rattle.wire_xdr.specs.Cursor.{Cursor, IsBytes, past, ◌>>=◌}
use Rattle.wire_xdr.specs.Words.{number_at, signed_at, flag_at, count_at, padding, is_nonzero, unless_nonzero, fixed_at, opaque_at, word_bytes, hyper_bytes, signed_bytes, flag_bytes, fixed_bytes, opaque_bytes}
use Rattle.wire_xdr.specs.Form.{Passes, IsForm, IsWithin, place, placed}
use Rattle.wire_xdr.specs.StepLaws.{IsBytes-drop, IsBytes-take, bind_ok, guard_ok, placed_ok, ok_is, Passes-then, bind_err, guard_err, not_err, placed_err, at_start, place_behind}
use Rattle.wire_xdr.specs.WordReads.{word_read, hyper_read, signed_read, flag_read, count_read, fixed_read, opaque_read, between_read}

-- ---- numbers

-- what the laws need to know of a width
record IsWide (w : Width) (limit : ℕ) : Type 0 where
  len : (n : ℕ) → length (to_be_bytes w n) ≡ byte_len w
  back : (bytes : List ℕ) → length bytes ≡ byte_len w → IsBytes bytes → to_be_bytes w (from_be_bytes w bytes) ≡ bytes
  again : (n : ℕ) → n < limit → from_be_bytes w (to_be_bytes w n) ≡ n
  below : (bytes : List ℕ) → IsBytes bytes → from_be_bytes w bytes < limit

wide32 : IsWide w32 (2 ^ 32)
wide32 = record {
  len = λ n. refl;
  back = λ bytes len fits. be_bytes_4 bytes _ len fits refl;
  again = λ n lt. from_be_bytes-to_be_bytes_4 n lt;
  below = λ bytes fits. omega (arith, fits 0, fits 1, fits 2, fits 3);
}

wide64 : IsWide w64 (2 ^ 64)
wide64 = record {
  len = λ n. refl;
  back = λ bytes len fits. be_bytes_8 bytes _ len fits refl;
  again = λ n lt. from_be_bytes-to_be_bytes_8 n lt;
  below = λ bytes fits. omega (arith, fits 0, fits 1, fits 2, fits 3, fits 4, fits 5, fits 6, fits 7);
}

number_takes : (w : Width) (limit : ℕ) (wide : IsWide w limit) (old : Cursor) (n : ℕ) (new : Cursor) → IsBytes old.rest → number_at w old ≡ Ok (n, new) → Passes old (to_be_bytes w n) new × (n < limit)
number_takes w limit wide old n new fits e =
    let g = guard_ok (ltb (length old.rest) (byte_len w)) (Short (byte_len w) (length old.rest)) (Ok (from_be_bytes w (take (byte_len w) old.rest), past (byte_len w) old)) (n, new) e in
    let long : byte_len w ≤ length old.rest = ltb-false _ _ g.0 in
    let front = take (byte_len w) old.rest in
    let n-is : from_be_bytes w front ≡ n = ap (λ (p : ℕ × Cursor). p.0) (ok_is {E = XdrFault} (from_be_bytes w front, past (byte_len w) old) (n, new) g.1) in
    let new-is : past (byte_len w) old ≡ new = ap (λ (p : ℕ × Cursor). p.1) (ok_is {E = XdrFault} (from_be_bytes w front, past (byte_len w) old) (n, new) g.1) in
    let front-is : to_be_bytes w n ≡ front = rw (← n-is) (wide.back front (omega (arith, length-take (byte_len w) old.rest)) (IsBytes-take (byte_len w) old.rest fits)) in (
      record {
        parts = rw (front-is, ← new-is) (sym (take-append-drop (byte_len w) old.rest));
        by = rw (← new-is, wide.len n) refl;
        bytes = rw (← new-is) (IsBytes-drop (byte_len w) old.rest fits);
      },
      rw (← n-is) (wide.below front (IsBytes-take (byte_len w) old.rest fits)),
    )

number_again : (w : Width) (limit : ℕ) (wide : IsWide w limit) (at n : ℕ) (rest : List ℕ) → n < limit → number_at w (record { at = at; rest = to_be_bytes w n ++ rest }) ≡ Ok (n, record { at = at + length (to_be_bytes w n); rest = rest })
number_again w limit wide at n rest lt =
    let len = wide.len n in
    let long : ltb (length (to_be_bytes w n ++ rest)) (byte_len w) ≡ false = le-ltb _ _ (omega (arith, length-append (to_be_bytes w n) rest)) in
    rw (long, take_at (to_be_bytes w n) rest (byte_len w) len, drop_at (to_be_bytes w n) rest (byte_len w) len, wide.again n lt, len) refl

-- what refuses a word refuses it where it begins
number_place : (w : Width) (c : Cursor) (d : XdrFault) → number_at w c ≡ Err d → place c.at d ≡ c.at
number_place w c d e =
    let short = Short (byte_len w) (length c.rest) in
    elim (guard_err (ltb (length c.rest) (byte_len w)) short (Ok (from_be_bytes w (take (byte_len w) c.rest), past (byte_len w) c)) d e) [
      | inl is ↦ ap (place c.at) (sym is)
      | inr other ↦ absurd (not_err (from_be_bytes w (take (byte_len w) c.rest), past (byte_len w) c) d other.1)
    ]

-- an item all of whose faults name the place where it begins
start_refuses : {A : Type 0} (r : Result A XdrFault) (c : Cursor) (p : ℕ) → ((d : XdrFault) → r ≡ Err d → place c.at d ≡ c.at) → placed c r ≡ Err p → IsWithin c p
start_refuses r c p h e =
    let d = placed_err c r p e in
    at_start c p (sym (h d.0 d.1) ∙ d.2)

pub word_is : IsForm word_read word_bytes (λ n. n < 2 ^ 32)
unfolding word_read word_bytes
word_is = record {
  takes = λ old v new fits e. number_takes w32 (2 ^ 32) wide32 old v new fits (placed_ok old (number_at w32 old) (v, new) e);
  again = λ at v rest lt. ap (placed (record { at = at; rest = to_be_bytes w32 v ++ rest })) (number_again w32 (2 ^ 32) wide32 at v rest lt);
  refuses = λ old p fits e. start_refuses (number_at w32 old) old p (number_place w32 old) e;
}

pub hyper_is : IsForm hyper_read hyper_bytes (λ n. n < 2 ^ 64)
unfolding hyper_read hyper_bytes
hyper_is = record {
  takes = λ old v new fits e. number_takes w64 (2 ^ 64) wide64 old v new fits (placed_ok old (number_at w64 old) (v, new) e);
  again = λ at v rest lt. ap (placed (record { at = at; rest = to_be_bytes w64 v ++ rest })) (number_again w64 (2 ^ 64) wide64 at v rest lt);
  refuses = λ old p fits e. start_refuses (number_at w64 old) old p (number_place w64 old) e;
}

signed_place : (c : Cursor) (d : XdrFault) → signed_at c ≡ Err d → place c.at d ≡ c.at
signed_place c d e =
    elim (bind_err (number_at w64 c) (λ n. Ok (cast_signed w64 n.0, n.1)) d e) [
      | inl first ↦ number_place w64 c d first
      | inr rest ↦ absurd (not_err (cast_signed w64 rest.0.0, rest.0.1) d rest.2)
    ]

pub signed_is : IsForm signed_read signed_bytes (FitsSigned w64)
unfolding signed_read signed_bytes hyper_bytes
signed_is = record {
  takes = λ old z new fits e.
      let b = bind_ok (number_at w64 old) (λ n. Ok (cast_signed w64 n.0, n.1)) (z, new) (placed_ok old (signed_at old) (z, new) e) in
      let t = number_takes w64 (2 ^ 64) wide64 old b.0.0 b.0.1 fits b.1 in
      let P : ℤ × Cursor → Type 0 = λ p. Passes old (to_be_bytes w64 (cast_unsigned w64 p.0)) p.1 × FitsSigned w64 p.0 in
      let back = of_z-to_z w64 b.0.0 t.1 in
      subst P (ok_is {E = XdrFault} (cast_signed w64 b.0.0, b.0.1) (z, new) b.2) (subst (λ (n : ℕ). Passes old (to_be_bytes w64 n) b.0.1) (sym back) t.0, sfits_to_z {w = w64} {n = b.0.0} (omega (arith, t.1)));
  again = λ at z rest fits.
      let n = cast_unsigned w64 z in
      let below : n < 2 ^ 64 = omega (arith, Fits-of_z {w = w64} {z = z} fits) in
      let read = number_again w64 (2 ^ 64) wide64 at n rest below in
      let c : Cursor = record { at = at; rest = to_be_bytes w64 n ++ rest } in
      ap (λ (r : Result (ℕ × Cursor) XdrFault). placed c (r >>= λ n. Ok (cast_signed w64 n.0, n.1))) read ∙ ap (λ (x : ℤ). Ok (x, record { at = at + length (to_be_bytes w64 n); rest = rest })) (to_z-of_z w64 z fits);
  refuses = λ old p fits e. start_refuses (signed_at old) old p (signed_place old) e;
}

flag_back : (n : ℕ) → n ≤ 1 → cond (eqb n 1) 1 0 ≡ n
flag_back zero le = refl
flag_back (suc zero) le = refl
flag_back (suc (suc n)) le = absurd (omega (arith, le))

flag_again : (at : ℕ) (b : Bool) (rest : List ℕ) → flag_at (record { at = at; rest = to_be_bytes w32 (cond b 1 0) ++ rest }) ≡ Ok (b, record { at = at + length (to_be_bytes w32 (cond b 1 0)); rest = rest })
flag_again at true rest = rw (number_again w32 (2 ^ 32) wide32 at 1 rest (omega arith)) refl
flag_again at false rest = rw (number_again w32 (2 ^ 32) wide32 at 0 rest (omega arith)) refl

flag_place : (c : Cursor) (d : XdrFault) → flag_at c ≡ Err d → place c.at d ≡ c.at
flag_place c d e =
    elim (bind_err (number_at w32 c) (λ n. cond (ltb 1 n.0) (Err (BadFlag n.0)) (Ok (eqb n.0 1, n.1))) d e) [
      | inl first ↦ number_place w32 c d first
      | inr rest ↦ elim (guard_err (ltb 1 rest.0.0) (BadFlag rest.0.0) (Ok (eqb rest.0.0 1, rest.0.1)) d rest.2) [
        | inl is ↦ ap (place c.at) (sym is)
        | inr other ↦ absurd (not_err (eqb rest.0.0 1, rest.0.1) d other.1)
      ]
    ]

pub flag_is : IsForm flag_read flag_bytes (λ b. Unit {0})
unfolding flag_read flag_bytes word_bytes
flag_is = record {
  takes = λ old b new fits e.
      let n = bind_ok (number_at w32 old) (λ n. cond (ltb 1 n.0) (Err (BadFlag n.0)) (Ok (eqb n.0 1, n.1))) (b, new) (placed_ok old (flag_at old) (b, new) e) in
      let t = number_takes w32 (2 ^ 32) wide32 old n.0.0 n.0.1 fits n.1 in
      let g = guard_ok (ltb 1 n.0.0) (BadFlag n.0.0) (Ok (eqb n.0.0 1, n.0.1)) (b, new) n.2 in
      let P : Bool × Cursor → Type 0 = λ p. Passes old (to_be_bytes w32 (cond p.0 1 0)) p.1 × Unit {0} in
      subst P (ok_is {E = XdrFault} (eqb n.0.0 1, n.0.1) (b, new) g.1) (subst (λ (k : ℕ). Passes old (to_be_bytes w32 k) n.0.1) (sym (flag_back n.0.0 (ltb-false 1 n.0.0 g.0))) t.0, tt);
  again = λ at b rest h. ap (placed (record { at = at; rest = to_be_bytes w32 (cond b 1 0) ++ rest })) (flag_again at b rest);
  refuses = λ old p fits e. start_refuses (flag_at old) old p (flag_place old) e;
}

-- ---- lengths

count_takes : (max : ℕ) (old : Cursor) (n : ℕ) (new : Cursor) → IsBytes old.rest → count_at max old ≡ Ok (n, new) → Passes old (to_be_bytes w32 n) new × (n ≤ max)
count_takes max old n new fits e =
    let b = bind_ok (number_at w32 old) (λ n. cond (ltb max n.0) (Err (TooLong n.0 max)) (Ok n)) (n, new) e in
    let t = number_takes w32 (2 ^ 32) wide32 old b.0.0 b.0.1 fits b.1 in
    let g = guard_ok (ltb max b.0.0) (TooLong b.0.0 max) (Ok b.0) (n, new) b.2 in
    let P : ℕ × Cursor → Type 0 = λ p. Passes old (to_be_bytes w32 p.0) p.1 × (p.0 ≤ max) in
    subst P (ok_is {E = XdrFault} b.0 (n, new) g.1) (t.0, ltb-false max b.0.0 g.0)

count_again : (max at n : ℕ) (rest : List ℕ) → max < 2 ^ 32 → n ≤ max → count_at max (record { at = at; rest = to_be_bytes w32 n ++ rest }) ≡ Ok (n, record { at = at + length (to_be_bytes w32 n); rest = rest })
count_again max at n rest small le =
    let within : ltb max n ≡ false = le-ltb max n le in
    rw (number_again w32 (2 ^ 32) wide32 at n rest (omega arith), within) refl

count_place : (max : ℕ) (c : Cursor) (d : XdrFault) → count_at max c ≡ Err d → place c.at d ≡ c.at
count_place max c d e =
    elim (bind_err (number_at w32 c) (λ n. cond (ltb max n.0) (Err (TooLong n.0 max)) (Ok n)) d e) [
      | inl first ↦ number_place w32 c d first
      | inr rest ↦ elim (guard_err (ltb max rest.0.0) (TooLong rest.0.0 max) (Ok rest.0) d rest.2) [
        | inl is ↦ ap (place c.at) (sym is)
        | inr other ↦ absurd (not_err rest.0 d other.1)
      ]
    ]

pub count_is : (max : ℕ) → max < 2 ^ 32 → IsForm (count_read max) word_bytes (λ n. n ≤ max)
unfolding count_read word_bytes
count_is max small = record {
  takes = λ old n new fits e. count_takes max old n new fits (placed_ok old (count_at max old) (n, new) e);
  again = λ at n rest le. ap (placed (record { at = at; rest = to_be_bytes w32 n ++ rest })) (count_again max at n rest small le);
  refuses = λ old p fits e. start_refuses (count_at max old) old p (count_place max old) e;
}

-- ---- fields of bytes

none_from_cond : {A : Type 0} (b : Bool) (x : A) → ◌≡◌ {A = Option A} (cond b (Some x) None) None → b ≡ false
none_from_cond true x e = absurd cc
none_from_cond false x e = refl

all_zero : (bytes : List ℕ) → position is_nonzero bytes ≡ None → bytes ≡ replicate (length bytes) 0
all_zero bytes e =
    let past_end : length bytes ≤ position_or_len is_nonzero bytes = ltb-false _ _ (none_from_cond (ltb (position_or_len is_nonzero bytes) (length bytes)) (position_or_len is_nonzero bytes) e) in
    ext_get_or 0 bytes (replicate (length bytes) 0) (sym (length-replicate (length bytes) 0)) (λ i lt.
    let zero_there : get_or bytes i 0 ≡ 0 = eqb-true (get_or bytes i 0) 0 (not-false (eqb (get_or bytes i 0) 0) (fails_before_first is_nonzero bytes i 0 (omega (arith, past_end, lt)))) in
    zero_there ∙ sym (get_or-replicate (length bytes) i 0 0 lt))

zeros_pass : (k : ℕ) → position_or_len is_nonzero (replicate k 0) ≡ k
zeros_pass zero = refl
zeros_pass (suc k) = omega (arith, zeros_pass k)

none_nonzero : (k : ℕ) → position is_nonzero (replicate k 0) ≡ None
none_nonzero k =
    let none : ltb (position_or_len is_nonzero (replicate k 0)) (length {A = ℕ} (replicate k 0)) ≡ false = le-ltb _ _ (omega (arith, zeros_pass k, length-replicate {A = ℕ} k 0)) in
    rw none refl

unless_ok : (o : Option ℕ) (n : ℕ) (c : Cursor) (y : List ℕ × Cursor) → unless_nonzero o n c ≡ Ok y → (o ≡ None) × ((take n c.rest, past (n + padding n) c) ≡ y)
unless_ok None n c y e = (refl, ok_is {E = XdrFault} (take n c.rest, past (n + padding n) c) y e)
unless_ok (Some k) n c y e = absurd cc

-- bytes, zeros and the rest are all that was there
fixed_parts : (n p : ℕ) (bytes : List ℕ) → take p (drop n bytes) ≡ replicate p 0 → bytes ≡ (take n bytes ++ replicate p 0) ++ drop (n + p) bytes
fixed_parts n p bytes e = sym (ap (λ (t : List ℕ). t ++ drop (n + p) bytes) (ap (λ (z : List ℕ). take n bytes ++ z) (sym e) ∙ sym (take-add n p bytes)) ∙ take-append-drop (n + p) bytes)

fixed_takes : (n : ℕ) (old : Cursor) (v : List ℕ) (new : Cursor) → IsBytes old.rest → fixed_at n old ≡ Ok (v, new) → Passes old (fixed_bytes v) new × (length v ≡ n)
unfolding fixed_bytes
fixed_takes n old v new fits e =
    let pads = take (padding n) (drop n old.rest) in
    let g = guard_ok (ltb (length old.rest) (n + padding n)) (Short (min (n + padding n) (2 ^ 64 - 1)) (length old.rest)) (unless_nonzero (position is_nonzero pads) n old) (v, new) e in
    let long : n + padding n ≤ length old.rest = ltb-false _ _ g.0 in
    let u = unless_ok (position is_nonzero pads) n old (v, new) g.1 in
    let pads_len : length pads ≡ padding n = omega (arith, length-take (padding n) (drop n old.rest), length-drop n old.rest, long) in
    let zeros : pads ≡ replicate (padding n) 0 = all_zero pads u.0 ∙ ap (λ (k : ℕ). replicate k 0) pads_len in
    let len : length (take n old.rest) ≡ n = omega (arith, length-take n old.rest, long) in
    let parts = fixed_parts n (padding n) old.rest zeros in
    let P : List ℕ × Cursor → Type 0 = λ x. Passes old (x.0 ++ replicate (padding (length x.0)) 0) x.1 × (length x.0 ≡ n) in
    subst P u.1 (
      record {
        parts = rw len parts;
        by = rw len (omega (arith, length-append (take n old.rest) (replicate (padding n) 0), length-replicate {A = ℕ} (padding n) 0, len));
        bytes = IsBytes-drop (n + padding n) old.rest fits;
      },
      len,
    )

fixed_again : (at : ℕ) (v rest : List ℕ) → fixed_at (length v) (record { at = at; rest = fixed_bytes v ++ rest }) ≡ Ok (v, record { at = at + length (fixed_bytes v); rest = rest })
unfolding fixed_bytes
fixed_again at v rest =
    let n = length v in
    let zeros : List ℕ = replicate (padding n) 0 in
    let whole = (v ++ zeros) ++ rest in
    let zeros_len : length zeros ≡ padding n = length-replicate {A = ℕ} (padding n) 0 in
    let text_len : length (v ++ zeros) ≡ n + padding n = omega (arith, length-append v zeros, zeros_len) in
    let long : ltb (length whole) (n + padding n) ≡ false = le-ltb _ _ (omega (arith, length-append (v ++ zeros) rest, text_len)) in
    let behind : drop n whole ≡ zeros ++ rest = ap (drop n) (append_assoc v zeros rest) ∙ drop_at v (zeros ++ rest) n refl in
    let pads : take (padding n) (drop n whole) ≡ zeros = ap (take (padding n)) behind ∙ take_at zeros rest (padding n) zeros_len in
    let front : take n whole ≡ v = ap (take n) (append_assoc v zeros rest) ∙ take_at v (zeros ++ rest) n refl in
    let none : position is_nonzero (take (padding n) (drop n whole)) ≡ None = ap (position is_nonzero) pads ∙ none_nonzero (padding n) in
    let after : drop (n + padding n) whole ≡ rest = drop_at (v ++ zeros) rest (n + padding n) text_len in
    ap (λ (b : Bool). cond b (Err (Short (min (n + padding n) (2 ^ 64 - 1)) (length whole))) (unless_nonzero (position is_nonzero (take (padding n) (drop n whole))) n (record { at = at; rest = whole }))) long
    ∙ ap (λ (o : Option ℕ). unless_nonzero o n (record { at = at; rest = whole })) none
    ∙ ap (λ (x : List ℕ × List ℕ × ℕ). Ok (x.0, record { at = at + x.2; rest = x.1 })) (let e : (take n whole, drop (n + padding n) whole, n + padding n) ≡ (v, rest, length (v ++ zeros)) = cc (front, after, text_len) in e)

unless_err : (o : Option ℕ) (n : ℕ) (c : Cursor) (d : XdrFault) → unless_nonzero o n c ≡ Err d → (k : ℕ) × (o ≡ Some k) × (BadPad (c.at + n + k) ≡ d)
unless_err None n c d e = absurd cc
unless_err (Some k) n c d e = (k, refl, cc)

-- What refuses bytes names the item's start, or the byte of padding that isn't zero.
fixed_place : (start n : ℕ) (c : Cursor) (d : XdrFault) → fixed_at n c ≡ Err d → (place start d ≡ start) ⊎ IsWithin c (place start d)
fixed_place start n c d e =
    let pads = take (padding n) (drop n c.rest) in
    elim (guard_err (ltb (length c.rest) (n + padding n)) (Short (min (n + padding n) (2 ^ 64 - 1)) (length c.rest)) (unless_nonzero (position is_nonzero pads) n c) d e) [
      | inl is ↦ inl (ap (place start) (sym is))
      | inr other ↦
          let long : n + padding n ≤ length c.rest = ltb-false _ _ other.0 in
          let k = unless_err (position is_nonzero pads) n c d other.1 in
          let below = (position-Some is_nonzero pads k.0 0 k.1).0 in
          let is : c.at + n + k.0 ≡ place start d = ap (place start) k.2 in
          inr (record { start = omega (arith, is); end = omega (arith, is, below, length-take (padding n) (drop n c.rest), long) })
    ]

fixed_refuses : (n : ℕ) (c : Cursor) (p : ℕ) → placed c (fixed_at n c) ≡ Err p → IsWithin c p
fixed_refuses n c p e =
    let d = placed_err c (fixed_at n c) p e in
    elim (fixed_place c.at n c d.0 d.1) [
      | inl is ↦ at_start c p (sym is ∙ d.2)
      | inr within ↦ subst (IsWithin c) d.2 within
    ]

opaque_refuses : (max : ℕ) (c : Cursor) (p : ℕ) → IsBytes c.rest → placed c (opaque_at max c) ≡ Err p → IsWithin c p
unfolding opaque_at
opaque_refuses max c p fits e =
    let d = placed_err c (opaque_at max c) p e in
    elim (bind_err (count_at max c) (λ n. fixed_at n.0 n.1) d.0 d.1) [
      | inl first ↦ at_start c p (sym (count_place max c d.0 first) ∙ d.2)
      | inr rest ↦
          let counted = count_takes max c rest.0.0 rest.0.1 fits rest.1 in
          elim (fixed_place c.at rest.0.0 rest.0.1 d.0 rest.2) [
            | inl is ↦ at_start c p (sym is ∙ d.2)
            | inr within ↦ subst (IsWithin c) d.2 (place_behind c (to_be_bytes w32 rest.0.0) rest.0.1 (place c.at d.0) counted.0 within)
          ]
    ]

pub fixed_is : (n : ℕ) → IsForm (fixed_read n) fixed_bytes (λ v. length v ≡ n)
unfolding fixed_read
fixed_is n = record {
  takes = λ old v new fits e. fixed_takes n old v new fits (placed_ok old (fixed_at n old) (v, new) e);
  again = λ at v rest len. subst (λ (m : ℕ). placed (record { at = at; rest = fixed_bytes v ++ rest }) (fixed_at m (record { at = at; rest = fixed_bytes v ++ rest })) ≡ Ok (v, record { at = at + length (fixed_bytes v); rest = rest })) len (ap (placed (record { at = at; rest = fixed_bytes v ++ rest })) (fixed_again at v rest));
  refuses = λ old p fits e. fixed_refuses n old p e;
}

pub opaque_is : (max : ℕ) → max < 2 ^ 32 → IsForm (opaque_read max) opaque_bytes (λ v. length v ≤ max)
unfolding opaque_read opaque_at opaque_bytes word_bytes
opaque_is max small = record {
  takes = λ old v new fits e.
      let b = bind_ok (count_at max old) (λ n. fixed_at n.0 n.1) (v, new) (placed_ok old (opaque_at max old) (v, new) e) in
      let first = count_takes max old b.0.0 b.0.1 fits b.1 in
      let second = fixed_takes b.0.0 b.0.1 v new first.0.bytes b.2 in
      let both = Passes-then old (to_be_bytes w32 b.0.0) b.0.1 (fixed_bytes v) new first.0 second.0 in
      (subst (λ (k : ℕ). Passes old (to_be_bytes w32 k ++ fixed_bytes v) new) (sym second.1) both, omega (arith, second.1, first.1));
  again = λ at v rest le.
      let len = to_be_bytes w32 (length v) in
      let c : Cursor = record { at = at; rest = (len ++ fixed_bytes v) ++ rest } in
      let regrouped = append_assoc len (fixed_bytes v) rest in
      let start : opaque_at max c ≡ opaque_at max (record { at = at; rest = len ++ (fixed_bytes v ++ rest) }) = ap (λ (r : List ℕ). opaque_at max (record { at = at; rest = r })) regrouped in
      let counted = ap (λ (r : Result (ℕ × Cursor) XdrFault). r >>= λ n. fixed_at n.0 n.1) (count_again max at (length v) (fixed_bytes v ++ rest) small le) in
      let behind : (at + length len) + length (fixed_bytes v) ≡ at + length (len ++ fixed_bytes v) = omega (arith, length-append len (fixed_bytes v)) in
      ap (placed c) (start ∙ counted ∙ fixed_again (at + length len) v rest ∙ ap (λ (k : ℕ). Ok (v, record { at = k; rest = rest })) behind);
  refuses = λ old p fits e. opaque_refuses max old p fits e;
}

-- the length of bytes that are there is what is counted
count_of_opaque : (min max : ℕ) (small : max < 2 ^ 32) (at : ℕ) (v rest : List ℕ) → length v ≤ max → (after : Cursor) × (count_read max (record { at = at; rest = opaque_bytes v ++ rest }) ≡ Ok (length v, after))
unfolding opaque_bytes
count_of_opaque min max small at v rest le =
    (_, ap (λ (r : List ℕ). count_read max (record { at = at; rest = r })) (append_assoc (word_bytes (length v)) (fixed_bytes v) rest) ∙ (count_is max small).again at (length v) (fixed_bytes v ++ rest) le)

pub between_is : (min max : ℕ) → max < 2 ^ 32 → IsForm (between_read min max) opaque_bytes (λ v. (min ≤ length v) × (length v ≤ max))
unfolding between_read
between_is min max small = record {
  takes = λ old v new fits e.
      let n = bind_ok (count_read max old) (λ n. cond (ltb n.0 min) (Err old.at) (opaque_read max old)) (v, new) e in
      let g = guard_ok (ltb n.0.0 min) old.at (opaque_read max old) (v, new) n.2 in
      let t = (opaque_is max small).takes old v new fits g.1 in
      let counted = count_of_opaque min max small old.at v new.rest t.1 in
      let again : count_read max old ≡ Ok (length v, counted.0) = ap (λ (r : List ℕ). count_read max (record { at = old.at; rest = r })) t.0.parts ∙ counted.1 in
      let same : n.0.0 ≡ length v = ap (λ (p : ℕ × Cursor). p.0) (ok_is {E = ℕ} n.0 (length v, counted.0) (sym n.1 ∙ again)) in
      (t.0, (omega (arith, ltb-false n.0.0 min g.0, same), t.1));
  again = λ at v rest fits.
      let c : Cursor = record { at = at; rest = opaque_bytes v ++ rest } in
      let long : ltb (length v) min ≡ false = le-ltb (length v) min fits.0 in
      ap (λ (r : Result (ℕ × Cursor) ℕ). r >>= λ n. cond (ltb n.0 min) (Err at) (opaque_read max c)) (count_of_opaque min max small at v rest fits.1).1
      ∙ ap (λ (b : Bool). cond b (Err at) (opaque_read max c)) long
      ∙ (opaque_is max small).again at v rest fits.1;
  refuses = λ old p fits e.
      elim (bind_err (count_read max old) (λ n. cond (ltb n.0 min) (Err old.at) (opaque_read max old)) p e) [
        | inl first ↦ (count_is max small).refuses old p fits first
        | inr rest ↦ elim (guard_err (ltb rest.0.0 min) old.at (opaque_read max old) p rest.2) [
          | inl is ↦ at_start old p is
          | inr other ↦ (opaque_is max small).refuses old p fits other.1
        ]
      ];
}
