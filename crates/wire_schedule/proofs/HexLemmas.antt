-- The hexadecimal digits of bytes.
use Rattle.std.proofs.Common.{◌≡◌, ℕ, ◌+◌, ◌<◌, ◌/◌, ◌%◌, List, [], ◌∷◌, length, refl, sym, ap, ◌∙◌, ◌*◌, ◌≤◌, None, Some, Bool, true, false, cond, All, arith, ◌-◌, option_and_then, inl, inr}
use Rattle.std.proofs.lemmas.List.Elements.{All-nil, All-cons, All-head, All-tail}
use Rattle.std.proofs.lemmas.Bool.{leb-true, lt-ltb, le-ltb, le-leb, lt-leb, and_parts, and_from, cases_lt}
use Rattle.std.proofs.lemmas.Option.{cond_some, option_and_then_some, same_Some}
use Rattle.wire_schedule.specs.Admission.{is_between}
use Rattle.wire_schedule.specs.Numerals.{hex_digit, hex_text}
use Rattle.wire_schedule.specs.Numerals.{hex_value, byte_of, bytes_from, bytes_of}

-- a digit reads as its value
value_of-digit : (v : ℕ) → v < 16 → hex_value (hex_digit v) ≡ Some v
unfolding hex_value
value_of-digit v small = elim (cases_lt v 10) [
  | inl low ↦
      let digit : hex_digit v ≡ 48 + v = rw (lt-ltb v 10 low) refl in
      rw (digit, le-leb 48 (48 + v) (omega arith), le-leb (48 + v) 57 (omega arith)) (ap (λ n. Some n) (omega arith))
  | inr high ↦
      let digit : hex_digit v ≡ 87 + v = rw (le-ltb v 10 high) refl in
      rw (digit, le-leb 48 (87 + v) (omega arith), lt-leb (87 + v) 57 (omega arith), le-leb 97 (87 + v) (omega arith), le-leb (87 + v) 102 (omega arith)) (ap (λ n. Some n) (omega arith))
]

-- and no other byte does
digit-value_of : (byte v : ℕ) → hex_value byte ≡ Some v → (v < 16) × (byte ≡ hex_digit v)
unfolding hex_value
digit-value_of byte v is =
    let by_first : (test : Bool) → is_between 48 57 byte ≡ test → cond test (Some (byte - 48)) (cond (is_between 97 102 byte) (Some (byte - 87)) None) ≡ Some v → (v < 16) × (byte ≡ hex_digit v) =
    λ test. elim test as (λ b. is_between 48 57 byte ≡ b → cond b (Some (byte - 48)) (cond (is_between 97 102 byte) (Some (byte - 87)) None) ≡ Some v → (v < 16) × (byte ≡ hex_digit v)) [
      | true ↦ λ within given.
          let same : byte - 48 ≡ v = same_Some _ _ given in
          let tests = and_parts _ _ within in
          let low : 48 ≤ byte = leb-true 48 byte tests.0 in
          let high : byte ≤ 57 = leb-true byte 57 tests.1 in
          (omega arith, rw (lt-ltb v 10 (omega arith)) (omega arith))
      | false ↦ λ outside given.
          let both = cond_some _ _ _ given in
          let same : byte - 87 ≡ v = both.1 in
          let tests = and_parts _ _ both.0 in
          let low : 97 ≤ byte = leb-true 97 byte tests.0 in
          let high : byte ≤ 102 = leb-true byte 102 tests.1 in
          (omega arith, rw (le-ltb v 10 (omega arith)) (omega arith))
    ] in
    by_first (is_between 48 57 byte) refl is

byte_of-digits : (byte : ℕ) → byte < 256 → byte_of (hex_digit (byte / 16)) (hex_digit (byte % 16)) ≡ Some byte
unfolding byte_of
byte_of-digits byte small =
    rw (value_of-digit (byte / 16) (omega arith), value_of-digit (byte % 16) (omega arith)) (ap (λ n. Some n) (omega arith))

digits-byte_of : (first second byte : ℕ) → byte_of first second ≡ Some byte → (byte < 256) × (first ≡ hex_digit (byte / 16)) × (second ≡ hex_digit (byte % 16))
unfolding byte_of
digits-byte_of first second byte is =
    option_and_then_some (λ high. option_and_then (λ low. Some (16 * high + low)) (hex_value second)) (hex_value first) byte is (λ high first_is rest.
    option_and_then_some (λ low. Some (16 * high + low)) (hex_value second) byte rest (λ low second_is sum.
    let h = digit-value_of first high first_is in
    let l = digit-value_of second low second_is in
    let small : high < 16 = h.0 in
    let small_low : low < 16 = l.0 in
    let same : 16 * high + low ≡ byte = same_Some _ _ sum in
    let over : byte / 16 ≡ high = omega arith in
    let under : byte % 16 ≡ low = omega arith in
    (omega arith, rw over h.1, rw under l.1)))

-- the digits of bytes read as those bytes
pub bytes_from-hex_text : (bytes : List ℕ) → All (λ b. b < 256) bytes → bytes_from (hex_text bytes) ≡ Some bytes
bytes_from-hex_text [] small = refl
bytes_from-hex_text (b ∷ bytes) small =
    rw (byte_of-digits b (All-head (λ x. x < 256) b bytes small), bytes_from-hex_text bytes (All-tail (λ x. x < 256) b bytes small)) refl

-- and no other digits do
pub hex_text-bytes_from : (digits bytes : List ℕ) → bytes_from digits ≡ Some bytes → All (λ b. b < 256) bytes × (digits ≡ hex_text bytes)
hex_text-bytes_from [] bytes is = let same : [] ≡ bytes = same_Some _ _ is in (rw (sym same) (All-nil (λ b. b < 256)), rw (sym same) refl)
hex_text-bytes_from (digit ∷ []) bytes is = absurd (cc is)
hex_text-bytes_from (first ∷ second ∷ digits) bytes is =
    option_and_then_some (λ byte. option_and_then (λ more. Some (byte ∷ more)) (bytes_from digits)) (byte_of first second) bytes is (λ byte byte_is rest.
    option_and_then_some (λ more. Some (byte ∷ more)) (bytes_from digits) bytes rest (λ more more_is all.
    let one = digits-byte_of first second byte byte_is in
    let others = hex_text-bytes_from digits more more_is in
    let same : byte ∷ more ≡ bytes = same_Some _ _ all in
    rw (sym same) (All-cons (λ b. b < 256) byte more one.0 others.0, rw (sym one.1, sym one.2, sym others.1) refl)))

length-hex_text : (bytes : List ℕ) → length (hex_text bytes) ≡ 2 * length bytes
length-hex_text [] = refl
length-hex_text (b ∷ bytes) = omega (arith, length-hex_text bytes)

-- the same of a word
pub bytes_of-hex_text : (bytes : List ℕ) → All (λ b. b < 256) bytes → is_between 1 65536 (length bytes) ≡ true → bytes_of (hex_text bytes) ≡ Some bytes
unfolding bytes_of
bytes_of-hex_text bytes small within =
    let tests = and_parts _ _ within in
    let low : 1 ≤ length bytes = leb-true 1 (length bytes) tests.0 in
    let high : length bytes ≤ 65536 = leb-true (length bytes) 65536 tests.1 in
    let len = length-hex_text bytes in
    rw (le-leb 2 (length (hex_text bytes)) (omega arith), le-leb (length (hex_text bytes)) 131072 (omega arith)) (bytes_from-hex_text bytes small)

pub hex_text-bytes_of : (word bytes : List ℕ) → bytes_of word ≡ Some bytes → (is_between 1 65536 (length bytes) ≡ true) × All (λ b. b < 256) bytes × (word ≡ hex_text bytes)
unfolding bytes_of
hex_text-bytes_of word bytes is =
    let by_test : (test : Bool) → is_between 2 131072 (length word) ≡ test → cond test (bytes_from word) None ≡ Some bytes → (is_between 1 65536 (length bytes) ≡ true) × All (λ b. b < 256) bytes × (word ≡ hex_text bytes) =
    λ test. elim test as (λ b. is_between 2 131072 (length word) ≡ b → cond b (bytes_from word) None ≡ Some bytes → (is_between 1 65536 (length bytes) ≡ true) × All (λ b. b < 256) bytes × (word ≡ hex_text bytes)) [
      | true ↦ λ within given.
          let reads = hex_text-bytes_from word bytes given in
          let tests = and_parts _ _ within in
          let low : 2 ≤ length word = leb-true 2 (length word) tests.0 in
          let high : length word ≤ 131072 = leb-true (length word) 131072 tests.1 in
          let len : length word ≡ 2 * length bytes = ap length reads.1 ∙ length-hex_text bytes in
          (and_from _ _ (le-leb 1 (length bytes) (omega arith)) (le-leb (length bytes) 65536 (omega arith)), reads.0, reads.1)
      | false ↦ λ outside given. absurd (cc given)
    ] in
    by_test (is_between 2 131072 (length word)) refl is
