-- Texts with no newline in them: words, numbers and hexadecimal digits.
use Rattle.std.proofs.Common.{◌≡◌, ℕ, ◌+◌, ◌/◌, ◌%◌, ◌<◌, Bool, true, false, cond, not, ◌&&◌, eqb, ltb, List, [], ◌∷◌, ◌++◌, codes, decimal, refl, arith, ne_eqb, zero, suc}
use Rattle.std.specs.Fmt.{digits, digits_onto, digit_glyph}
use Rattle.std.proofs.lemmas.Bool.{and_parts, and_from}
use Rattle.wire_schedule.specs.Numerals.{hex_digit, hex_text}
use Rattle.wire_tally.proofs.Tests.{by_test}

-- whether a byte is no newline
abbrev is_plain : ℕ → Bool
is_plain byte = not (eqb byte 10)

-- whether a text has no newline
abbrev pub is_one_line : List ℕ → Bool
is_one_line [] = true
is_one_line (byte ∷ bytes) = is_plain byte && is_one_line bytes

-- a text with no newline
pub record OneLine (text : List ℕ) : Type 0 where
  pub plain : is_one_line text ≡ true

-- ---- texts put together

plain_both : (front more : List ℕ) → is_one_line front ≡ true → is_one_line more ≡ true → is_one_line (front ++ more) ≡ true
plain_both [] more plain rest = rest
plain_both (byte ∷ bytes) more plain rest =
    let parts : (is_plain byte ≡ true) × (is_one_line bytes ≡ true) = and_parts _ _ plain in
    and_from _ _ parts.0 (plain_both bytes more parts.1 rest)

-- one behind the other
infixl 65 ◌&◌
pub ◌&◌ : {front more : List ℕ} → OneLine front → OneLine more → OneLine (front ++ more)
◌&◌ {front} {more} one other = record { plain = plain_both front more one.plain other.plain }

-- one of two
pub one_of : {first second : List ℕ} (b : Bool) → OneLine first → OneLine second → OneLine (cond b first second)
one_of true one other = one
one_of false one other = other

-- a text whose bytes are known
pub literal : (text : List ℕ) → is_one_line text ≡ true → OneLine text
literal text plain = record { plain = plain }

pub space : OneLine (codes " ")
space = literal (codes " ") refl

-- ---- numbers

past_newline : (byte : ℕ) → 10 < byte → is_plain byte ≡ true
past_newline byte past = rw (ne_eqb byte 10 (λ newline. omega arith)) refl

glyph_plain : (digit : ℕ) → is_plain (digit_glyph false digit) ≡ true
glyph_plain digit =
    by_test (λ byte. is_plain byte ≡ true) (ltb digit 10) (48 + digit) (87 + digit)
    (λ _. past_newline (48 + digit) (omega arith)) (λ _. past_newline (87 + digit) (omega arith))

digits_onto-plain : (k n : ℕ) (more : List ℕ) → is_one_line more ≡ true → is_one_line (digits_onto k 10 false n more) ≡ true
digits_onto-plain zero n more plain = plain
digits_onto-plain (suc k) n more plain =
    let digit = digit_glyph false (n % 10) in
    let one_more : is_one_line (digit ∷ more) ≡ true = and_from _ _ (glyph_plain (n % 10)) plain in
    by_test (λ text. is_one_line text ≡ true) (eqb (n / 10) 0) (digit ∷ more) (digits_onto k 10 false (n / 10) (digit ∷ more))
    (λ _. one_more) (λ _. digits_onto-plain k (n / 10) (digit ∷ more) one_more)

pub number : (n : ℕ) → OneLine (decimal n)
unfolding digits
number n = record { plain = digits_onto-plain 64 n [] refl }

hex_digit_plain : (n : ℕ) → is_plain (hex_digit n) ≡ true
hex_digit_plain n =
    by_test (λ byte. is_plain byte ≡ true) (ltb n 10) (48 + n) (87 + n)
    (λ _. past_newline (48 + n) (omega arith)) (λ _. past_newline (87 + n) (omega arith))

hex_plain : (bytes : List ℕ) → is_one_line (hex_text bytes) ≡ true
hex_plain [] = refl
hex_plain (byte ∷ bytes) =
    and_from _ _ (hex_digit_plain (byte / 16)) (and_from _ _ (hex_digit_plain (byte % 16)) (hex_plain bytes))

pub hex_digits : (bytes : List ℕ) → OneLine (hex_text bytes)
hex_digits bytes = record { plain = hex_plain bytes }
