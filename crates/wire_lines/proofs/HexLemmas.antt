-- The hexadecimal digits of bytes, one byte more.
use Rattle.std.proofs.lemmas.Str.{encode_ascii}
use Rattle.std.proofs.Common.{◌≡◌, ℕ, ◌+◌, ◌<◌, ◌/◌, ◌%◌, List, [], ◌∷◌, ◌++◌, length, get_or, take, refl, sym, ap, ◌∙◌, encode_utf8}
use Rattle.std.proofs.lemmas.List.{take_more}
use Rattle.wire_schedule.specs.Numerals.{hex_digit, hex_text}

hex_text-push : (bytes : List ℕ) (byte : ℕ) → hex_text (bytes ++ byte ∷ []) ≡ hex_text bytes ++ hex_digit (byte / 16) ∷ hex_digit (byte % 16) ∷ []
hex_text-push [] byte = refl
hex_text-push (b ∷ bytes) byte = ap (λ digits. hex_digit (b / 16) ∷ hex_digit (b % 16) ∷ digits) (hex_text-push bytes byte)

-- the digits of one byte more
pub digits_more : (bytes : List ℕ) (at high low : ℕ) → at < length bytes
    → high < 128 → high ≡ hex_digit (get_or bytes at 0 / 16)
    → low < 128 → low ≡ hex_digit (get_or bytes at 0 % 16)
    → hex_text (take at bytes) ++ (encode_utf8 high ++ encode_utf8 low) ≡ hex_text (take (at + 1) bytes)
digits_more bytes at high low lt one first_is other second_is =
    let both : encode_utf8 high ++ encode_utf8 low ≡ high ∷ low ∷ [] =
    ap (λ (digits : List ℕ). digits ++ encode_utf8 low) (encode_ascii high one)
    ∙ ap (λ (digits : List ℕ). high ∷ digits) (encode_ascii low other) in
    ap (λ (digits : List ℕ). hex_text (take at bytes) ++ digits) both
    ∙ rw (first_is, second_is) (sym (hex_text-push (take at bytes) (get_or bytes at 0))
    ∙ ap hex_text (sym (take_more bytes at 0 lt)))
