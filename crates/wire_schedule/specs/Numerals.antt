-- Numbers and bytes as they are spelled in a schedule. Own format.
use Rattle.std.specs.Prelude.{ℕ, ◌+◌, ◌-◌, ◌*◌, ◌/◌, ◌%◌, ◌^◌, nat_lt, ◌==◌, ◌&&◌, Option, None, Some, option_and_then, List, [], ◌∷◌, length, if◌then◌else◌}
use Rattle.wire_schedule.specs.Admission.{is_between}

-- what follows from a value, where there is one
infixl 10 ◌>>=◌
abbrev pub ◌>>=◌ : {A B : Type 0} → Option A → (A → Option B) → Option B
value >>= next = option_and_then next value

-- a number with one more digit, where the byte is one and the number stays below 2^64
unfoldable pub with_digit : ℕ → ℕ → Option ℕ
with_digit n byte = if is_between 48 57 byte && nat_lt (n * 10 + (byte - 48)) (2 ^ 64) then Some (n * 10 + (byte - 48)) else None

-- a number with more digits
abbrev pub number_from : ℕ → List ℕ → Option ℕ
number_from n [] = Some n
number_from n (byte ∷ bytes) = do
  more ← with_digit n byte
  number_from more bytes

-- A word as a number below 2^64: decimal digits, with no sign and no leading zero.
unfoldable pub number_of : List ℕ → Option ℕ
number_of [] = None
number_of (byte ∷ []) = with_digit 0 byte
number_of (byte ∷ next ∷ bytes) = if byte == 48 then None else number_from 0 (byte ∷ next ∷ bytes)

-- a word as a number below a limit
unfoldable pub number_below : ℕ → List ℕ → Option ℕ
number_below limit word = do
  n ← number_of word
  if nat_lt n limit then Some n else None

-- what a lower-case hexadecimal digit stands for
unfoldable pub hex_value : ℕ → Option ℕ
hex_value byte = if is_between 48 57 byte then Some (byte - 48) else (if is_between 97 102 byte then Some (byte - 87) else None)

-- the byte that two digits stand for
unfoldable pub byte_of : ℕ → ℕ → Option ℕ
byte_of first second = do
  high ← hex_value first
  low ← hex_value second
  Some (16 * high + low)

-- the bytes that the digits stand for, two for each
abbrev pub bytes_from : List ℕ → Option (List ℕ)
bytes_from [] = Some []
bytes_from (digit ∷ []) = None
bytes_from (first ∷ second ∷ digits) = do
  byte ← byte_of first second
  bytes ← bytes_from digits
  Some (byte ∷ bytes)

-- A word as bytes: 2 to 131,072 lower-case hexadecimal digits, an even number.
unfoldable pub bytes_of : List ℕ → Option (List ℕ)
bytes_of word = if is_between 2 131072 (length word) then bytes_from word else None

-- a hexadecimal digit, in lower case
abbrev pub hex_digit : ℕ → ℕ
hex_digit n = if nat_lt n 10 then 48 + n else 87 + n

-- two digits for each byte
abbrev pub hex_text : List ℕ → List ℕ
hex_text [] = []
hex_text (b ∷ bs) = hex_digit (b / 16) ∷ hex_digit (b % 16) ∷ hex_text bs
