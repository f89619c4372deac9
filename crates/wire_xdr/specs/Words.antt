-- What reading a word of XDR answers at a cursor (RFC 4506 section 4): the value and the cursor behind
-- it, or the first fault. A length above its limit is told first, then bytes that are missing, then
-- padding that isn't zero.
use Rattle.std.specs.Prelude.{ℕ, ◌+◌, ◌-◌, ◌%◌, ◌^◌, min, ℤ, Bool, not, nat_lt, ◌==◌, if◌then◌else◌, List, ◌++◌, length, take, drop, replicate, position, Option, Some, None, Result, Ok, Err}
use Rattle.std.specs.Int.{Width, w32, w64, byte_len, from_be_bytes, to_be_bytes, cast_signed, cast_unsigned}
use Rattle.wire_xdr.specs.declared.fault.XdrFault.{XdrFault}
use Rattle.wire_xdr.specs.declared.fault.XdrFault.TheVariants.{Short, BadPad, BadFlag, TooLong}
use Rattle.wire_xdr.specs.Cursor.{Cursor, past, ◌>>=◌}

-- a big-endian number (sections 4.1, 4.2 and 4.5)
abbrev pub number_at : Width → Cursor → Result (ℕ × Cursor) XdrFault
number_at w c =
    if nat_lt (length c.rest) (byte_len w)
    then Err (Short (byte_len w) (length c.rest))
    else Ok (from_be_bytes w (take (byte_len w) c.rest), past (byte_len w) c)

-- a signed number of eight bytes, in two's complement (section 4.5)
abbrev pub signed_at : Cursor → Result (ℤ × Cursor) XdrFault
signed_at c = do
  n ← number_at w64 c
  Ok (cast_signed w64 n.0, n.1)

-- a bool: a word 0 or 1 (section 4.4)
abbrev pub flag_at : Cursor → Result (Bool × Cursor) XdrFault
flag_at c = do
  n ← number_at w32 c
  if nat_lt 1 n.0 then Err (BadFlag n.0) else Ok (n.0 == 1, n.1)

-- a length or a count, at most max
abbrev pub count_at : ℕ → Cursor → Result (ℕ × Cursor) XdrFault
count_at max c = do
  n ← number_at w32 c
  if nat_lt max n.0 then Err (TooLong n.0 max) else Ok n

-- how many zeros stand behind n bytes, up to a multiple of four (section 3)
abbrev pub padding : ℕ → ℕ
padding n = (4 - n % 4) % 4

abbrev pub is_nonzero : ℕ → Bool
is_nonzero byte = not (byte == 0)

-- n bytes, once it is known which of the padding bytes behind them is the first that isn't zero
abbrev pub unless_nonzero : Option ℕ → ℕ → Cursor → Result (List ℕ × Cursor) XdrFault
unless_nonzero None n c = Ok (take n c.rest, past (n + padding n) c)
unless_nonzero (Some k) n c = Err (BadPad (c.at + n + k))

-- a field of n bytes and its padding (section 4.9). What Short says is needed ends at 2^64 - 1.
abbrev pub fixed_at : ℕ → Cursor → Result (List ℕ × Cursor) XdrFault
fixed_at n c =
    if nat_lt (length c.rest) (n + padding n)
    then Err (Short (min (n + padding n) (2 ^ 64 - 1)) (length c.rest))
    else unless_nonzero (position is_nonzero (take (padding n) (drop n c.rest))) n c

-- bytes behind their length, with padding (section 4.10)
unfoldable pub opaque_at : ℕ → Cursor → Result (List ℕ × Cursor) XdrFault
opaque_at max c = do
  n ← count_at max c
  fixed_at n.0 n.1

-- The spelling of each word, apart from reading and writing.

unfoldable pub word_bytes : ℕ → List ℕ
word_bytes n = to_be_bytes w32 n

unfoldable pub hyper_bytes : ℕ → List ℕ
hyper_bytes n = to_be_bytes w64 n

unfoldable pub signed_bytes : ℤ → List ℕ
signed_bytes z = hyper_bytes (cast_unsigned w64 z)

unfoldable pub flag_bytes : Bool → List ℕ
flag_bytes b = word_bytes (if b then 1 else 0)

unfoldable pub fixed_bytes : List ℕ → List ℕ
fixed_bytes bytes = bytes ++ replicate (padding (length bytes)) 0

unfoldable pub opaque_bytes : List ℕ → List ℕ
opaque_bytes bytes = word_bytes (length bytes) ++ fixed_bytes bytes
