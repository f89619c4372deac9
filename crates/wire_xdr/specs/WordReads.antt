-- Reading words, with the place of what is refused in place of the fault.
use Rattle.std.specs.Prelude.{nat_lt, if◌then◌else◌, Err, ℕ, ℤ, Bool, List, Result}
use Rattle.std.specs.Int.{w32, w64}
use Rattle.wire_xdr.specs.Cursor.{Cursor, ◌>>=◌}
use Rattle.wire_xdr.specs.Words.{number_at, signed_at, flag_at, count_at, fixed_at, opaque_at}
use Rattle.wire_xdr.specs.Form.{placed}

unfoldable pub word_read : Cursor → Result (ℕ × Cursor) ℕ
word_read c = placed c (number_at w32 c)

unfoldable pub hyper_read : Cursor → Result (ℕ × Cursor) ℕ
hyper_read c = placed c (number_at w64 c)

unfoldable pub signed_read : Cursor → Result (ℤ × Cursor) ℕ
signed_read c = placed c (signed_at c)

unfoldable pub flag_read : Cursor → Result (Bool × Cursor) ℕ
flag_read c = placed c (flag_at c)

unfoldable pub count_read : ℕ → Cursor → Result (ℕ × Cursor) ℕ
count_read max c = placed c (count_at max c)

unfoldable pub fixed_read : ℕ → Cursor → Result (List ℕ × Cursor) ℕ
fixed_read n c = placed c (fixed_at n c)

unfoldable pub opaque_read : ℕ → Cursor → Result (List ℕ × Cursor) ℕ
opaque_read max c = placed c (opaque_at max c)

-- bytes behind their length, which is at least min and at most max; a shorter length is refused at the
-- length, whatever stands behind it
unfoldable pub between_read : ℕ → ℕ → Cursor → Result (List ℕ × Cursor) ℕ
between_read min max c = do
  n ← count_read max c
  if nat_lt n.0 min then Err c.at else opaque_read max c
