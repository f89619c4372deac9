-- Reading and spelling what is made of smaller forms: pairs, structs, lists with a limit, options, and
-- unions (RFC 4506 sections 4.12 to 4.19).
use Rattle.std.specs.Prelude.{ℕ, zero, suc, ◌≤◌, Bool, true, false, List, [], ◌∷◌, ◌++◌, length, Option, Some, None, IfSome, Result, Ok, ◌≡◌, if◌then◌else◌, Err}
use Rattle.std.specs.List.{flat_map, AllByRecursion}
use Rattle.wire_xdr.specs.Cursor.{Cursor, ◌>>=◌}
use Rattle.wire_xdr.specs.Words.{word_bytes, flag_bytes}
use Rattle.wire_xdr.specs.Form.{Form}
use Rattle.wire_xdr.specs.WordReads.{flag_read, count_read}

-- nothing
abbrev pub void_read : Cursor → Result (Unit {0} × Cursor) ℕ
void_read c = Ok (tt, c)

-- one after the other
abbrev pub both_read : {A B : Type 0} → Form A → Form B → Cursor → Result ((A × B) × Cursor) ℕ
both_read a b c = do
  x ← a.read c
  y ← b.read x.1
  Ok ((x.0, y.0), y.1)

abbrev pub both_spell : {A B : Type 0} → Form A → Form B → (A × B) → List ℕ
both_spell a b v = a.spell v.0 ++ b.spell v.1

abbrev pub both_Fits : {A B : Type 0} → Form A → Form B → (A × B) → Type 0
both_Fits a b v = a.Fits v.0 × b.Fits v.1

-- the same bytes, seen as another type
abbrev pub as_read : {A B : Type 0} → (A → B) → Form A → Cursor → Result (B × Cursor) ℕ
as_read to a c = do
  x ← a.read c
  Ok (to x.0, x.1)

-- a value that passes a test; another is refused where it begins
abbrev pub tested_read : {A : Type 0} → (A → Bool) → Form A → Cursor → Result (A × Cursor) ℕ
tested_read test a c = do
  x ← a.read c
  if test x.0 then Ok x else Err c.at

abbrev pub tested_Fits : {A : Type 0} → (A → Bool) → Form A → A → Type 0
tested_Fits test a v = (test v ≡ true) × a.Fits v

-- n values
unfoldable pub many : {A : Type 0} → Form A → ℕ → Cursor → Result (List A × Cursor) ℕ
many a zero c = Ok ([], c)
many a (suc n) c = do
  x ← a.read c
  xs ← many a n x.1
  Ok (x.0 ∷ xs.0, xs.1)

-- a count, at most max, and that many values
unfoldable pub list_read : {A : Type 0} → ℕ → Form A → Cursor → Result (List A × Cursor) ℕ
list_read max a c = do
  n ← count_read max c
  many a n.0 n.1

unfoldable pub list_spell : {A : Type 0} → Form A → List A → List ℕ
list_spell a vs = word_bytes (length vs) ++ flat_map a.spell vs

abbrev pub list_Fits : {A : Type 0} → ℕ → Form A → List A → Type 0
list_Fits max a vs = (length vs ≤ max) × AllByRecursion a.Fits vs

-- a bool, and the value where it is true
abbrev pub value_if : {A : Type 0} → Bool → Form A → Cursor → Result (Option A × Cursor) ℕ
value_if true a c = do
  x ← a.read c
  Ok (Some x.0, x.1)
value_if false a c = Ok (None, c)

unfoldable pub option_read : {A : Type 0} → Form A → Cursor → Result (Option A × Cursor) ℕ
option_read a c = do
  there ← flag_read c
  value_if there.0 a there.1

unfoldable pub option_spell : {A : Type 0} → Form A → Option A → List ℕ
option_spell a None = flag_bytes false
option_spell a (Some v) = flag_bytes true ++ a.spell v

abbrev pub option_Fits : {A : Type 0} → Form A → Option A → Type 0
option_Fits a v = IfSome v a.Fits
