-- A form: how values of one type are spelled in bytes, apart from it how such a spelling is read, and
-- the law that the two agree (RFC 4506 section 4).
use Rattle.std.specs.Prelude.{◌≡◌, ℕ, ◌+◌, ◌≤◌, List, ◌++◌, length, Result, Ok, Err}
use Rattle.wire_xdr.specs.declared.fault.XdrFault.{XdrFault}
use Rattle.wire_xdr.specs.declared.fault.XdrFault.TheVariants.{BadPad}
use Rattle.wire_xdr.specs.Cursor.{Cursor, IsBytes}

-- Reading went over exactly this text.
pub record Passes (old : Cursor) (text : List ℕ) (new : Cursor) : Type 0 where
  pub parts : old.rest ≡ text ++ new.rest
  pub by : new.at ≡ old.at + length text
  pub bytes : IsBytes new.rest

-- a place of the bytes left, or the end of them
pub record IsWithin (c : Cursor) (place : ℕ) : Type 0 where
  pub start : c.at ≤ place
  pub end : place ≤ c.at + length c.rest

-- A value is read exactly where the bytes begin with its spelling.
pub record IsForm {A : Type 0} (read : Cursor → Result (A × Cursor) ℕ) (spell : A → List ℕ) (Fits : A → Type 0) : Type 0 where
  -- what is read is a value that has a spelling, and the bytes passed are that spelling
  pub takes : (old : Cursor) (v : A) (new : Cursor) → IsBytes old.rest → read old ≡ Ok (v, new) → Passes old (spell v) new × Fits v
  -- what is spelled is read again, whatever stands behind it
  pub again : (at : ℕ) (v : A) (rest : List ℕ) → Fits v → read (record { at = at; rest = spell v ++ rest }) ≡ Ok (v, record { at = at + length (spell v); rest = rest })
  -- what is refused is refused at a place of the bytes
  pub refuses : (old : Cursor) (place : ℕ) → IsBytes old.rest → read old ≡ Err place → IsWithin old place

pub record Form (A : Type 0) : Type 1 where
  -- Reading from left to right. A refusal names the place of the item that is refused: where a word, a
  -- length or a field of bytes begins, or the byte of padding; for an unknown tag where the tag begins.
  pub read : Cursor → Result (A × Cursor) ℕ
  -- the one spelling of a value
  pub spell : A → List ℕ
  -- which values have a spelling
  pub Fits : A → Type 0
  pub lawful : IsForm read spell Fits

-- the bytes spell the value
abbrev pub Spells : {A : Type 0} → Form A → A → List ℕ → Type 0
Spells form v bytes = form.Fits v × (bytes ≡ form.spell v)

-- the place of a fault of an item that begins at `start`
abbrev pub place : ℕ → XdrFault → ℕ
place start (BadPad at) = at
place start _ = start

abbrev pub placed : {A : Type 0} → Cursor → Result A XdrFault → Result A ℕ
placed c (Ok x) = Ok x
placed c (Err e) = Err (place c.at e)
